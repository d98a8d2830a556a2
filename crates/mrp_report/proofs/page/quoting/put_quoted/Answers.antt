use Rattle.std.proofs.Common.{arith}
use Rattle.std.proofs.lemmas.List.{take_all}
use Rattle.csv.proofs.WriteFacts.{quoted-step}
use Rattle.csv.specs.Writing.{default_writer, escaped}
use Rattle.mrp_report.proofs.lemmas.page.Puts.{put_then}
use Rattle.mrp_report.proofs.page.quoting.put_quoted.Goals as goal

pub loop-byte-init : goal.loop-byte-init
unfolding escaped
loop-byte-init c = record { put = c.put_byte-end.ensures; near = omega (arith, c.put_byte-end.ensures.moved) }

pub loop-byte-preserved : goal.loop-byte-preserved
loop-byte-preserved c =
    let l = c.loop-byte in
    record {
      put = rw (quoted-step default_writer 34 c.args.bytes.now l.byte-index c.loop-byte-test.true) at (put_then l.invariant.put c.put_escaped-end.ensures.put);
      near = omega (arith, c.put_escaped-end.ensures.near, l.invariant.near);
    }

pub returns-clause-near : goal.returns-clause-near
returns-clause-near c = omega (arith, c.loop-byte.invariant.near, c.put_byte.ensures.moved)

pub returns-clause-put : goal.returns-clause-put
returns-clause-put c =
    let l = c.loop-byte in
    rw (take_all l.byte-index c.args.bytes.now (omega arith)) at (put_then l.invariant.put c.put_byte.ensures)
