use Rattle.std.proofs.Common.{refl}
use Rattle.csv.proofs.WriteFacts.{escaped-double, escaped-other}
use Rattle.csv.specs.Writing.{default_writer}
use Rattle.mrp_report.proofs.lemmas.page.Puts.{put_then}
use Rattle.mrp_report.proofs.page.quoting.put_escaped.Goals as goal

pub returns-then-byte-eq34-clause-put : goal.returns-then-byte-eq34-clause-put
returns-then-byte-eq34-clause-put c =
    rw (escaped-double default_writer c.args.byte c.if-byte-eq34.true refl) (put_then c.put_byte-next.ensures c.put_byte.ensures)

pub returns-else-byte-eq34-clause-put : goal.returns-else-byte-eq34-clause-put
returns-else-byte-eq34-clause-put c = rw (escaped-other default_writer c.args.byte c.if-byte-eq34.false) c.put_byte-else-byte-eq34.ensures
