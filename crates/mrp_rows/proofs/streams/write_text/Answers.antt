use Rattle.std.proofs.Common.{arith, ◌≡◌, ◌∙◌}
use Rattle.std.proofs.lemmas.Bool.{ne_eqb}
use Rattle.mrp_rows.specs.Told.{inner_of, interrupted_of}
use Rattle.mrp_rows.proofs.StreamFronts.{appends-more}
use Rattle.mrp_rows.proofs.streams.write_text.Goals as goal

pub loop-at-preserved-in-Ok : goal.loop-at-preserved-in-Ok
loop-at-preserved-in-Ok g c =
    let same : interrupted_of c.write.new.self ≡ interrupted_of c.loop-at.writer = c.in-Ok.ensures.interrupted in
    record {
      within = omega (arith, c.in-Ok.ensures.bound, c.split_at.ensures.back_len);
      written = appends-more (g.W.Write.contents (inner_of c.args.writer.now)) (g.W.Write.contents (inner_of c.loop-at.writer)) (g.W.Write.contents (inner_of c.write.new.self)) c.args.text.now c.split_at.result.1.now c.loop-at.at c.in-Ok.n c.loop-at.invariant.written c.split_at.ensures.back c.in-Ok.ensures.bytes;
      failures = rw (ne_eqb c.in-Ok.n 0 c.in-Ok.n-test.1) at c.in-Ok.ensures.failures ∙ c.loop-at.invariant.failures;
      interrupted = (omega (arith, c.loop-at.invariant.interrupted.0), omega (arith, c.loop-at.invariant.interrupted.1));
      tries = c.loop-at.invariant.tries;
    }
