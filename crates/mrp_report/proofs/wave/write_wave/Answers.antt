use Rattle.std.proofs.Common.{◌≡◌, ℕ, [], ap, subst, arith, rules}
use Rattle.mrp_report.specs.wave.Chunks.{rows_from}
use Rattle.mrp_report.proofs.lemmas.wave.PlacesWritten.{chunk-failed, next-chunk, no-chunk}
use Rattle.mrp_report.proofs.Progress.{IsWritten, ends-done, taken-whole}
use Rattle.mrp_report.proofs.wave.write_wave.Goals as goal

pub loop-k-init : goal.loop-k-init
loop-k-init g c = no-chunk g.W.Write.contents c.args.writer.now c.args.tries.now c.args.chunks.now c.args.wave.now.from c.requires.from

pub loop-k-preserved : goal.loop-k-preserved
loop-k-preserved g c =
    let chunks = c.args.chunks.now in
    let at = c.loop-k in
    next-chunk g.W.Write.contents c.args.writer.now c.args.tries.now at.writer c.write_chunk.new.writer at.tries c.write_chunk.new.tries chunks c.args.wave.now.from at.k (rows_from chunks c.reach-from.result 1)
    c.requires.from (ap (λ (a : ℕ). rows_from chunks a 1) c.reach-from.ensures) at.invariant c.in_ok-write_chunk.ensures.tries c.in_ok-write_chunk.ensures.whole

pub returns-in_err-write_chunk : goal.returns-in_err-write_chunk
returns-in_err-write_chunk g c =
    let chunks = c.args.chunks.now in
    let at = c.loop-k in
    chunk-failed g.W.Write.contents c.args.writer.now c.args.tries.now at.writer c.write_chunk.new.writer at.tries c.write_chunk.new.tries chunks c.args.wave.now.from at.k c.args.wave.now.count
    (rows_from chunks c.reach-from.result 1) _ c.from_residual.result c.requires.from (omega arith) (ap (λ (a : ℕ). rows_from chunks a 1) c.reach-from.ensures) at.invariant c.in_err-write_chunk.ensures (search rules)

pub returns : goal.returns
returns g c =
    let at = c.loop-k in
    let from : ℕ = c.args.wave.now.from in
    let count : ℕ = c.args.wave.now.count in
    let all : at.k ≡ count = omega arith in
    let w = at.invariant in
    ends-done g.W.Write.contents c.args.writer.now at.writer (rows_from c.args.chunks.now from count) c.args.tries.now at.tries w.within
    (taken-whole g.W.Write.contents c.args.writer.now at.writer c.args.tries.now at.tries (rows_from c.args.chunks.now from count)
    (subst (λ (n : ℕ). IsWritten g.W.Write.contents c.args.writer.now at.writer c.args.tries.now at.tries [] (rows_from c.args.chunks.now from n)) all w))
