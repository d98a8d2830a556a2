use Rattle.std.proofs.Common.{◌≡◌, ◌∙◌, ◌<◌, ◌-◌, ℕ, List, [], Err, ap, sym, subst, arith, rules}
use Rattle.mrp_report.specs.wave.Chunks.{between, count_of, end_of, row_of, rows_from, rows_in}
use Rattle.mrp_report.specs.Written.{HasTaken, Writes}
use Rattle.mrp_report.proofs.lemmas.wave.ChunkTexts.{reach-past, rows-between, rows-same}
use Rattle.mrp_report.proofs.lemmas.wave.PlacesWritten.{next-wave, wave-failed}
use Rattle.mrp_report.proofs.Progress.{IsWritten, ends-done, taken-whole}
use Rattle.mrp_report.proofs.wave.write_waves.Goals as goal

pub loop-from-preserved : goal.loop-from-preserved
loop-from-preserved g c =
    let chunks = c.args.chunks.now in
    let at = c.loop-from in
    let size : ℕ = c.min-size.result in
    let same : rows_from chunks c.new-wave.result.from c.new-wave.result.count ≡ rows_from chunks at.from size = rows-same chunks c.new-wave.ensures.from c.new-wave.ensures.count in
    let taken : HasTaken g.W.Write.contents at.writer c.write_wave.new.writer (rows_from chunks at.from size) (at.tries - c.write_wave.new.tries) =
    subst (λ (t : List ℕ). HasTaken g.W.Write.contents at.writer c.write_wave.new.writer t (at.tries - c.write_wave.new.tries)) same c.in_ok-write_wave.ensures.whole in (
      omega (arith, c.reach-from.ensures),
      subst (λ (n : ℕ). IsWritten g.W.Write.contents c.args.writer.now c.write_wave.new.writer c.args.tries.now c.write_wave.new.tries [] (between (row_of chunks) 0 n)) (sym c.reach-from.ensures)
          (next-wave g.W.Write.contents c.args.writer.now c.args.tries.now at.writer c.write_wave.new.writer at.tries c.write_wave.new.tries chunks at.from size at.invariant.0
          at.invariant.1 c.in_ok-write_wave.ensures.tries taken),
    )

pub loop-from-smaller : goal.loop-from-smaller
loop-from-smaller g c =
    let chunks = c.args.chunks.now in
    let some : 0 < c.min-size.result = omega (arith, c.min-size.ensures, c.left.ensures.some, c.in_wave-most.ensures) in
    let within : c.loop-from.from < count_of chunks = omega (arith, c.count-count.ensures, c.loop-from-test.true) in
    let past : c.loop-from.from < end_of chunks c.loop-from.from c.min-size.result = reach-past (count_of chunks) chunks.size c.loop-from.from c.min-size.result within c.left.ensures.filled some in
    omega (arith, past, within, c.reach-from.ensures, c.count-count.ensures)

pub returns-in_err-write_wave : goal.returns-in_err-write_wave
returns-in_err-write_wave g c =
    let chunks = c.args.chunks.now in
    let at = c.loop-from in
    let size : ℕ = c.min-size.result in
    let same : rows_from chunks c.new-wave.result.from c.new-wave.result.count ≡ rows_from chunks at.from size = rows-same chunks c.new-wave.ensures.from c.new-wave.ensures.count in
    wave-failed g.W.Write.contents c.args.writer.now c.args.tries.now at.writer c.write_wave.new.writer at.tries c.write_wave.new.tries chunks at.from size c.in_err-write_wave.field-0.0
    c.from_residual.result at.invariant.0 at.invariant.1
    (subst (λ (t : List ℕ). Writes {T = Unit {0}} g.W.Write.contents at.writer c.write_wave.new.writer t at.tries c.write_wave.new.tries (Err c.in_err-write_wave.field-0.0)) same c.in_err-write_wave.ensures) (search rules)

pub returns : goal.returns
returns g c =
    let chunks = c.args.chunks.now in
    let w = c.loop-from.invariant.1 in
    let all : c.loop-from.from ≡ count_of chunks = omega (arith, c.loop-from.invariant.0, c.loop-from-test.false) in
    let whole : between (row_of chunks) 0 c.loop-from.from ≡ rows_in chunks = ap (between (row_of chunks) 0) all ∙ sym (rows-between chunks) in
    ends-done g.W.Write.contents c.args.writer.now c.loop-from.writer (rows_in chunks) c.args.tries.now c.loop-from.tries w.within
    (taken-whole g.W.Write.contents c.args.writer.now c.loop-from.writer c.args.tries.now c.loop-from.tries (rows_in chunks)
    (subst (λ (t : List ℕ). IsWritten g.W.Write.contents c.args.writer.now c.loop-from.writer c.args.tries.now c.loop-from.tries [] t) whole w))
