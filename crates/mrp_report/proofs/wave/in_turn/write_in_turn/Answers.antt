use Rattle.std.proofs.Common.{◌≡◌, ◌∙◌, ◌+◌, ◌≤◌, ◌++◌, ℕ, List, ap, sym, subst, refl, arith, rules}
use Rattle.mrp_report.specs.wave.Chunks.{between, count_of, row_of, rows_in}
use Rattle.mrp_report.proofs.lemmas.wave.ChunkTexts.{places-rest, rows-between}
use Rattle.mrp_report.proofs.lemmas.wave.PlacesWritten.{next-place}
use Rattle.mrp_report.proofs.Progress.{IsWritten, ends-done, ends-failed, passes-on, written-passed}
use Rattle.mrp_report.proofs.wave.in_turn.write_in_turn.Goals as goal

pub returns-in_err-write_place : goal.returns-in_err-write_place
returns-in_err-write_place g c =
    let chunks = c.args.chunks.now in
    let page = c.args.page.now in
    let k = c.loop-place.place in
    let next : List ℕ = c.loop-place.page ++ row_of chunks k in
    let within : k + 1 ≤ count_of chunks = omega (arith, c.loop-place.invariant.0, c.loop-place-test.true) in
    ends-failed g.W.Write.contents c.args.writer.now c.loop-place.writer c.write_place.new.writer c.args.tries.now c.loop-place.tries c.write_place.new.tries next (page ++ between (row_of chunks) 0 (k + 1))
    (between (row_of chunks) (k + 1) (count_of chunks)) (page ++ rows_in chunks) _ c.from_residual.result
    (next-place g.W.Write.contents c.args.writer.now c.args.tries.now c.loop-place.writer c.loop-place.tries c.loop-place.page next page (row_of chunks) 0 k (omega arith) c.loop-place.invariant.1 refl)
    (places-rest chunks (k + 1) page within) c.in_err-write_place.ensures (search rules)

pub loop-place-preserved : goal.loop-place-preserved
loop-place-preserved g c =
    let chunks = c.args.chunks.now in
    let page = c.args.page.now in
    let k = c.loop-place.place in
    let next : List ℕ = c.loop-place.page ++ row_of chunks k in (
      c.loop-place.invariant.0,
      written-passed g.W.Write.contents c.args.writer.now c.loop-place.writer c.write_place.new.writer c.args.tries.now c.loop-place.tries c.write_place.new.tries next c.write_place.new.page (page ++ between (row_of chunks) 0 (k + 1))
          (next-place g.W.Write.contents c.args.writer.now c.args.tries.now c.loop-place.writer c.loop-place.tries c.loop-place.page next page (row_of chunks) 0 k (omega arith) c.loop-place.invariant.1 refl)
          c.in_ok-write_place.ensures.tries c.in_ok-write_place.ensures.whole,
    )

pub returns : goal.returns
returns g c =
    let chunks = c.args.chunks.now in
    let page = c.args.page.now in
    let w = c.loop-place.invariant.1 in
    let all : c.loop-place.place ≡ count_of chunks = omega (arith, c.loop-place.invariant.0, c.loop-place-test.false, c.loop-place.auto.place-end) in
    let whole : page ++ between (row_of chunks) 0 c.loop-place.place ≡ page ++ rows_in chunks = ap (λ (n : ℕ). page ++ between (row_of chunks) 0 n) all ∙ ap (λ (t : List ℕ). page ++ t) (sym (rows-between chunks)) in
    ends-done g.W.Write.contents c.args.writer.now c.loop-place.writer (page ++ rows_in chunks) c.args.tries.now c.loop-place.tries w.within
    (passes-on g.W.Write.contents c.args.writer.now c.loop-place.writer c.args.tries.now c.loop-place.tries c.loop-place.page (page ++ rows_in chunks)
    (subst (λ (t : List ℕ). IsWritten g.W.Write.contents c.args.writer.now c.loop-place.writer c.args.tries.now c.loop-place.tries c.loop-place.page t) whole w))
