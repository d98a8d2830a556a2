use Rattle.std.proofs.Common.{◌++◌, ◌-◌, [], List, ℕ, sym, subst, refl, rules}
use Rattle.mrp_report.specs.wave.Chunks.{rows_in}
use Rattle.mrp_report.specs.Written.{HasTaken, PassesOn}
use Rattle.mrp_report.proofs.lemmas.wave.PlacesWritten.{written-page}
use Rattle.mrp_report.proofs.Progress.{ends-failed, ends-last, passes-on, written-next, written-none, written-taken}
use Rattle.mrp_report.proofs.report.write_parallel.Goals as goal

pub returns-in_err-hand_over : goal.returns-in_err-hand_over
returns-in_err-hand_over g c =
    let page = c.args.page.now in
    let rows : List ℕ = rows_in c.args.chunks.now in
    ends-failed g.W.Write.contents c.args.writer.now c.args.writer.now c.hand_over.new.writer c.args.tries.now c.args.tries.now c.hand_over.new.tries page page rows (page ++ rows) _ c.from_residual.result
    (written-none g.W.Write.contents c.args.writer.now c.args.tries.now c.args.tries.now page page refl refl) refl c.in_err-hand_over.ensures.written (search rules)

pub returns : goal.returns
returns g c =
    let contents = g.W.Write.contents in
    let old = c.args.writer.now in
    let mid = c.hand_over.new.writer in
    let new = c.write_waves.new.writer in
    let page = c.args.page.now in
    let rows : List ℕ = rows_in c.args.chunks.now in
    let first = c.args.tries.now in
    let tries = c.hand_over.new.tries in
    let left = c.write_waves.new.tries in
    let handed = c.in_ok-hand_over.ensures.written in
    let w = written-next contents old mid first tries page rows (written-page contents old mid first tries page handed.tries handed.whole) in
    ends-last contents old mid new first tries left rows (page ++ rows) (page ++ rows) c.write_waves.result w refl c.write_waves.ensures (λ (taken : HasTaken contents mid new rows (tries - left)).
    subst (λ (kept : List ℕ). PassesOn contents old new (page ++ rows) kept (first - left)) (sym c.in_ok-hand_over.ensures.empty)
    (passes-on contents old new first left [] (page ++ rows) (written-taken contents old mid new first tries left rows (page ++ rows) w c.write_waves.ensures.tries taken)))
