use Rattle.std.proofs.Common.{ℕ, List, ◌++◌, ◌∷◌, []}
use Rattle.std.proofs.lemmas.Result.{on_err_weaker, on_ok_weaker}
use Rattle.mrp_report.specs.Written.{HasTakenFront}
use Rattle.mrp_report.proofs.Progress.{on-err}
use Rattle.mrp_report.specs.Taken.{HasTakenAll}
use Rattle.mrp_report.proofs.TakenAll.{all-both, front-of-more, front-then}
use Rattle.mrp_runs.proofs.refusal.write_line.Goals as goal

pub returns-in_err-write_whole-clause-front : goal.returns-in_err-write_whole-clause-front
returns-in_err-write_whole-clause-front g c =
    let contents = g.W.Write.contents in
    let now = c.write_whole.new.writer in
    on-err c.from_residual.result
    (front-of-more contents c.args.writer.now now (c.args.head.now ++ c.args.rest.now) (10 ∷ [])
    (front-of-more contents c.args.writer.now now c.args.head.now c.args.rest.now c.in_err-write_whole.ensures.front))

pub returns-in_err-write_whole-2-clause-front : goal.returns-in_err-write_whole-2-clause-front
returns-in_err-write_whole-2-clause-front g c =
    let contents = g.W.Write.contents in
    let now = c.write_whole-2.new.writer in
    on-err c.from_residual-in_err-write_whole-2.result
    (front-of-more contents c.args.writer.now now (c.args.head.now ++ c.args.rest.now) (10 ∷ [])
    (front-then contents c.args.writer.now c.write_whole.new.writer now c.args.head.now c.args.rest.now c.in_ok-write_whole.ensures.whole c.in_err-write_whole-2.ensures.front))

pub returns-clause-whole : goal.returns-clause-whole
returns-clause-whole g c =
    let contents = g.W.Write.contents in
    let told = c.write_whole-2.new.writer in
    let now = c.write_whole-3.new.writer in
    let feed : List ℕ = 10 ∷ [] in
    let both = all-both contents c.args.writer.now c.write_whole.new.writer told c.args.head.now c.args.rest.now c.in_ok-write_whole.ensures.whole c.in_ok-write_whole-2.ensures.whole in
    on_ok_weaker c.write_whole-3.result
    (λ (taken : HasTakenAll contents told now feed). all-both contents c.args.writer.now told now (c.args.head.now ++ c.args.rest.now) feed both taken)
    c.write_whole-3.ensures.whole

pub returns-clause-front : goal.returns-clause-front
returns-clause-front g c =
    let contents = g.W.Write.contents in
    let told = c.write_whole-2.new.writer in
    let now = c.write_whole-3.new.writer in
    let feed : List ℕ = 10 ∷ [] in
    let both = all-both contents c.args.writer.now c.write_whole.new.writer told c.args.head.now c.args.rest.now c.in_ok-write_whole.ensures.whole c.in_ok-write_whole-2.ensures.whole in
    on_err_weaker c.write_whole-3.result
    (λ (front : HasTakenFront contents told now feed). front-then contents c.args.writer.now told now (c.args.head.now ++ c.args.rest.now) feed both front)
    c.write_whole-3.ensures.front
