use Rattle.std.proofs.Common.{◌∙◌, ℕ, subst, sym}
use Rattle.mrp_turn.proofs.Lists.{starts_via}
use Rattle.mrp_explode.specs.Work.{GivesUp, HasGivenUp}
use Rattle.mrp_explode.proofs.WorkerCalls.{course-given_up, left-off, with-err}
use Rattle.mrp_explode.proofs.working.work.Goals as goal

pub returns-then-is_err-clause-goes_on : goal.returns-then-is_err-clause-goes_on
returns-then-is_err-clause-goes_on g c =
    let old = c.args.worker.now in
    let mid = c.work_on-worked.new.worker in
    let new = c.give_up.new.worker in
    starts_via new.seen mid.seen old.seen c.give_up.ensures.goes_on c.work_on-worked.ensures.goes_on

pub returns-then-is_err-clause-given_up : goal.returns-then-is_err-clause-given_up
returns-then-is_err-clause-given_up g c =
    let s = c.args.inputs.now.value in
    let about = c.args.board.now.about in
    let who = c.args.worker.now.number in
    let mid = c.work_on-worked.new.worker in
    let new = c.give_up.new.worker in
    with-err c.work_on-worked.result (HasGivenUp about s who new.seen new.mine)
    (left-off s who about c.work_on-worked.result mid.seen mid.mine new.seen new.mine (sym c.is_err.ensures.value ∙ c.if-is_err.true) c.work_on-worked.ensures.refused c.give_up.ensures.goes_on
    (subst (λ (n : ℕ). GivesUp about n mid.mine new.seen new.mine) c.work_on-worked.ensures.same.1 c.give_up.ensures.given_up))

pub returns-then-is_err-clause-orderly : goal.returns-then-is_err-clause-orderly
returns-then-is_err-clause-orderly g c =
    let s = c.args.inputs.now.value in
    let about = c.args.board.now.about in
    let who = c.args.worker.now.number in
    let mid = c.work_on-worked.new.worker in
    let new = c.give_up.new.worker in
    course-given_up s who about new.seen new.mine
    (left-off s who about c.work_on-worked.result mid.seen mid.mine new.seen new.mine (sym c.is_err.ensures.value ∙ c.if-is_err.true) c.work_on-worked.ensures.refused c.give_up.ensures.goes_on
    (subst (λ (n : ℕ). GivesUp about n mid.mine new.seen new.mine) c.work_on-worked.ensures.same.1 c.give_up.ensures.given_up))
