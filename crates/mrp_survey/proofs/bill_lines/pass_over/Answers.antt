use Rattle.std.proofs.Common.{◌≡◌, ◌∙◌, ◌+◌, ℕ, suc, ap, arith, drop, refl}
use Rattle.mrp_survey.proofs.BillSteps.{passed-one}
use Rattle.mrp_survey.proofs.bill_lines.pass_over.Goals as goal

pub loop-passed-init : goal.loop-passed-init
loop-passed-init c = refl

pub loop-passed-preserved : goal.loop-passed-preserved
loop-passed-preserved c =
    let next : suc c.loop-passed.passed ≡ c.loop-passed.passed + 1 = omega arith in
    passed-one c.args.records.now c.loop-passed.records c.next.new.self c.loop-passed.passed _ _ c.next.new.row c.in_ok-next.field-0 c.in_ok-next.ensures c.loop-passed.invariant
    ∙ ap (λ (n : ℕ). drop n c.args.records.now) next

pub returns : goal.returns
returns c =
    let end : c.loop-passed.passed ≡ c.args.count = omega (arith, c.loop-passed-test.false, c.loop-passed.auto.passed-end) in
    rw end at c.loop-passed.invariant
