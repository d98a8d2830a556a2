use Rattle.std.proofs.Common.{◌≡◌, Result, Ok, Err, rules, subst, sym, refl}
use Rattle.std.proofs.Crossing.{crosses}
use denote.Param.Send.{sendable}
use Rattle.std.specs.Prelude.{OnErr, OnOk}
use Rattle.mrp_item.specs.Inputs.{inputs_of}
use Rattle.mrp_engine.specs.day.Planned.{JudgesRun, PlansRun}
use Rattle.mrp_engine.specs.day.RunPlans.{AddsRun, IsOfShop}
use Rattle.mrp_engine.specs.declared.day.fault.DayFault.{DayFault}
use Rattle.mrp_engine.proofs.lemmas.day.RefusedItem.{judged-err}
use Rattle.mrp_engine.proofs.lemmas.day.RunsPlanned.{last-of-shop}
use Rattle.mrp_engine.proofs.day.runs.plan_one.Goals as goal

pub plan_or_refuse-requires : goal.plan_or_refuse-requires
plan_or_refuse-requires g c =
    let t = c.args.rows.now.value.tables in (
      search (sendable, crosses) depth 40,
      (search (sendable, crosses) depth 40, (c.requires.booked, (c.requires.workers, subst (IsOfShop t) (sym c.last.ensures) (last-of-shop t c.args.plans.now c.requires.plans)))),
    )

pub returns-in_err-plan : goal.returns-in_err-plan
returns-in_err-plan g c =
    let s = inputs_of c.args.rows.now.value.tables c.args.snapshot.now in
    let refused : PlansRun s (Err c.in_err-plan.field-0.0) = c.in_err-plan.ensures in
    let fails : c.from_residual.result ≡ Err c.in_err-plan.field-0.0 = search rules in
    record {
      judged = subst (λ (r : Result (Unit {0}) DayFault). JudgesRun s r) (sym fails) (judged-err (Unit {0}) s c.in_err-plan.field-0.0 refused);
      planned = subst (λ (r : Result (Unit {0}) DayFault). OnOk r (AddsRun s c.args.plans.now c.args.plans.now)) (sym fails) tt;
      refused = subst (λ (r : Result (Unit {0}) DayFault). OnErr r (c.args.plans.now ≡ c.args.plans.now)) (sym fails) refl;
    }

pub returns : goal.returns
returns g c =
    let planned : PlansRun (inputs_of c.args.rows.now.value.tables c.args.snapshot.now) (Ok c.in_ok-plan.plan) = c.in_ok-plan.ensures in
    record { judged = planned.1; planned = (c.in_ok-plan.plan, planned.0, c.add.ensures); refused = tt }
