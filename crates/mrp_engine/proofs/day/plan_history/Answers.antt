use Rattle.std.proofs.Common.{◌≡◌, Result, Ok, Err, refl, rules, subst, sym}
use Rattle.mrp_engine.specs.day.Day.{runs_of}
use Rattle.mrp_engine.specs.day.Planned.{PlansHistory, PlansRuns}
use Rattle.mrp_engine.specs.declared.day.Day.{Day}
use Rattle.mrp_engine.specs.declared.day.fault.DayFault.{DayFault}
use Rattle.mrp_engine.proofs.lemmas.day.DayRuns.{refused-day}
use Rattle.mrp_engine.proofs.day.plan_history.Goals as goal

pub returns-in_err-first : goal.returns-in_err-first
returns-in_err-first g c =
    let t = c.args.rows.value.tables in
    let h = c.args.history.entries in
    let refused : PlansRuns (runs_of t h) (Err c.in_err-first.field-0.0) = c.in_err-first.ensures in
    let fails : c.from_residual.result ≡ Err c.in_err-first.field-0.0 = search rules in
    subst (λ (r : Result Day DayFault). PlansHistory t h r) (sym fails) (refused-day t h c.in_err-first.field-0.0 refused)

pub returns : goal.returns
returns g c =
    let t = c.args.rows.value.tables in
    let h = c.args.history.entries in
    let plans : PlansRuns (runs_of t h) (Ok c.in_ok-first.first) = c.in_ok-first.ensures in
    (refl, refl, record { supply = c.requires.supply; first = plans.0; plannable = plans.1 })
