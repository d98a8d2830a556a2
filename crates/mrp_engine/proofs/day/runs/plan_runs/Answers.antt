use Rattle.std.proofs.Common.{◌≡◌, ◌+◌, Option, Result, Err, sym, subst, arith, rules}
use Rattle.std.proofs.Crossing.{crosses}
use denote.Param.Send.{sendable}
use Rattle.mrp_master.specs.Supply.{Supply, supply_of}
use Rattle.mrp_book.specs.History.{IsLegal}
use Rattle.mrp_item.specs.Places.{WholePlan}
use Rattle.mrp_book.proofs.SnapshotBookings.{snapshot-booked}
use Rattle.mrp_engine.specs.day.Day.{runs_of}
use Rattle.mrp_engine.specs.day.Planned.{PlansRuns}
use Rattle.mrp_engine.specs.day.RunPlans.{IsOfFirst}
use Rattle.mrp_engine.specs.declared.day.fault.DayFault.{DayFault}
use Rattle.mrp_engine.proofs.lemmas.day.RunsPlanned.{HasPlanned, not-a-run, planned-all, planned-more, planned-same, run-refused}
use Rattle.mrp_engine.proofs.day.runs.plan_runs.Goals as goal
use Rattle.mrp_engine.proofs.day.runs.plan_runs.Goals.{in-Taken+in_ok-plan_one, in_default}

pub plan_one-requires : goal.plan_one-requires
plan_one-requires g c =
    let t = c.args.rows.now.value.tables in
    let h = c.entries-entry-items.result.now in
    let legal : IsLegal (supply_of t) h = subst (λ (x : Supply). IsLegal x h) c.requires.supply c.entries-entry-items.ensures.legal in (
      search (sendable, crosses) depth 40,
      (
        search (sendable, crosses) depth 40,
        (snapshot-booked (supply_of t) h c.loop-entry.entry-index c.entry-item.result c.in-Taken.snapshot legal c.loop-entry-test.true c.entry-item.is c.in-Taken.is, (c.requires.workers, c.loop-entry.invariant.of_shop)),
      ),
    )

pub returns-in_err-plan_one : goal.returns-in_err-plan_one
returns-in_err-plan_one g c =
    let t = c.args.rows.now.value.tables in
    let h = c.entries-entry-items.result.now in
    let fails : c.from_residual.result ≡ Err c.in_err-plan_one.field-0.0 = search rules in
    subst (λ (r : Result (Option WholePlan) DayFault). PlansRuns (runs_of t c.args.history.now.entries) r) (sym fails)
    (run-refused (Unit {0}) t h c.args.history.now.entries c.loop-entry.entry-index c.entry-item.result c.in-Taken.snapshot c.loop-entry.plans c.in_err-plan_one.field-0.0 c.entries-entry-items.ensures.entries
    c.loop-entry-test.true c.entry-item.is c.in-Taken.is c.loop-entry.invariant c.in_err-plan_one.ensures.judged)

pub loop-entry-preserved : goal.loop-entry-preserved
loop-entry-preserved g c =
    let t = c.args.rows.now.value.tables in
    let h = c.entries-entry-items.result.now in
    let k = c.loop-entry.entry-index in
    elim c.match-entry.branch [
      | in-Taken+in_ok-plan_one w ↦
          subst (HasPlanned t h (k + 1)) (sym w.plans-is)
          (planned-more t h k c.entry-item.result w.in-Taken.snapshot c.loop-entry.plans w.plan_one.new.plans c.loop-entry-test.true c.entry-item.is w.in-Taken.is
          c.loop-entry.invariant w.in_ok-plan_one.ensures.planned w.in_ok-plan_one.ensures.judged)
      | in_default w ↦
          subst (HasPlanned t h (k + 1)) (sym w.plans-is)
          (planned-same t h k c.entry-item.result c.loop-entry.plans c.loop-entry-test.true c.entry-item.is (not-a-run t c.entry-item.result.reply w.in_default.not-Taken) c.loop-entry.invariant)
    ]

pub returns : goal.returns
returns g c =
    let all = planned-all c.args.rows.now.value.tables c.entries-entry-items.result.now c.args.history.now.entries c.loop-entry.entry-index c.loop-entry.plans c.entries-entry-items.ensures.entries
    (omega (arith, c.loop-entry-test.false)) c.loop-entry.invariant in
    (subst (λ (first : Option WholePlan). IsOfFirst (runs_of c.args.rows.now.value.tables c.args.history.now.entries) first) (sym c.into_first.ensures) all.0, all.1)
