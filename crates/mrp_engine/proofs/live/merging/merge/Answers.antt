use Rattle.std.proofs.Common.{◌≡◌, ◌∙◌, ◌+◌, ◌-◌, ◌++◌, ◌∷◌, [], Err, Ok, Result, Vec, ap, arith, refl, rules, subst, sym}
use Rattle.std.specs.declared.alloc.Global.{Global}
use Rattle.std.specs.List.{AllZip}
use Rattle.mrp_engine.specs.day.Day.{runs_of}
use Rattle.mrp_engine.specs.day.Planned.{PlansHistory, PlansRun}
use Rattle.mrp_engine.specs.day.RunPlans.{IsOfFirst}
use Rattle.mrp_engine.specs.declared.day.Day.{Day}
use Rattle.mrp_engine.specs.declared.day.fault.DayFault.{DayFault}
use Rattle.mrp_engine.specs.live.Runs.{PlansAll, RunResult}
use Rattle.mrp_engine.proofs.lemmas.live.Refusals.{first-of-all, same-refusal}
use Rattle.mrp_engine.proofs.lemmas.day.DayRuns.{refused-day}
use Rattle.mrp_engine.proofs.lemmas.live.Merging.{AreMerged, KeepLacking, Queue, all-kept, all-merged, is-there, none-lost, none-merged, one-kept, one-merged, same-merged}
use Rattle.mrp_engine.proofs.live.merging.merge.Goals as goal
use Rattle.mrp_engine.proofs.live.merging.merge.Goals.{in-Taken+in_ok-push, in_default}

pub loop-entry-init : goal.loop-entry-init
loop-entry-init c = record {
  merged = none-merged c.args.rows.value.tables c.entries-entry-items.result.now c.args.history.entries c.args.runs.items c.in_ok-queues.queues.items c.new-all.result.items c.entries-entry-items.ensures.entries
      c.in_ok-queues.ensures c.new-all.ensures.items c.requires.runs;
  keeps = none-lost c.args.runs.items c.in_ok-queues.queues.items c.new-all.result.items c.in_ok-queues.ensures;
}

pub next_of-requires-clause-some : goal.next_of-requires-clause-some
next_of-requires-clause-some c =
    is-there c.args.rows.value.tables c.entries-entry-items.result.now c.loop-entry.entry-index c.entry-item.result c.loop-entry.queues.items c.loop-entry.all.items c.loop-entry-test.true c.entry-item.is
    c.loop-entry.invariant.merged c.in-Taken.field-0 c.in-Taken.is

pub loop-entry-preserved : goal.loop-entry-preserved
loop-entry-preserved c =
    let t = c.args.rows.value.tables in
    let h = c.entries-entry-items.result.now in
    let runs = c.args.runs.items in
    let k = c.loop-entry.entry-index in
    let e = c.entry-item.result in
    let queues = c.loop-entry.queues.items in
    let all = c.loop-entry.all.items in
    let kept = c.loop-entry.invariant in
    elim c.match-entry.branch [
      | in-Taken+in_ok-push w ↦
          let adds : c.match-entry.all.items ≡ all ++ w.next_of.result ∷ [] = ap (λ (v : Vec RunResult Global). v.items) w.all-is ∙ w.in_ok-push.ensures.items in
          record {
            merged = subst (λ (v : Vec Queue Global). AreMerged t h (k + 1) v.items c.match-entry.all.items) (sym w.queues-is)
                (one-merged t h k e queues all c.loop-entry-test.true c.entry-item.is kept.merged w.in-Taken.field-0 w.in-Taken.is w.next_of.new.queues.items w.next_of.result c.match-entry.all.items
                w.next_of.ensures.size w.next_of.ensures.next w.next_of.ensures.others adds);
            keeps = subst (λ (v : Vec Queue Global). KeepLacking runs v.items c.match-entry.all.items) (sym w.queues-is)
                (one-kept runs queues w.next_of.new.queues.items all c.match-entry.all.items (e.who - 1) w.next_of.result w.next_of.ensures.size w.next_of.ensures.next w.next_of.ensures.others adds kept.keeps);
          }
      | in_default w ↦
          record {
            merged = subst (λ (v : Vec Queue Global). AreMerged t h (k + 1) v.items c.match-entry.all.items) (sym w.queues-is)
                (subst (λ (v : Vec RunResult Global). AreMerged t h (k + 1) queues v.items) (sym w.all-is)
                (same-merged t h k e queues all c.loop-entry-test.true c.entry-item.is kept.merged w.in_default.not-Taken));
            keeps = subst (λ (v : Vec Queue Global). KeepLacking runs v.items c.match-entry.all.items) (sym w.queues-is)
                (subst (λ (v : Vec RunResult Global). KeepLacking runs queues v.items) (sym w.all-is) kept.keeps);
          }
    ]

pub returns-in_err-plans-clause-day : goal.returns-in_err-plans-clause-day
returns-in_err-plans-clause-day c =
    let t = c.args.rows.value.tables in
    let h = c.args.history.entries in
    let fault = c.in_err-plans.field-0.0 in
    let zip : AllZip PlansRun (runs_of t h) c.loop-entry.all.items =
    all-merged t c.entries-entry-items.result.now h c.loop-entry.entry-index c.loop-entry.queues.items c.loop-entry.all.items c.entries-entry-items.ensures.entries (omega (arith, c.loop-entry-test.false)) c.loop-entry.invariant.merged in
    let refused : PlansAll (runs_of t h) (Err fault) = c.in_err-plans.ensures.plans (runs_of t h) zip in
    let fails : c.from_residual-in_err-plans.result ≡ Err fault = search rules in
    subst (λ (r : Result Day DayFault). PlansHistory t h r) (sym fails) (refused-day t h fault (same-refusal (runs_of t h) fault refused))

pub returns-clause-day : goal.returns-clause-day
returns-clause-day c =
    let t = c.args.rows.value.tables in
    let h = c.args.history.entries in
    let zip : AllZip PlansRun (runs_of t h) c.loop-entry.all.items =
    all-merged t c.entries-entry-items.result.now h c.loop-entry.entry-index c.loop-entry.queues.items c.loop-entry.all.items c.entries-entry-items.ensures.entries (omega (arith, c.loop-entry-test.false)) c.loop-entry.invariant.merged in
    let plans : PlansAll (runs_of t h) (Ok c.in_ok-plans.plans) = c.in_ok-plans.ensures.plans (runs_of t h) zip in
    let first = first-of-all c.in_ok-plans.plans.items (runs_of t h) plans.0 in
    (refl, refl, record { supply = c.requires.supply; first = subst (IsOfFirst (runs_of t h)) (sym c.first_of.ensures) first; plannable = plans.1 })

pub returns-in_err-plans-clause-memory : goal.returns-in_err-plans-clause-memory
returns-in_err-plans-clause-memory c place low lacks =
    let lacked = all-kept c.args.rows.value.tables c.entries-entry-items.result.now c.loop-entry.entry-index c.args.runs.items c.loop-entry.queues.items c.loop-entry.all.items place (omega (arith, c.loop-entry-test.false))
    c.loop-entry.invariant.merged c.loop-entry.invariant.keeps low lacks in
    let refused = c.in_err-plans.ensures.memory lacked in
    let fails : c.from_residual-in_err-plans.result ≡ Err c.in_err-plans.field-0.0 = search rules in
    cc

pub returns-clause-memory : goal.returns-clause-memory
returns-clause-memory c place low lacks =
    let lacked = all-kept c.args.rows.value.tables c.entries-entry-items.result.now c.loop-entry.entry-index c.args.runs.items c.loop-entry.queues.items c.loop-entry.all.items place (omega (arith, c.loop-entry-test.false))
    c.loop-entry.invariant.merged c.loop-entry.invariant.keeps low lacks in
    let refused = c.in_ok-plans.ensures.memory lacked in
    absurd (cc)
