use Rattle.std.proofs.Common.{◌≡◌, ◌∙◌, ◌++◌, ◌∷◌, [], ℕ, Err, Ok, ap, map, rules, slice_set, subst, sym}
use Rattle.mrp_book.specs.declared.call.Call.{Call}
use Rattle.mrp_book.specs.declared.call.Call.TheVariants as call
use Rattle.mrp_desk.specs.Offices.{supply_at}
use Rattle.mrp_script.specs.Script.{Script, record_of, with_run}
use Rattle.mrp_engine.specs.live.Desks.{HaveServed}
use Rattle.mrp_script.proofs.ScriptCalls.{none-given}
use Rattle.mrp_engine.proofs.lemmas.live.DeskLists.{run-desks, run-made, run-served}
use Rattle.mrp_engine.proofs.lemmas.live.DeskHistories.{none-made}
use Rattle.mrp_engine.proofs.lemmas.live.DeskRecords.{ended}
use Rattle.mrp_engine.proofs.lemmas.live.DeskRuns.{first-more, first-same}
use Rattle.mrp_engine.proofs.lemmas.live.Parting.{End}
use Rattle.mrp_engine.proofs.live.desks.add_run.Goals as goal

pub returns-in_default-clause-served : goal.returns-in_default-clause-served
returns-in_default-clause-served g c =
    subst (λ (records : Script). HaveServed records c.args.desks.now {U = Unit {0}} (Ok (tt {0}))) (sym (c.added_run.ensures.none (none-given c.added_run.result c.in_default.not-Some))) c.requires.served

pub returns-in_err-make_and_plan-clause-served : goal.returns-in_err-make_and_plan-clause-served
returns-in_err-make_and_plan-clause-served g c =
    let s = supply_at c.args.shared.now.office.now in
    let records = map record_of c.args.script.now in
    let desks = c.args.desks.now in
    let run = c.in-Some.ensures.run in
    let makes = run-made s desks c.index-desks-0.result c.make_and_plan.new.desk c.in-Some.call c.make_and_plan.result (Err c.in_err-make_and_plan.field-0.0) c.requires.some (ap (λ (r : ℕ × Call). r.1) run) (ap ended c.in_err-make_and_plan.was) c.make_and_plan.ensures.call in
    let adds : with_run records ≡ records ++ (1, call.Snapshot) ∷ [] = c.in-Some.ensures.added ∙ ap (λ (r : ℕ × Call). records ++ r ∷ []) run in
    let served = subst (λ (all : Script). HaveServed all (slice_set desks 0 c.make_and_plan.new.desk) {U = Unit {0}} (Err c.in_err-make_and_plan.field-0.0)) (sym adds)
    (run-served c.args.shared.now.office.now records desks c.make_and_plan.new.desk (Err c.in_err-make_and_plan.field-0.0) c.requires.desks c.requires.some c.requires.served s makes) in
    let fails : c.from_residual.result ≡ Err c.in_err-make_and_plan.field-0.0 = search rules in
    subst (λ (r : End). HaveServed (with_run records) (slice_set desks 0 c.make_and_plan.new.desk) r) (sym fails) served

pub returns-in_err-make_and_plan-clause-desks : goal.returns-in_err-make_and_plan-clause-desks
returns-in_err-make_and_plan-clause-desks g c =
    let s = supply_at c.args.shared.now.office.now in
    let records = map record_of c.args.script.now in
    let desks = c.args.desks.now in
    let run = c.in-Some.ensures.run in
    let makes = run-made s desks c.index-desks-0.result c.make_and_plan.new.desk c.in-Some.call c.make_and_plan.result (Err c.in_err-make_and_plan.field-0.0) c.requires.some (ap (λ (r : ℕ × Call). r.1) run) (ap ended c.in_err-make_and_plan.was) c.make_and_plan.ensures.call in
    run-desks c.args.shared.now.office.now records desks c.make_and_plan.new.desk (Err c.in_err-make_and_plan.field-0.0) c.requires.desks c.requires.some c.requires.served s makes

pub returns-clause-served : goal.returns-clause-served
returns-clause-served g c =
    let s = supply_at c.args.shared.now.office.now in
    let records = map record_of c.args.script.now in
    let desks = c.args.desks.now in
    let run = c.in-Some.ensures.run in
    let makes = run-made s desks c.index-desks-0.result c.make_and_plan.new.desk c.in-Some.call c.make_and_plan.result (Ok (tt {0})) c.requires.some (ap (λ (r : ℕ × Call). r.1) run) (ap ended c.in_ok-make_and_plan.was) c.make_and_plan.ensures.call in
    let adds : with_run records ≡ records ++ (1, call.Snapshot) ∷ [] = c.in-Some.ensures.added ∙ ap (λ (r : ℕ × Call). records ++ r ∷ []) run in
    let served = subst (λ (all : Script). HaveServed all (slice_set desks 0 c.make_and_plan.new.desk) {U = Unit {0}} (Ok (tt {0}))) (sym adds)
    (run-served c.args.shared.now.office.now records desks c.make_and_plan.new.desk (Ok (tt {0})) c.requires.desks c.requires.some c.requires.served s makes) in
    served

pub returns-clause-desks : goal.returns-clause-desks
returns-clause-desks g c =
    let s = supply_at c.args.shared.now.office.now in
    let records = map record_of c.args.script.now in
    let desks = c.args.desks.now in
    let run = c.in-Some.ensures.run in
    let makes = run-made s desks c.index-desks-0.result c.make_and_plan.new.desk c.in-Some.call c.make_and_plan.result (Ok (tt {0})) c.requires.some (ap (λ (r : ℕ × Call). r.1) run) (ap ended c.in_ok-make_and_plan.was) c.make_and_plan.ensures.call in
    run-desks c.args.shared.now.office.now records desks c.make_and_plan.new.desk (Ok (tt {0})) c.requires.desks c.requires.some c.requires.served s makes

pub returns-then-is_err-clause-served : goal.returns-then-is_err-clause-served
returns-then-is_err-clause-served g c = none-made (map record_of c.args.script.now) c.args.desks.now c.requires.served

pub returns-then-is_err-clause-runs : goal.returns-then-is_err-clause-runs
returns-then-is_err-clause-runs g c = first-same c.args.shared.now.office.now c.args.desks.now c.args.runs.now c.index-runs-0.result c.reserve.new.self c.requires.some c.reserve.ensures.items c.requires.runs

pub returns-in_err-make_and_plan-clause-runs : goal.returns-in_err-make_and_plan-clause-runs
returns-in_err-make_and_plan-clause-runs g c =
    let office = c.args.shared.now.office.now in
    let same = first-same office c.args.desks.now c.args.runs.now c.index-runs-0.result c.reserve.new.self c.requires.some c.reserve.ensures.items c.requires.runs in
    first-more office c.args.desks.now c.make_and_plan.new.desk (slice_set c.args.runs.now 0 c.reserve.new.self) c.make_and_plan.new.runs c.requires.some same c.make_and_plan.ensures.runs

pub returns-clause-runs : goal.returns-clause-runs
returns-clause-runs g c =
    let office = c.args.shared.now.office.now in
    let same = first-same office c.args.desks.now c.args.runs.now c.index-runs-0.result c.reserve.new.self c.requires.some c.reserve.ensures.items c.requires.runs in
    first-more office c.args.desks.now c.make_and_plan.new.desk (slice_set c.args.runs.now 0 c.reserve.new.self) c.make_and_plan.new.runs c.requires.some same c.make_and_plan.ensures.runs
