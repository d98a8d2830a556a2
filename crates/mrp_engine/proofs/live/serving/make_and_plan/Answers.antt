use Rattle.std.proofs.Common.{◌≡◌, ◌++◌, ◌∷◌, [], Ok, Vec, ap, subst, sym, ◌∙◌}
use Rattle.std.specs.declared.alloc.Global.{Global}
use Rattle.std.specs.List.{AllZip}
use Rattle.std.specs.Option.{option_copied}
use Rattle.mrp_turn.specs.Log.{entry}
use Rattle.mrp_bill.specs.Shop.{Shop}
use Rattle.mrp_master.specs.Supply.{supply_of}
use Rattle.mrp_book.specs.Booked.{AreBooked}
use Rattle.mrp_desk.specs.Calls.{Tells}
use Rattle.mrp_desk.specs.Offices.{supply_at}
use Rattle.mrp_item.specs.Inputs.{inputs_of}
use Rattle.mrp_engine.specs.day.Planned.{PlansRun}
use Rattle.mrp_engine.specs.day.RunPlans.{IsOfShop}
use Rattle.mrp_engine.specs.live.Runs.{RunResult, last_plan, runs_at}
use Rattle.mrp_engine.proofs.lemmas.live.LastRuns.{last-run-of-shop}
use Rattle.mrp_engine.proofs.lemmas.live.DeskRuns.{none-started, run-started, run-taken}
use Rattle.mrp_engine.proofs.live.serving.make_and_plan.Goals as goal
use Rattle.mrp_engine.proofs.live.serving.make_and_plan.Goals.{in-Taken, in_default}

pub plan_or_refuse-run-requires-clause-booked : goal.plan_or_refuse-run-requires-clause-booked
plan_or_refuse-run-requires-clause-booked g c κs alive =
    let office = c.args.shared.now.office.now in
    let told : Tells (supply_at office) c.args.call c.args.desk.now (Ok c.in_ok-answer.answer) c.make.new.desk = c.in_ok-answer.ensures in
    subst (λ (shop : Shop). AreBooked (supply_of shop.tables) c.in-Taken.snapshot.standing) (sym c.requires.shop)
    (run-taken (supply_at office) c.args.call c.args.desk.now c.make.new.desk c.in_ok-answer.answer c.in-Taken.snapshot told c.in-Taken.is).1

pub plan_or_refuse-run-requires-clause-last : goal.plan_or_refuse-run-requires-clause-last
plan_or_refuse-run-requires-clause-last g c κs alive =
    let office = c.args.shared.now.office.now in
    subst (λ (shop : Shop). IsOfShop shop.tables (option_copied c.last_plan.result)) (sym c.requires.shop)
    (subst (IsOfShop office.about.object.tables) (sym (c.last_plan.ensures ∙ ap last_plan c.deref.ensures.value)) (last-run-of-shop office.about.object.tables c.args.desk.now.mine c.args.runs.now.items c.requires.runs))

pub returns-clause-runs : goal.returns-clause-runs
returns-clause-runs g c =
    let office = c.args.shared.now.office.now in
    let t = office.about.object.tables in
    let old = c.args.desk.now in
    let answer = c.in_ok-answer.answer in
    let told : Tells (supply_at office) c.args.call old (Ok answer) c.make.new.desk = c.in_ok-answer.ensures in
    elim c.match-answer.branch [
      | in-Taken w ↦
          let snapshot = w.in-Taken.snapshot in
          let planned = w.plan_or_refuse-run.result in
          let now : c.match-answer.runs.items ≡ c.args.runs.now.items ++ planned ∷ [] = ap (λ (v : Vec RunResult Global). v.items) w.runs-is ∙ w.push_reserved.ensures.items in
          let ends : PlansRun (inputs_of t snapshot) planned = subst (λ (shop : Shop). PlansRun (inputs_of shop.tables snapshot) planned) c.requires.shop w.plan_or_refuse-run.ensures in
          run-started t old.mine c.make.new.desk.mine (entry old.number c.args.call answer.1) snapshot c.args.runs.now.items c.match-answer.runs.items planned told.added w.in-Taken.is now c.requires.runs ends
      | in_default w ↦
          subst (λ (v : Vec RunResult Global). AllZip PlansRun (runs_at office c.make.new.desk.mine) v.items) (sym w.runs-is)
          (none-started t old.mine c.make.new.desk.mine (entry old.number c.args.call answer.1) c.args.runs.now.items told.added w.in_default.not-Taken c.requires.runs)
    ]
