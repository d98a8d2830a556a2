use Rattle.std.proofs.Common.{◌≡◌, ◌∙◌, ◌<◌, ap, sym, subst, length, arith}
use Rattle.std.specs.Prelude.{All}
use Rattle.mrp_tables.specs.Tables.{Tables}
use Rattle.mrp_bill.specs.Bill.{parents_of}
use Rattle.mrp_item.specs.Inputs.{Inputs, count}
use Rattle.mrp_explode.specs.Finished.{IsFinished}
use Rattle.mrp_explode.specs.Levels.{AreLevels, IsLevel}
use Rattle.mrp_explode.proofs.LevelOrder.{level-here, level-items, level-ready, level-done, levels-done}
use Rattle.mrp_explode.proofs.levels.explode_levels.Goals as goal

pub loop-level-init : goal.loop-level-init
loop-level-init g c = record {
  inputs = c.in_ok-finished.ensures.inputs;
  done = λ i code below is low. absurd (omega (arith, low));
}

pub plan_level-requires-clause-items : goal.plan_level-requires-clause-items
plan_level-requires-clause-items g c κs live =
    let s = c.args.inputs.now.value in
    let k = c.loop-level.level-index in
    let items = c.as_slice.result.now in
    let tables : c.shop.result.now.tables ≡ s.tables = c.shop.ensures.tables ∙ ap (λ (x : Inputs). x.tables) c.deref.ensures in
    let all : AreLevels s.tables.bills (count s) c.as_slice-all.result.now =
    subst (AreLevels s.tables.bills (count s)) (sym c.as_slice-all.ensures.value) (subst (λ (t : Tables). AreLevels t.bills (length t.items) c.in_ok-levels.levels.items) tables c.in_ok-levels.ensures) in
    let level : IsLevel s.tables.bills (count s) k items = level-here s.tables.bills (count s) k c.as_slice-all.result.now c.level-item.result items all c.loop-level-test.true c.level-item.is c.as_slice.ensures.value in
    subst (λ (x : Inputs). All (λ i. i < count x) items) (sym c.loop-level.invariant.inputs) (level-items s.tables.bills (count s) k items level)

pub plan_level-requires-clause-ready : goal.plan_level-requires-clause-ready
plan_level-requires-clause-ready g c κs live =
    let s = c.args.inputs.now.value in
    let k = c.loop-level.level-index in
    let items = c.as_slice.result.now in
    let tables : c.shop.result.now.tables ≡ s.tables = c.shop.ensures.tables ∙ ap (λ (x : Inputs). x.tables) c.deref.ensures in
    let all : AreLevels s.tables.bills (count s) c.as_slice-all.result.now =
    subst (AreLevels s.tables.bills (count s)) (sym c.as_slice-all.ensures.value) (subst (λ (t : Tables). AreLevels t.bills (length t.items) c.in_ok-levels.levels.items) tables c.in_ok-levels.ensures) in
    let level : IsLevel s.tables.bills (count s) k items = level-here s.tables.bills (count s) k c.as_slice-all.result.now c.level-item.result items all c.loop-level-test.true c.level-item.is c.as_slice.ensures.value in
    subst (λ (x : Inputs). All (λ i. All (IsFinished c.loop-level.finished) (parents_of x.tables.bills (count x) i)) items) (sym c.loop-level.invariant.inputs)
    (level-ready s.tables.bills (count s) k c.as_slice-all.result.now items (IsFinished c.loop-level.finished) all level c.loop-level.invariant.done)

pub loop-level-preserved : goal.loop-level-preserved
loop-level-preserved g c =
    let s = c.args.inputs.now.value in
    let k = c.loop-level.level-index in
    let items = c.as_slice.result.now in
    let tables : c.shop.result.now.tables ≡ s.tables = c.shop.ensures.tables ∙ ap (λ (x : Inputs). x.tables) c.deref.ensures in
    let all : AreLevels s.tables.bills (count s) c.as_slice-all.result.now =
    subst (AreLevels s.tables.bills (count s)) (sym c.as_slice-all.ensures.value) (subst (λ (t : Tables). AreLevels t.bills (length t.items) c.in_ok-levels.levels.items) tables c.in_ok-levels.ensures) in
    let level : IsLevel s.tables.bills (count s) k items = level-here s.tables.bills (count s) k c.as_slice-all.result.now c.level-item.result items all c.loop-level-test.true c.level-item.is c.as_slice.ensures.value in
    record {
      inputs = c.in_ok-plan_level.ensures.inputs ∙ c.loop-level.invariant.inputs;
      done = level-done s.tables.bills (count s) k items (IsFinished c.loop-level.finished) (IsFinished c.plan_level.new.finished) level c.loop-level.invariant.done
          c.in_ok-plan_level.ensures.others c.in_ok-plan_level.ensures.here;
    }

pub into_whole-requires : goal.into_whole-requires
into_whole-requires g c =
    let s = c.args.inputs.now.value in
    let tables : c.shop.result.now.tables ≡ s.tables = c.shop.ensures.tables ∙ ap (λ (x : Inputs). x.tables) c.deref.ensures in
    let all : AreLevels s.tables.bills (count s) c.as_slice-all.result.now =
    subst (AreLevels s.tables.bills (count s)) (sym c.as_slice-all.ensures.value) (subst (λ (t : Tables). AreLevels t.bills (length t.items) c.in_ok-levels.levels.items) tables c.in_ok-levels.ensures) in
    λ i h. levels-done s.tables.bills (count s) c.loop-level.level-index c.as_slice-all.result.now (IsFinished c.loop-level.finished) all (λ n within. omega (arith, within, c.loop-level-test.false))
    c.loop-level.invariant.done i (subst (λ (x : Inputs). i < count x) c.loop-level.invariant.inputs h)
