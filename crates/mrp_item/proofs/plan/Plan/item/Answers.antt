use Rattle.std.proofs.Common.{◌≡◌, ◌∙◌, ◌<◌, true, false, sym, ap, arith}
use Rattle.mrp_item.specs.Inputs.{count}
use Rattle.mrp_item.specs.Made.{item_from}
use Rattle.mrp_item.specs.Places.{ItemOf, PlannedItem}
use Rattle.mrp_item.specs.Plan.{is_planned, outcome_of, plan_in}
use Rattle.mrp_item.proofs.OutcomeLists.{item-at, length-items}
use Rattle.mrp_item.proofs.PlannedItems.{not-planned, planned-plan}
use Rattle.mrp_item.proofs.plan.Plan.item.Goals as goal

pub index-requires : goal.index-requires
index-requires c =
    let s = c.self.inside.inputs.value in
    let within : c.args.item < count s = rw (ap (λ p. p.inputs) c.self.view_is) c.requires in
    omega (arith, within, length-items s (count s) c.self.inside.outcomes.items c.self.invariant.outcomes)

-- the item's outcome is planned
pub unreachable-requires : goal.unreachable-requires
unreachable-requires c =
    let s = c.self.inside.inputs.value in
    let i = c.args.item in
    let within : i < count s = rw (ap (λ p. p.inputs) c.self.view_is) c.requires in
    let o = c.index.result.now in
    let item : o ≡ item_from s i = item-at s (count s) i c.self.inside.outcomes.items o c.self.invariant.outcomes within c.index.ensures in
    let no : is_planned (outcome_of s i) ≡ false = ap (λ (x : ItemOf). is_planned (outcome_of x.inputs x.item)) (sym item) ∙ not-planned o c.in-None.ensures in
    let yes : is_planned (outcome_of s i) ≡ true = ap is_planned (c.self.invariant.planned i within) in
    cc

pub returns : goal.returns
returns c =
    let s = c.self.inside.inputs.value in
    let i = c.args.item in
    let within : i < count s = rw (ap (λ p. p.inputs) c.self.view_is) c.requires in
    let o = c.index.result.now in
    let item : o ≡ item_from s i = item-at s (count s) i c.self.inside.outcomes.items o c.self.invariant.outcomes within c.index.ensures in
    rw (← c.self.view_is) (planned-plan o c.in-Some.planned.now c.in-Some.ensures
    ∙ ap (λ (x : ItemOf). let p : PlannedItem = record { inputs = x.inputs; item = x.item; plan = plan_in (outcome_of x.inputs x.item) } in p) item)
