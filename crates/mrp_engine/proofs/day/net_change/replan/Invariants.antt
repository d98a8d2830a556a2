use Rattle.std.proofs.Common.{◌≡◌, ◌<◌, ℕ, None, get_or, length}
use Rattle.mrp_item.specs.Inputs.{count}
use Rattle.mrp_item.specs.Plan.{first_over}
use Rattle.mrp_engine.specs.day.NetChange.{AreOwn, IsMade, KeepMarked}
use Rattle.mrp_engine.proofs.lemmas.day.Remade.{HasRisen}
use Rattle.mrp_engine.proofs.day.net_change.replan.Given as goal

abbrev pub invariant-loop-item : goal.invariant-loop-item
invariant-loop-item g l = record {
  places : length l.made.items ≡ count l.inputs.value;
  marks : length l.kept.items ≡ count l.inputs.value;
  own : AreOwn g.P.Planner.item_of l.inputs.value l.made.items;
  kept : KeepMarked l.old.inputs l.inputs.value l.kept.items;
  done : (k : ℕ) → k < l.item-index → IsMade l.made.items (get_or l.item-items k 0);
  risen : first_over l.inputs.value ≡ None → HasRisen l.old.inputs l.inputs.value l.item-items l.item-index (g.P.Planner.planned l.fn.planner) (g.P.Planner.planned l.planner);
}
