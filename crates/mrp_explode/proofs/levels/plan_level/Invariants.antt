use Rattle.std.proofs.Common.{◌≡◌, ℕ}
use Rattle.mrp_item.specs.Made.{item_from}
use Rattle.mrp_explode.specs.Finished.{IsFinished}
use Rattle.mrp_explode.proofs.Placing.{ArePlaced}
use Rattle.mrp_explode.proofs.levels.plan_level.Given as goal

abbrev pub invariant-loop-outcome : goal.invariant-loop-outcome
invariant-loop-outcome g l = record {
  inputs : l.finished.inputs ≡ l.fn.finished.inputs;
  placed : ArePlaced (item_from l.fn.finished.inputs) l.items l.outcome-iterator.rest.items (IsFinished l.finished);
  others : (i : ℕ) → IsFinished l.fn.finished i → IsFinished l.finished i;
}
