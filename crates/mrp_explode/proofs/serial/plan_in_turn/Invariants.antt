use Rattle.std.proofs.Common.{◌≡◌, ◌<◌, ℕ, get_or}
use Rattle.mrp_explode.specs.Finished.{IsFinished}
use Rattle.mrp_explode.proofs.serial.plan_in_turn.Given as goal

abbrev pub invariant-loop-item : goal.invariant-loop-item
invariant-loop-item g l = (l.finished.inputs ≡ l.inputs.value) × ((k : ℕ) → k < l.item-index → IsFinished l.finished (get_or l.item-items k 0))
