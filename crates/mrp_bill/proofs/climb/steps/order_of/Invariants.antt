use Rattle.std.proofs.Common.{◌≡◌, ◌≢◌, ◌<◌, ℕ, length}
use Rattle.mrp_bill.specs.declared.climb.Stage.TheVariants.{New}
use Rattle.mrp_bill.specs.Climb.{IsClimb, stage_at}
use Rattle.mrp_bill.proofs.climb.steps.order_of.Given as goal

abbrev pub invariant-loop-item : goal.invariant-loop-item
invariant-loop-item l = record {
  climb : IsClimb l.parents l.climb;
  empty : length l.climb.stack.items ≡ 0;
  met : (i : ℕ) → i < l.item → stage_at l.climb.stages.items i ≢ New;
}
