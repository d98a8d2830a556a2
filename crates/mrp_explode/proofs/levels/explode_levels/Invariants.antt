use Rattle.std.proofs.Common.{◌≡◌}
use Rattle.mrp_item.specs.Inputs.{count}
use Rattle.mrp_explode.specs.Finished.{IsFinished}
use Rattle.mrp_explode.proofs.LevelOrder.{AreDone}
use Rattle.mrp_explode.proofs.levels.explode_levels.Given as goal

abbrev pub invariant-loop-level : goal.invariant-loop-level
invariant-loop-level g l = record {
  inputs : l.finished.inputs ≡ l.inputs.value;
  done : AreDone l.inputs.value.tables.bills (count l.inputs.value) l.level-index (IsFinished l.finished);
}
