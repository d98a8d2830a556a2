use Rattle.mrp_load.proofs.Summing.{IsLoaded}
use Rattle.mrp_load.proofs.centre.load_row.Given as goal

abbrev pub invariant-loop-operation : goal.invariant-loop-operation
invariant-loop-operation l = IsLoaded l.plan.inputs l.operations l.operation-index l.loads.items
