use Rattle.std.proofs.Common.{◌∙◌, ap, take_all}
use Rattle.std.specs.Prelude.{filter}
use Rattle.mrp_load.proofs.Grouped.{at_centre, grouped-more}
use Rattle.mrp_load.proofs.grouping.operations_by_centre.Goals as goal

pub loop-operation-preserved : goal.loop-operation-preserved
loop-operation-preserved c = record {
  size = c.in_ok-append.ensures.size ∙ c.loop-operation.invariant.size;
  grouped = grouped-more c.args.operations.now c.loop-operation.operation-index _ c.loop-operation.groups.items c.append.new.lists.items
      c.loop-operation-test.true c.in_ok-append.ensures c.loop-operation.invariant.grouped;
}

pub returns-clause-groups : goal.returns-clause-groups
returns-clause-groups c = λ centre.
    c.loop-operation.invariant.grouped centre
    ∙ ap (filter (at_centre centre)) (take_all c.loop-operation.operation-index c.args.operations.now c.loop-operation-test.false)
