use Rattle.std.proofs.Common.{rules}
use Rattle.std.specs.Prelude.{nat_lt}
use Rattle.std.proofs.lemmas.List.Sorted.{IsPartitionPoint-from_clause, IsPartitionedBy-ltb}
use Rattle.mrp_item.specs.declared.order.Order.{Order}
use Rattle.mrp_peg.proofs.parents.first_released.Goals as goal

pub returns-clause-begins : goal.returns-clause-begins
returns-clause-begins c =
    IsPartitionPoint-from_clause (λ (o : Order). nat_lt o.release c.args.week) c.args.orders.now c.partition_point.result c.partition_point.ensures.partitioned
    (IsPartitionedBy-ltb (λ (o : Order). o.release) c.args.orders.now c.args.week c.requires) (λ a r f called. search rules)
