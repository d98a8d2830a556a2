use Rattle.std.proofs.Common.{length}
use Rattle.mrp_explode.proofs.LevelLists.{AreGrouped}
use Rattle.mrp_explode.proofs.grouping.levels_of.Given as goal

abbrev pub invariant-loop-item : goal.invariant-loop-item
invariant-loop-item l = AreGrouped l.shop.tables.bills (length l.shop.tables.items) l.item l.levels.items
