use Rattle.std.proofs.Common.{◌≡◌, ◌++◌}
use Rattle.std.specs.Prelude.{flat_map}
use Rattle.mrp_phase.specs.Weeks.{weeks}
use Rattle.mrp_load.specs.Loads.{overload}
use Rattle.mrp_load.proofs.table.LoadTable.add_overloads.Given as goal

abbrev pub invariant-loop-place : goal.invariant-loop-place
invariant-loop-place l = l.all.items ≡ l.fn.all.items ++ flat_map (overload l.self l.centre) (weeks l.place)
