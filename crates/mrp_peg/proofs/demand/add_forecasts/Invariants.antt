use Rattle.std.proofs.Common.{◌≡◌, ◌++◌}
use Rattle.std.specs.Prelude.{flat_map}
use Rattle.mrp_phase.specs.Weeks.{weeks}
use Rattle.mrp_peg.specs.Rows.{forecast_requirements}
use Rattle.mrp_peg.proofs.demand.add_forecasts.Given as goal

abbrev pub invariant-loop-place : goal.invariant-loop-place
invariant-loop-place l = l.needs.items ≡ l.initial.needs.items ++ flat_map (forecast_requirements l.item l.left) (weeks l.place)
