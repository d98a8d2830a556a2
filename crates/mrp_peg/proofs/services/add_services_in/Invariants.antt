use Rattle.std.proofs.Common.{◌≡◌, ◌++◌, map, take}
use Rattle.std.specs.Prelude.{◌==◌, filter}
use Rattle.mrp_peg.specs.Rows.{service_requirement}
use Rattle.mrp_peg.proofs.services.add_services_in.Given as goal

abbrev pub invariant-loop-service : goal.invariant-loop-service
invariant-loop-service l = l.needs.items ≡ l.initial.needs.items ++ filter (λ requirement. requirement.need.week == l.week) (map (service_requirement l.item) (take l.service-index l.services))
