use Rattle.std.proofs.Common.{◌≡◌, take}
use Rattle.std.specs.List.{flat_map}
use Rattle.std.specs.Option.{option_to_list}
use Rattle.mrp_page.specs.Work.{place_of_load}
use Rattle.mrp_page.proofs.work.places_of_loads.Given as goal

abbrev pub invariant-loop-load : goal.invariant-loop-load
invariant-loop-load l = l.places.items ≡ flat_map (λ r. option_to_list (place_of_load l.tables r.now)) (take l.load-index l.loads)
