-- What a table of loads contains.
use Rattle.std.specs.Prelude.{◌≡◌, List, map, Vec}
use Rattle.std.specs.declared.alloc.Global.{Global}
use Rattle.std.specs.Prelude.{ℕ}
use Rattle.mrp_phase.specs.Weeks.{row}
use Rattle.mrp_item.specs.Inputs.{Inputs, horizon}
use Rattle.mrp_load.specs.Loads.{centres, load}

-- a row for each work centre, with its load in each week
abbrev pub AreLoads : Inputs → List (Vec ℕ Global) → Type 0
AreLoads s rows = map (λ loads. loads.items) rows ≡ map (λ centre. row (horizon s) (load s centre)) (centres s)
