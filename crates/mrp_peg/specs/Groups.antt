-- Pegs of one supply that are for whole requirements of one week.
use Rattle.std.specs.Prelude.{ℕ, ◌≡◌, ◌<◌, ◌≤◌, List, Some, All, length, map, slice_range, take, vec_len}
use Rattle.mrp_peg.specs.declared.matching.Requirement.{Requirement}
use Rattle.mrp_peg.specs.declared.peg.Peg.{Peg}
use Rattle.mrp_peg.specs.declared.peg_group.PegGroup.{PegGroup}
use Rattle.mrp_peg.specs.declared.peg_walk.PegWalk.{PegWalk}
use Rattle.mrp_peg.specs.Matching.{amounts_required}
use Rattle.mrp_peg.specs.Units.{total}

-- the first requirements are of a week, and have so many pieces, no more than there are
pub record AreWhole (needs : List Requirement) (week pieces count taken : ℕ) : Type 0 where
  pub within : count ≤ length needs
  pub weekly : All (λ (r : Requirement). r.need.week ≡ week) (take count needs)
  pub some : All (λ (r : Requirement). 0 < r.quantity) (take count needs)
  pub sum : taken ≡ total (amounts_required (take count needs))
  pub enough : taken ≤ pieces

-- the requirements of a group that a walk passed
abbrev pub needs_at : PegWalk → PegGroup → List Requirement
needs_at w g = slice_range w.needs.needs.items g.first g.past

-- a walk still has the requirements of a group that it passed, all of one week
pub record IsPassed (w : PegWalk) (g : PegGroup) : Type 0 where
  pub order : g.first ≤ g.past
  pub within : g.past ≤ vec_len w.needs.needs
  pub weekly : All (λ (r : Requirement). r.need.week ≡ g.week) (needs_at w g)

-- the peg of a requirement of a group
abbrev pub group_peg : PegGroup → Requirement → Peg
group_peg g r = record { item = g.item; need = Some r.need; supply = g.supply; quantity = r.quantity }

-- the pegs of a group that a walk passed
abbrev pub group_pegs : PegWalk → PegGroup → List Peg
group_pegs w g = map (group_peg g) (needs_at w g)
