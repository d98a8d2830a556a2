-- What the walk up from a requirement finds.
use Rattle.std.specs.Prelude.{ℕ, ◌≡◌, ◌<◌, Some, List, Contains}
use Rattle.mrp_item.specs.Inputs.{Inputs, count}
use Rattle.mrp_peg.specs.declared.peg.Need.{Need}
use Rattle.mrp_peg.specs.declared.peg.Peg.{Peg}
use Rattle.mrp_peg.specs.declared.peg.Cause.{Cause}
use Rattle.mrp_peg.specs.Causes.{EndsIn, ends_in}
use Rattle.mrp_peg.specs.Pegging.{pegs_of}

-- exactly the causes that the sources of a requirement, followed upwards, end in; each is the end of a peg of
-- the plan
pub record AreEnds (s : Inputs) (n : Need) (causes : List Cause) : Type 0 where
  pub ended : (c : Cause) → Contains causes c → EndsIn s n c
  pub all : (c : Cause) → EndsIn s n c → Contains causes c × ((i : ℕ) × (g : Peg) × (i < count s) × Contains (pegs_of s i) g × (ends_in g ≡ Some c))
