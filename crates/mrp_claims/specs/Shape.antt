-- The shape of a given day: it begins with a history of claims (profile).
use Rattle.std.specs.Prelude.{ℕ, ◌≡◌, ◌≤◌, ◌∷◌, ◌++◌, List, [], All, length}
use Rattle.mrp_tables.specs.declared.limits.TheConstants.{MOST_ENTRIES}
use Rattle.mrp_tables.specs.Tables.{Tables}
use Rattle.mrp_claims.specs.declared.claim.Claim.{Claim}
use Rattle.mrp_claims.specs.Claims.{IsClaim, claims_text}

-- what ends a history: a line that begins with a bracket, or the end
abbrev pub EndsHistory : List ℕ → Type 0
EndsHistory [] = Unit {0}
EndsHistory (byte ∷ rest) = byte ≡ 91

-- a text begins with a history of these claims, and this is what follows it
pub record BeginsWith (t : Tables) (text : List ℕ) (claims : List Claim) (rest : List ℕ) : Type 0 where
  pub spelled : text ≡ claims_text t claims ++ rest
  pub ends : EndsHistory rest
  pub few : length claims ≤ MOST_ENTRIES
  pub each : All (IsClaim t) claims

abbrev pub HasShape : Tables → List ℕ → Type 0
HasShape t text = (claims : List Claim) × (rest : List ℕ) × BeginsWith t text claims rest
