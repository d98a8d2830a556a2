-- Chains of links, for any relation.
use Rattle.std.specs.Prelude.{ℕ, zero, suc, ◌≡◌, ◌<◌, List, [], ◌∷◌}

-- a chain of n links leads from a to b
abbrev pub Links : (ℕ → ℕ → Type 0) → ℕ → ℕ → ℕ → Type 0
Links R zero a b = a ≡ b
Links R (suc n) a b = (p : ℕ) × Links R n a p × R p b

-- a chain of at least one link leads from a to b
abbrev pub Leads : (ℕ → ℕ → Type 0) → ℕ → ℕ → Type 0
Leads R a b = (n : ℕ) × Links R (suc n) a b

-- each of a list of items is linked to the next, from a to b
abbrev pub IsTrail : (ℕ → ℕ → Type 0) → ℕ → List ℕ → ℕ → Type 0
IsTrail R a [] b = a ≡ b
IsTrail R a (c ∷ more) b = R a c × IsTrail R c more b

-- a list of at least two items, each linked to the next, that begins and ends at i
abbrev pub IsRound : (ℕ → ℕ → Type 0) → ℕ → List ℕ → Type 0
IsRound R i [] = ⊥
IsRound R i (a ∷ []) = ⊥
IsRound R i (a ∷ b ∷ more) = (a ≡ i) × R a b × IsTrail R b more i

-- the first item from which a chain leads back to it
pub record IsFirstRound (R : ℕ → ℕ → Type 0) (i : ℕ) : Type 0 where
  pub loop : Leads R i i
  pub first : (j : ℕ) → j < i → Leads R j j → ⊥

-- codes rise along each link, and each above 0 is one above the code of something linked to it
pub record AreRising (R : ℕ → ℕ → Type 0) (code : ℕ → ℕ) : Type 0 where
  pub rises : (p i : ℕ) → R p i → code p < code i
  pub from_parent : (i n : ℕ) → code i ≡ suc n → (p : ℕ) × R p i × (code p ≡ n)

-- an item's code is above that of each item linked to it, and one above one of them if it is above 0
pub record IsCoded (R : ℕ → ℕ → Type 0) (code : ℕ → ℕ) (i : ℕ) : Type 0 where
  pub above : (p : ℕ) → R p i → code p < code i
  pub from_one : (n : ℕ) → code i ≡ suc n → (p : ℕ) × R p i × (code p ≡ n)
