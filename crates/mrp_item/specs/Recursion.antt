-- A value for each item, by a recursion up through its parents.
use Rattle.std.specs.Prelude.{ℕ, zero, suc, ◌≡◌, ◌<◌}

-- the values, by recursion at most the first number of levels up
unfoldable pub value_to : {V : Type 0} → (ℕ → (ℕ → V) → V) → V → ℕ → ℕ → V
value_to step none zero i = none
value_to step none (suc n) i = step i (value_to step none n)

-- a step depends on the parents' values alone
abbrev pub IsLocal : {V : Type 0} → (ℕ → ℕ → Type 0) → (ℕ → (ℕ → V) → V) → Type 0
IsLocal {V} Parent step = (i : ℕ) (f g : ℕ → V) → ((p : ℕ) → Parent p i → f p ≡ g p) → step i f ≡ step i g

-- parents come before their children
abbrev pub Ranks : (ℕ → ℕ → Type 0) → (ℕ → ℕ) → Type 0
Ranks Parent code = (p i : ℕ) → Parent p i → code p < code i
