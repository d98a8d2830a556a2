-- Values by a recursion up through parents: they are the only ones that are the step of their parents' values.
use Rattle.std.proofs.Common.{ℕ, zero, suc, ◌≡◌, ◌<◌, arith, ◌∙◌, refl}
use Rattle.mrp_item.specs.Recursion.{value_to, IsLocal, Ranks}

-- above an item's code, fuel makes no difference
pub value_to-same : {V : Type 0} (Parent : ℕ → ℕ → Type 0) (step : ℕ → (ℕ → V) → V) (none : V) (code : ℕ → ℕ) → IsLocal Parent step → Ranks Parent code
    → (n m i : ℕ) → code i < n → code i < m → value_to step none n i ≡ value_to step none m i
unfolding value_to
value_to-same Parent step none code local ranks zero m i a b = absurd (omega arith)
value_to-same Parent step none code local ranks (suc n) zero i a b = absurd (omega arith)
value_to-same Parent step none code local ranks (suc n) (suc m) i a b =
    local i (value_to step none n) (value_to step none m) (λ p h. let r : code p < code i = ranks p i h in value_to-same Parent step none code local ranks n m p (omega arith) (omega arith))

-- with enough fuel, a value is the step of its parents' values
pub value_to-unfolds : {V : Type 0} (Parent : ℕ → ℕ → Type 0) (step : ℕ → (ℕ → V) → V) (none : V) (code : ℕ → ℕ) → IsLocal Parent step → Ranks Parent code
    → (n i : ℕ) → code i < n → value_to step none n i ≡ step i (value_to step none n)
value_to-unfolds Parent step none code local ranks n i a =
    value_to-same Parent step none code local ranks n (suc n) i a (omega arith) ∙ unfold value_to in refl

-- and no other values are
pub value_to-only : {V : Type 0} (Parent : ℕ → ℕ → Type 0) (step : ℕ → (ℕ → V) → V) (none : V) (code : ℕ → ℕ) → IsLocal Parent step → Ranks Parent code
    → (f : ℕ → V) → ((i : ℕ) → f i ≡ step i f) → (n i : ℕ) → code i < n → f i ≡ value_to step none n i
unfolding value_to
value_to-only Parent step none code local ranks f solves zero i a = absurd (omega arith)
value_to-only Parent step none code local ranks f solves (suc n) i a =
    solves i ∙ local i f (value_to step none n) (λ p h. let r : code p < code i = ranks p i h in value_to-only Parent step none code local ranks f solves n p (omega arith))
