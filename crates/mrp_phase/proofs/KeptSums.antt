-- Sums over the members of a list that a test keeps.
use Rattle.std.proofs.Common.{◌≡◌, ℕ, Bool, true, false, cond, List, [], ◌∷◌, refl, ap, arith}
use Rattle.std.specs.Prelude.{filter, sum_by}
use Rattle.std.proofs.lemmas.List.Sums.{sum_by-cons}

-- such a sum is a sum over all, in which the others count 0
pub sum_by-kept : {X : Type 0} (p : X → Bool) (f : X → ℕ) (xs : List X) → sum_by f (filter p xs) ≡ sum_by (λ x. cond (p x) (f x) 0) xs
sum_by-kept p f [] = refl
sum_by-kept {X} p f (x ∷ xs) = by (p x) refl (sum_by-kept p f xs)
  where
    rest : List X
    rest = filter p xs

    kept : X → ℕ
    kept y = cond (p y) (f y) 0

    by : (b : Bool) → p x ≡ b → sum_by f rest ≡ sum_by kept xs → sum_by f (cond b (x ∷ rest) rest) ≡ sum_by kept (x ∷ xs)
    by true e more = omega (arith, more, sum_by-cons f x rest, sum_by-cons kept x xs, ap (λ b. cond b (f x) 0) e)
    by false e more = omega (arith, more, sum_by-cons kept x xs, ap (λ b. cond b (f x) 0) e)
