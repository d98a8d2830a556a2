-- What is left of a list from a place on.
use Rattle.std.proofs.Common.{◌≡◌, ◌∙◌, ◌≢◌, ℕ, zero, suc, ◌+◌, ◌-◌, ◌<◌, ◌≤◌, ◌==◌, Bool, true, false, cond, List, [], ◌∷◌, ◌++◌, length, drop, map, set, get_or, refl, ap, arith}
use Rattle.std.specs.Prelude.{nat_lt, slice_get, Result, Ok, Err, OnOk}
use Rattle.std.proofs.lemmas.Bool.{eq-eqb, ltb-false, ltb-true, ne_eqb}
use Rattle.std.proofs.lemmas.List.{drop_all}
use Rattle.mrp_peg.specs.Left.{served}
use Rattle.mrp_peg.specs.Units.{Amount}

dropped_suc : {X Y : Type 0} (f : X → Y) (xs : List X) (i : ℕ) → map f (drop (suc i) xs) ≡ drop 1 (map f (drop i xs))
dropped_suc f [] zero = refl
dropped_suc f [] (suc i) = refl
dropped_suc f (x ∷ xs) zero = refl
dropped_suc f (x ∷ xs) (suc i) = dropped_suc f xs i

-- one more is passed
pub dropped_next : {X Y : Type 0} (f : X → Y) (xs : List X) (i : ℕ) → map f (drop (i + 1) xs) ≡ drop 1 (map f (drop i xs))
dropped_next f xs i =
    let next : i + 1 ≡ suc i = omega arith in
    ap (λ n. map f (drop n xs)) next ∙ dropped_suc f xs i

-- all were passed
pub dropped_none : {X Y : Type 0} (f : X → Y) (xs : List X) (i : ℕ) → length xs ≤ i → map f (drop i xs) ≡ []
dropped_none f xs i past = ap (map f) (drop_all i xs past)

-- what is first of some is first of them and more
pub first_of : {X Y : Type 0} (f : X → Y) (xs : List X) (i : ℕ) (more : List Y) → i < length xs → slice_get (map f (drop i xs) ++ more) 0 ≡ slice_get (map f (drop i xs)) 0
first_of f [] i more h = absurd (omega (arith, h))
first_of f (x ∷ xs) zero more h = refl
first_of f (x ∷ xs) (suc i) more h = first_of f xs i more (omega (arith, h))

-- units are taken of the first that is left, and it is passed once none are left of it
pub served_at : {X A : Type 0} (f : X → Amount A) (xs : List X) (i : ℕ) (d y : X) (taken passed : ℕ) → i < length xs
    → f y ≡ record { of = (f (get_or xs i d)).of; quantity = (f (get_or xs i d)).quantity - taken } → passed ≡ cond ((f (get_or xs i d)).quantity - taken == 0) 1 0
    → map f (drop (i + passed) (set xs i y)) ≡ served taken (map f (drop i xs))
served_at f [] i d y taken passed h is flag = absurd (omega (arith, h))
served_at {X} {A} f (x ∷ xs) zero d y taken passed h is flag = by (nat_lt taken (f x).quantity) refl
  where
    by : (b : Bool) → nat_lt taken (f x).quantity ≡ b
        → map f (drop (0 + passed) (y ∷ xs)) ≡ cond b (record { of = (f x).of; quantity = (f x).quantity - taken } ∷ map f xs) (map f xs)
    by true e =
        let some : (f x).quantity - taken ≢ 0 = (let more = ltb-true taken (f x).quantity e in λ none. omega (arith, more, none)) in
        let here : passed ≡ 0 = flag ∙ ap (λ (b : Bool). cond b 1 0) (ne_eqb ((f x).quantity - taken) 0 some) in
        ap (λ (n : ℕ). map f (drop (0 + n) (y ∷ xs))) here ∙ ap (λ (a : Amount A). a ∷ map f xs) is
    by false e =
        let none : (f x).quantity - taken ≡ 0 = omega (arith, ltb-false taken (f x).quantity e) in
        let next : passed ≡ 1 = flag ∙ ap (λ (b : Bool). cond b 1 0) (eq-eqb ((f x).quantity - taken) 0 none) in
        ap (λ (n : ℕ). map f (drop (0 + n) (y ∷ xs))) next
served_at f (x ∷ xs) (suc i) d y taken passed h is flag =
    let next : suc i + passed ≡ suc (i + passed) = omega arith in
    ap (λ (n : ℕ). map f (drop n (x ∷ set xs i y))) next ∙ served_at f xs i d y taken passed (omega (arith, h)) is flag

pub always_ok : {T E P : Type 0} (r : Result T E) → P → OnOk r P
always_ok (Ok x) h = h
always_ok (Err e) h = tt
