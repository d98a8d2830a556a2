-- Lists in which any two elements are related.
use Rattle.std.proofs.Common.{◌≡◌, ◌≢◌, ℕ, zero, suc, ◌+◌, ◌<◌, ◌≤◌, Bool, true, false, cond, List, [], ◌∷◌, ◌++◌, get_or, map, refl, arith}
use Rattle.std.specs.Prelude.{All, AllPairs, filter, flat_map}
use Rattle.std.specs.List.{enumerate_from, range_with_len}
use Rattle.std.proofs.lemmas.List.Elements.{All-nil, All-cons, All-append, All-map, All-filter}
use Rattle.std.proofs.lemmas.List.Kept.{AllPairs-cons}
use Rattle.mrp_item.specs.declared.order.Order.{Order}

module _ {X : Type 0} (R : X → X → Type 0) where
  pub none-pairs : AllPairs R []
  none-pairs i j d lt h = absurd (omega (arith, h))

  -- one list after another
  pub append-pairs : (xs ys : List X) → AllPairs R xs → AllPairs R ys → All (λ x. All (R x) ys) xs → AllPairs R (xs ++ ys)
  append-pairs [] ys here there across = there
  append-pairs (x ∷ xs) ys here there across =
      AllPairs-cons R x (xs ++ ys)
      (All-append (R x) xs ys (λ k d h. here 0 (suc k) d (omega arith) (omega (arith, h))) (across 0 x (omega arith)))
      (append-pairs xs ys (λ i j d lt h. here (suc i) (suc j) d (omega (arith, lt)) (omega (arith, h))) there (λ k d h. across (suc k) d (omega (arith, h))))

  module _ {K : Type 0} (f : K → List X) (Q : K → K → Type 0) (apart : (k l : K) → Q k l → All (λ x. All (R x) (f l)) (f k)) where
    all-apart : (k : K) (ks : List K) → All (Q k) ks → All (λ x. All (R x) (flat_map f ks)) (f k)
    all-apart k [] all = λ i d h. All-nil (R (get_or (f k) i d))
    all-apart k (l ∷ ks) all = λ i d h.
        All-append (R (get_or (f k) i d)) (f l) (flat_map f ks) (apart k l (all 0 l (omega arith)) i d h) (all-apart k ks (λ j e g. all (suc j) e (omega (arith, g))) i d h)

    -- the lists of some keys, one after another
    pub flat-pairs : (ks : List K) → ((k : K) → AllPairs R (f k)) → AllPairs Q ks → AllPairs R (flat_map f ks)
    flat-pairs [] each keys = none-pairs
    flat-pairs (k ∷ ks) each keys =
        append-pairs (f k) (flat_map f ks) (each k) (flat-pairs ks each (λ i j d lt h. keys (suc i) (suc j) d (omega (arith, lt)) (omega (arith, h))))
        (all-apart k ks (λ j d h. keys 0 (suc j) d (omega arith) (omega (arith, h))))

-- what is made of elements
pub map-pairs : {X Y : Type 0} (Q : X → X → Type 0) (R : Y → Y → Type 0) (f : X → Y) → ((x y : X) → Q x y → R (f x) (f y)) → (xs : List X) → AllPairs Q xs → AllPairs R (map f xs)
map-pairs Q R f step [] pairs = none-pairs R
map-pairs Q R f step (x ∷ xs) pairs =
    AllPairs-cons R (f x) (map f xs) (All-map (R (f x)) f xs (λ k d h. step x (get_or xs k d) (pairs 0 (suc k) d (omega arith) (omega (arith, h)))))
    (map-pairs Q R f step xs (λ i j d lt h. pairs (suc i) (suc j) d (omega (arith, lt)) (omega (arith, h))))

range-least : (a n : ℕ) → All (λ k. a ≤ k) (range_with_len a n)
range-least a zero = All-nil (λ k. a ≤ k)
range-least a (suc n) = All-cons (λ k. a ≤ k) a (range_with_len (a + 1) n) (omega arith) (λ k d h. omega (arith, range-least (a + 1) n k d h))

pub range-pairs : (a n : ℕ) → AllPairs (λ k l. k < l) (range_with_len a n)
range-pairs a zero = none-pairs (λ k l. k < l)
range-pairs a (suc n) = AllPairs-cons (λ k l. k < l) a (range_with_len (a + 1) n) (λ k d h. omega (arith, range-least (a + 1) n k d h)) (range-pairs (a + 1) n)

numbers-least : (n : ℕ) (orders : List Order) → All (λ x. n ≤ x.0) (enumerate_from n orders)
numbers-least n [] = All-nil (λ x. n ≤ x.0)
numbers-least n (o ∷ orders) = All-cons (λ x. n ≤ x.0) (n, o) (enumerate_from (n + 1) orders) (omega arith) (λ k d h. omega (arith, numbers-least (n + 1) orders k d h))

pub number-pairs : (n : ℕ) (orders : List Order) → AllPairs (λ x y. x.0 < y.0) (enumerate_from n orders)
number-pairs n [] = none-pairs (λ x y. x.0 < y.0)
number-pairs n (o ∷ orders) =
    AllPairs-cons (λ x y. x.0 < y.0) (n, o) (enumerate_from (n + 1) orders) (λ k d h. omega (arith, numbers-least (n + 1) orders k d h)) (number-pairs (n + 1) orders)

-- what two tests leave of a list whose keys rise, if nothing passes both
pub parts-apart : {X : Type 0} (key : X → ℕ) (p q : X → Bool) → ((x : X) → p x ≡ true → q x ≡ true → ⊥) → (xs : List X) → AllPairs (λ x y. key x < key y) xs
    → All (λ x. All (λ y. key x ≢ key y) (filter q xs)) (filter p xs)
parts-apart key p q apart [] rising = All-nil (λ x. All (λ y. key x ≢ key y) [])
parts-apart {X} key p q apart (x ∷ xs) rising =
    by (p x) (q x) refl refl (parts-apart key p q apart xs (λ i j d lt h. rising (suc i) (suc j) d (omega (arith, lt)) (omega (arith, h))))
    (λ j d h. rising 0 (suc j) d (omega arith) (omega (arith, h)))
  where
    by : (a b : Bool) → p x ≡ a → q x ≡ b → All (λ y. All (λ z. key y ≢ key z) (filter q xs)) (filter p xs) → All (λ y. key x < key y) xs
        → All (λ y. All (λ z. key y ≢ key z) (cond b (x ∷ filter q xs) (filter q xs))) (cond a (x ∷ filter p xs) (filter p xs))
    by true true one other rest low = absurd (apart x one other)
    by true false one other rest low =
        All-cons (λ y. All (λ z. key y ≢ key z) (filter q xs)) x (filter p xs)
        (λ k d h same. absurd (omega (arith, same, All-filter q (λ y. key x < key y) xs low k d h))) rest
    by false true one other rest low = λ k d h.
        All-cons (λ z. key (get_or (filter p xs) k d) ≢ key z) x (filter q xs)
        (λ same. absurd (omega (arith, same, All-filter p (λ y. key x < key y) xs low k d h))) (rest k d h)
    by false false one other rest low = rest
