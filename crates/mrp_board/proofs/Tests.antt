-- Tests, and what they find in lists of places.
use Rattle.std.proofs.Common.{◌≡◌, ◌≢◌, ◌⊎◌, ◌∙◌, ◌<◌, ◌≤◌, ◌+◌, ◌==◌, ◌||◌, ◌&&◌, ℕ, zero, suc, Bool, true, false, cond, not, List, [], ◌∷◌, ◌++◌, Option, Some, None, length, get_or, map, set, inl, inr, refl, sym, ap, subst, arith, get_or-set_same, get_or-set_other, length-set}
use Rattle.std.proofs.Math.Bool.{or-false}
use Rattle.std.proofs.lemmas.Bool.{cases_order}
use Rattle.std.proofs.lemmas.Bool.Decides.{nat_tests}
use Rattle.std.proofs.lemmas.List.Elements.{All-head, All-tail}
use Rattle.std.proofs.lemmas.List.Folds.{list_any-append}
use Rattle.std.proofs.lemmas.List.FromFn.{fill_by_all, get_or-map-range_with_len, get_or-range_with_len, length-map-range_with_len, length-range_with_len}
use Rattle.std.specs.Prelude.{All, find, filter_map, is_some}
use Rattle.std.specs.List.{cons_option, list_all, list_any, range_with_len}

pub same-number : (i j : ℕ) → i ≡ j → (i == j) ≡ true
same-number i j e = grind (arith, nat_tests)

pub other-number : (i j : ℕ) → i ≢ j → (i == j) ≡ false
other-number i j e = grind (arith, nat_tests)

pub equal : (i j : ℕ) → (i == j) ≡ true → i ≡ j
equal i j e = grind (arith, nat_tests)

-- numbers in an order differ
pub apart : (i j : ℕ) → (i < j) ⊎ (j < i) → i ≢ j
apart i j (inl low) same = absurd (omega (arith, low, same))
apart i j (inr high) same = absurd (omega (arith, high, same))

pub no : {A : Type 0} → false ≡ true → A
no e = absurd (let n : false ≡ true = e in cc)

pub either : (a b : Bool) → (a || b) ≡ true → (a ≡ true) ⊎ (b ≡ true)
either true b e = inl refl
either false b e = inr e

pub and-first : (a b : Bool) → (a && b) ≡ true → a ≡ true
and-first true b e = refl
and-first false b e = no e

pub and-second : (a b : Bool) → (a && b) ≡ true → b ≡ true
and-second true b e = e
and-second false b e = no e

pub and-both : (a b : Bool) → a ≡ true → b ≡ true → (a && b) ≡ true
and-both true b e f = f
and-both false b e f = no e

pub or-second : (a b : Bool) → b ≡ true → (a || b) ≡ true
or-second true b e = refl
or-second false b e = e

pub is-not : (b : Bool) → not b ≡ true → b ≡ false
is-not true e = sym e
is-not false e = refl

pub none-some : {X : Type 0} (o : Option X) → is_some o ≡ false → o ≡ None
none-some None e = refl
none-some (Some x) e = absurd (let n : true ≡ false = e in cc)

-- one more element
pub any-more : {X : Type 0} (test : X → Bool) (xs : List X) (x : X) → list_any test (xs ++ x ∷ []) ≡ (list_any test xs || test x)
any-more test xs x = list_any-append test xs (x ∷ []) ∙ ap (λ (b : Bool). list_any test xs || b) (or-false (test x))

-- Tests that agree on a list's elements.

pub all-agree : {X : Type 0} (f g : X → Bool) (xs : List X) → All (λ x. f x ≡ g x) xs → list_all f xs ≡ list_all g xs
all-agree f g [] same = refl
all-agree f g (x ∷ xs) same = ap (λ b. b && list_all f xs) (All-head (λ y. f y ≡ g y) x xs same) ∙ ap (λ b. g x && b) (all-agree f g xs (All-tail (λ y. f y ≡ g y) x xs same))

pub all-same : {X : Type 0} (f g : X → Bool) (xs : List X) → ((x : X) → f x ≡ g x) → list_all f xs ≡ list_all g xs
all-same f g [] same = refl
all-same f g (x ∷ xs) same = ap (λ b. b && list_all f xs) (same x) ∙ ap (λ b. g x && b) (all-same f g xs same)

pub find-agree : {X : Type 0} (f g : X → Bool) (xs : List X) → All (λ x. f x ≡ g x) xs → find f xs ≡ find g xs
find-agree f g [] same = refl
find-agree f g (x ∷ xs) same = ap (λ b. cond b (Some x) (find f xs)) (All-head (λ y. f y ≡ g y) x xs same) ∙ ap (λ o. cond (g x) (Some x) o) (find-agree f g xs (All-tail (λ y. f y ≡ g y) x xs same))

pub map-same : {X Y : Type 0} (f g : X → Y) (xs : List X) → ((x : X) → f x ≡ g x) → map f xs ≡ map g xs
map-same f g [] same = refl
map-same f g (x ∷ xs) same = ap (λ y. y ∷ map f xs) (same x) ∙ ap (λ l. g x ∷ l) (map-same f g xs same)

pub gives-agree : {X Y : Type 0} (f g : X → Option Y) (xs : List X) → All (λ x. f x ≡ g x) xs → filter_map f xs ≡ filter_map g xs
gives-agree f g [] same = refl
gives-agree f g (x ∷ xs) same =
    ap (λ o. cons_option o (filter_map f xs)) (All-head (λ y. f y ≡ g y) x xs same) ∙ ap (λ l. cons_option (g x) l) (gives-agree f g xs (All-tail (λ y. f y ≡ g y) x xs same))

-- Lists of places.

-- what holds of the first places
pub each-place : (n : ℕ) (P : ℕ → Type 0) → ((i : ℕ) → i < n → P i) → All P (range_with_len 0 n)
each-place n P f = λ k d h.
    let within : k < n = omega (arith, h, length-range_with_len 0 n) in
    let first : 0 + k ≡ k = omega arith in
    subst P (sym (get_or-range_with_len 0 n k d within ∙ first)) (f k within)

-- a list of values by place, with one of them replaced
pub one-set : {X : Type 0} (f g : ℕ → X) (n i : ℕ) (x d : X) → g i ≡ x → ((j : ℕ) → j ≢ i → g j ≡ f j) → map g (range_with_len 0 n) ≡ set (map f (range_with_len 0 n)) i x
one-set f g n i x d here others =
    let old = map f (range_with_len 0 n) in
    let size : length old ≡ n = length-map-range_with_len f 0 n in
    sym (fill_by_all g (set old i x) n d (length-set old i x ∙ size) (λ k h. by k h (cases_order k i)))
  where
    by : (k : ℕ) → k < n → (k ≡ i) ⊎ ((k < i) ⊎ (i < k)) → get_or (set (map f (range_with_len 0 n)) i x) k d ≡ g k
    by k h (inl same) =
        ap (λ m. get_or (set (map f (range_with_len 0 n)) i x) m d) same
        ∙ get_or-set_same (map f (range_with_len 0 n)) i x d (omega (arith, h, same, length-map-range_with_len f 0 n))
        ∙ sym here ∙ ap g (sym same)
    by k h (inr differ) =
        get_or-set_other (map f (range_with_len 0 n)) i k x d (apart k i differ)
        ∙ get_or-map-range_with_len f 0 n k k d h (omega arith)
        ∙ sym (others k (apart k i differ))

-- a test of a list's elements by their places
pub all-by_place : {X : Type 0} (p : X → Bool) (q : ℕ → Bool) (d : X) (a : ℕ) (xs : List X) → ((i : ℕ) → i < length xs → p (get_or xs i d) ≡ q (a + i)) → list_all p xs ≡ list_all q (range_with_len a (length xs))
all-by_place p q d a [] same = refl
all-by_place p q d a (x ∷ xs) same =
    ap (λ b. b && list_all p xs) (same 0 (omega arith) ∙ ap q (omega arith))
    ∙ ap (λ b. q a && b) (all-by_place p q d (a + 1) xs (λ i h. same (suc i) (omega (arith, h)) ∙ ap q (omega arith)))

found-step : (p : ℕ → Bool) (a n i : ℕ) (b : Bool) (rest : Option ℕ) → p a ≡ b → (rest ≡ Some i → (p i ≡ true) × (i < a + 1 + n)) → cond b (Some a) rest ≡ Some i → (p i ≡ true) × (i < a + suc n)
found-step p a n i true rest is later e = let same : a ≡ i = cc in (subst (λ (k : ℕ). p k ≡ true) same is, omega (arith, same))
found-step p a n i false rest is later e = let k = later e in (k.0, omega (arith, k.1))

-- what is found among the first numbers passes the test
pub found-in : (p : ℕ → Bool) (a n i : ℕ) → find p (range_with_len a n) ≡ Some i → (p i ≡ true) × (i < a + n)
found-in p a zero i e = absurd (let k : None ≡ Some i = e in cc)
found-in p a (suc n) i e = found-step p a n i (p a) (find p (range_with_len (a + 1) n)) refl (found-in p (a + 1) n i) e

-- the first number that passes the test is found
pub find-first : (p : ℕ → Bool) (a n i : ℕ) → a ≤ i → i < a + n → p i ≡ true → ((j : ℕ) → j < i → p j ≡ false) → find p (range_with_len a n) ≡ Some i
find-first p a zero i low high is others = absurd (omega (arith, low, high))
find-first p a (suc n) i low high is others = elim (cases_order i a) [
  | inl same ↦
      ap (λ b. cond b (Some a) (find p (range_with_len (a + 1) n))) (ap p (sym same) ∙ is)
      ∙ ap (λ (k : ℕ). Some k) (sym same)
  | inr other ↦ elim other [
    | inl below ↦ absurd (omega (arith, below, low))
    | inr above ↦
        ap (λ b. cond b (Some a) (find p (range_with_len (a + 1) n))) (others a above)
        ∙ find-first p (a + 1) n i (omega (arith, above)) (omega (arith, high)) is others
  ]
]

pub find-none : (p : ℕ → Bool) (a n : ℕ) → ((j : ℕ) → p j ≡ false) → find p (range_with_len a n) ≡ None
find-none p a zero none = refl
find-none p a (suc n) none = ap (λ b. cond b (Some a) (find p (range_with_len (a + 1) n))) (none a) ∙ find-none p (a + 1) n none
