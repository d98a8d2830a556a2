-- Lists whose elements have numbers: they are as long as the parts of all numbers together.
use Rattle.std.proofs.Common.{◌≡◌, ◌∙◌, ◌≢◌, ℕ, zero, suc, ◌+◌, ◌<◌, ◌≤◌, ◌==◌, ltb, Bool, true, false, cond, List, [], ◌∷◌, filter, length, ap, ap₂, arith, inl, inr, refl, sym}
use Rattle.std.specs.Prelude.{All}
use Rattle.std.proofs.lemmas.Bool.{cases_lt, eq-eqb, le-ltb, lt-ltb, ne_eqb}
use Rattle.std.proofs.lemmas.List.Elements.{All-head, All-tail}

length-if : {X : Type 0} (b : Bool) (x : X) (xs : List X) → length (cond b (x ∷ xs) xs) ≡ cond b 1 0 + length xs
length-if true x xs = omega arith
length-if false x xs = omega arith

at-most-one : (b : Bool) → cond b 1 0 ≤ 1
at-most-one true = omega arith
at-most-one false = omega arith

-- a number is below the next if it is below this one, or is this one
number-splits : (m n : ℕ) → cond (ltb m (n + 1)) 1 0 ≡ cond (ltb m n) 1 0 + cond (m == n) 1 0
number-splits m n = elim (cases_lt m n) [
  | inl less ↦
      ap (λ (b : Bool). cond b 1 0) (lt-ltb m (n + 1) (omega (arith, less)))
      ∙ sym (ap₂ (λ (b e : Bool). cond b 1 0 + cond e 1 0) (lt-ltb m n less) (ne_eqb m n (λ e. absurd (omega (arith, less, e)))))
  | inr past ↦ elim (cases_lt n m) [
    | inl more ↦
        ap (λ (b : Bool). cond b 1 0) (le-ltb m (n + 1) (omega (arith, more)))
        ∙ sym (ap₂ (λ (b e : Bool). cond b 1 0 + cond e 1 0) (le-ltb m n past) (ne_eqb m n (λ e. absurd (omega (arith, more, e)))))
    | inr least ↦
        ap (λ (b : Bool). cond b 1 0) (lt-ltb m (n + 1) (omega (arith, least)))
        ∙ sym (ap₂ (λ (b e : Bool). cond b 1 0 + cond e 1 0) (le-ltb m n past) (eq-eqb m n (omega (arith, past, least))))
  ]
]

module _ {X : Type 0} (number : X → ℕ) where
  -- how many have a number below this one
  abbrev below : ℕ → List X → ℕ
  below n xs = length (filter (λ x. ltb (number x) n) xs)

  below-next : (n : ℕ) (xs : List X) → below (n + 1) xs ≡ below n xs + length (filter (λ x. number x == n) xs)
  below-next n [] = refl
  below-next n (x ∷ xs) =
      let a = length-if (ltb (number x) (n + 1)) x (filter (λ y. ltb (number y) (n + 1)) xs) in
      let b = length-if (ltb (number x) n) x (filter (λ y. ltb (number y) n) xs) in
      let c = length-if (number x == n) x (filter (λ y. number y == n) xs) in
      let d = number-splits (number x) n in
      let rest = below-next n xs in
      omega (arith, a, b, c, d, rest)

  below-none : (xs : List X) → below 0 xs ≡ 0
  below-none [] = refl
  below-none (x ∷ xs) =
      let a = length-if (ltb (number x) 0) x (filter (λ y. ltb (number y) 0) xs) in
      let b : ◌≡◌ {A = ℕ} (cond (ltb (number x) 0) 1 0) 0 = ap (λ (b : Bool). cond b 1 0) (le-ltb (number x) 0 (omega arith)) in
      let rest = below-none xs in
      omega (arith, a, b, rest)

  below-few : (n : ℕ) (xs : List X) → below n xs ≤ length xs
  below-few n [] = omega arith
  below-few n (x ∷ xs) =
      let a = length-if (ltb (number x) n) x (filter (λ y. ltb (number y) n) xs) in
      let b = at-most-one (ltb (number x) n) in
      let rest = below-few n xs in
      omega (arith, a, b, rest)

  below-all : (n : ℕ) (xs : List X) → All (λ x. number x < n) xs → below n xs ≡ length xs
  below-all n [] all = refl
  below-all n (x ∷ xs) all =
      let a = length-if (ltb (number x) n) x (filter (λ y. ltb (number y) n) xs) in
      let b : ◌≡◌ {A = ℕ} (cond (ltb (number x) n) 1 0) 1 = ap (λ (b : Bool). cond b 1 0) (lt-ltb (number x) n (All-head (λ y. number y < n) x xs all)) in
      let rest = below-all n xs (All-tail (λ y. number y < n) x xs all) in
      omega (arith, a, b, rest)

  -- if no element has a number, its part is empty
  pub none-numbered : (n : ℕ) (xs : List X) → All (λ x. number x ≢ n) xs → filter (λ x. number x == n) xs ≡ []
  none-numbered n [] all = refl
  none-numbered n (x ∷ xs) all =
      ap (λ (b : Bool). cond b (x ∷ filter (λ y. number y == n) xs) (filter (λ y. number y == n) xs)) (ne_eqb (number x) n (All-head (λ y. number y ≢ n) x xs all))
      ∙ none-numbered n xs (All-tail (λ y. number y ≢ n) x xs all)

-- a list whose part of each number is no longer than another's is no longer
pub few-by-number : {X Y : Type 0} (number : X → ℕ) (mark : Y → ℕ) (xs : List X) (ys : List Y) (n : ℕ) → All (λ x. number x < n) xs
    → ((d : ℕ) → d < n → length (filter (λ x. number x == d) xs) ≤ length (filter (λ y. mark y == d) ys)) → length xs ≤ length ys
few-by-number {X} {Y} number mark xs ys n all each =
    let a = below-all number n xs all in
    let b = below-few mark n ys in
    let c = upto n (omega arith) in
    omega (arith, a, b, c)
  where
    upto : (k : ℕ) → k ≤ n → below number k xs ≤ below mark k ys
    upto zero within = let a = below-none number xs in omega (arith, a)
    upto (suc k) within =
        let next : suc k ≡ k + 1 = omega arith in
        let a : below number (suc k) xs ≡ below number k xs + length (filter (λ x. number x == k) xs) = ap (λ (m : ℕ). below number m xs) next ∙ below-next number k xs in
        let b : below mark (suc k) ys ≡ below mark k ys + length (filter (λ y. mark y == k) ys) = ap (λ (m : ℕ). below mark m ys) next ∙ below-next mark k ys in
        let c = upto k (omega (arith, within)) in
        let d = each k (omega (arith, within)) in
        omega (arith, a, b, c, d)
