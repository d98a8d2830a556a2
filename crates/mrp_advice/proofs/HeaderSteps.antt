-- The steps of loops over a header's cells, over columns and over tables.
use Rattle.std.proofs.Common.{◌≡◌, ◌∙◌, ℕ, zero, suc, ◌+◌, ◌<◌, ◌≤◌, Bool, true, false, not, List, [], ◌∷◌, Bor, Some, None, drop, get_or, length, map, nat_eq, refl, sym, take, ap, arith}
use Rattle.std.specs.Prelude.{◌&&◌, ◌||◌, if◌then◌else◌}
use Rattle.std.proofs.lemmas.Bool.{and_from, and_parts}
use Rattle.std.specs.Cmp.Lexicographic.{pointwise}
use Rattle.std.specs.List.{list_all, list_any}
use Rattle.std.proofs.lemmas.List.{drop_all, drop_more, get_or-map, length-map}
use Rattle.mrp_rows.specs.declared.fault.Table.{Table}
use Rattle.mrp_survey.specs.Forms.{AllCells, Row}
use Rattle.mrp_advice.specs.Headers.{first_other, is_of_other, same_count}

-- one more table
pub other-more : (own : Table) (row : Row) (all : List Table) (i : ℕ) (d table : Table) (other : Bool) → i < length all → table ≡ get_or all i d → is_of_other own row table ≡ other
    → first_other own row (drop i all) ≡ (if other then Some table else first_other own row (drop (i + 1) all))
unfolding first_other
other-more own row all i d table other within is own_is = rw (drop_more all i d within, ← is, own_is) refl

pub other-past : (own : Table) (row : Row) (all : List Table) (i : ℕ) → length all ≤ i → first_other own row (drop i all) ≡ None
unfolding first_other
other-past own row all i past = rw (drop_all i all past) refl

not-same : (a b : Bool) → not a ≡ not b → a ≡ b
not-same true true e = refl
not-same true false e = sym e
not-same false true e = sym e
not-same false false e = refl

-- one more cell, and its column
pub same-more : (row : AllCells) (names : List (Bor (List ℕ))) (i : ℕ) (d : Bor (List ℕ)) (cell name : List ℕ) (differs same : Bool) → i < length row → i < length names → cell ≡ get_or row i [] → name ≡ (get_or names i d).now
    → differs ≡ not (pointwise nat_eq cell name) → differs ≡ not same
    → same_count (drop i row) (drop i (map (λ n. n.now) names)) ≡ (if same then suc (same_count (drop (i + 1) row) (drop (i + 1) (map (λ n. n.now) names))) else 0)
unfolding same_count
same-more row names i d cell name differs same in_row in_names cell_is name_is told is =
    let now = λ (n : Bor (List ℕ)). n.now in
    let in_columns : i < length (map now names) = rw (length-map names now) in_names in
    let name_at = name_is ∙ sym (get_or-map now names i d [] in_names) in
    let own : pointwise nat_eq cell name ≡ same = not-same (pointwise nat_eq cell name) same (sym told ∙ is) in
    rw (drop_more row i [] in_row, drop_more (map now names) i [] in_columns, ← cell_is, ← name_at, own) refl

-- no more cell, or no more column
pub same-end : (row : AllCells) (columns : List (List ℕ)) (i : ℕ) → length row ≤ i → same_count (drop i row) (drop i columns) ≡ 0
unfolding same_count
same-end row columns i past = rw (drop_all i row past) refl

same-none : (row : AllCells) → same_count row [] ≡ 0
unfolding same_count
same-none [] = refl
same-none (cell ∷ row) = refl

pub same-all : (row : AllCells) (columns : List (List ℕ)) (i : ℕ) → length columns ≤ i → same_count (drop i row) (drop i columns) ≡ 0
same-all row columns i past = rw (drop_all i columns past) (same-none (drop i row))

-- the count so far, where nothing more is counted, and where one more is
pub count-ends : (i whole more : ℕ) → whole ≡ i + more → more ≡ 0 → i ≡ whole
count-ends i whole more is none = omega (arith, is, none)

pub same-step : (i whole more rest : ℕ) → whole ≡ i + more → more ≡ suc rest → whole ≡ i + 1 + rest
same-step i whole more rest is next = omega (arith, is, next)

-- names one by one
fails : (p : List ℕ → Bool) (xs : List (List ℕ)) (i : ℕ) → i < length xs → p (get_or xs i []) ≡ false → list_all p xs ≡ false
fails p [] i within other = absurd (omega (arith, within))
fails p (x ∷ xs) zero within other = rw other refl
fails p (x ∷ xs) (suc i) within other = by (p x) (fails p xs i (omega (arith, within)) other)
  where
    by : (b : Bool) → list_all p xs ≡ false → (b && list_all p xs) ≡ false
    by true e = e
    by false e = refl

all-more : (p : List ℕ → Bool) (xs : List (List ℕ)) (i : ℕ) → i < length xs → p (get_or xs i []) ≡ true → list_all p (take i xs) ≡ true → list_all p (take (i + 1) xs) ≡ true
all-more p [] i within passes so_far = absurd (omega (arith, within))
all-more p (x ∷ xs) zero within passes so_far = rw passes refl
all-more p (x ∷ xs) (suc i) within passes so_far =
    let own = and_parts (p x) (list_all p (take i xs)) so_far in
    let one : suc i + 1 ≡ suc (i + 1) = omega arith in
    rw one (and_from (p x) (list_all p (take (i + 1) xs)) own.0 (all-more p xs i (omega (arith, within)) passes own.1))

holds : (p : List ℕ → Bool) (xs : List (List ℕ)) (i : ℕ) → i < length xs → p (get_or xs i []) ≡ true → list_any p xs ≡ true
holds p [] i within passes = absurd (omega (arith, within))
holds p (x ∷ xs) zero within passes = rw passes refl
holds p (x ∷ xs) (suc i) within passes = by (p x) (holds p xs i (omega (arith, within)) passes)
  where
    by : (b : Bool) → list_any p xs ≡ true → (b || list_any p xs) ≡ true
    by true e = refl
    by false e = e

both-fail : (a b c : Bool) → (a || b) ≡ false → (b ≡ false → c ≡ false) → (a || c) ≡ false
both-fail true b c e next = absurd cc
both-fail false b c e next = next e

none-more : (p : List ℕ → Bool) (xs : List (List ℕ)) (i : ℕ) → i < length xs → p (get_or xs i []) ≡ false → list_any p (take i xs) ≡ false → list_any p (take (i + 1) xs) ≡ false
none-more p [] i within other so_far = absurd (omega (arith, within))
none-more p (x ∷ xs) zero within other so_far = rw other refl
none-more p (x ∷ xs) (suc i) within other so_far =
    let one : suc i + 1 ≡ suc (i + 1) = omega arith in
    rw one (both-fail (p x) (list_any p (take i xs)) (list_any p (take (i + 1) xs)) so_far (λ e. none-more p xs i (omega (arith, within)) other e))

module _ (p : List ℕ → Bool) (names : List (Bor (List ℕ))) (i : ℕ) (d : Bor (List ℕ)) (name : List ℕ) (within : i < length names) (is : name ≡ (get_or names i d).now) where
  there : {b : Bool} → p name ≡ b → p (get_or (map (λ (n : Bor (List ℕ)). n.now) names) i []) ≡ b
  there own = ap p (get_or-map (λ (n : Bor (List ℕ)). n.now) names i d [] within ∙ sym is) ∙ own

  long : i < length (map (λ (n : Bor (List ℕ)). n.now) names)
  long = rw (length-map names (λ (n : Bor (List ℕ)). n.now)) within

  pub each-fails : p name ≡ false → list_all p (map (λ n. n.now) names) ≡ false
  each-fails other = fails p (map (λ (n : Bor (List ℕ)). n.now) names) i long (there other)

  pub each-more : p name ≡ true → list_all p (take i (map (λ n. n.now) names)) ≡ true → list_all p (take (i + 1) (map (λ n. n.now) names)) ≡ true
  each-more passes so_far = all-more p (map (λ (n : Bor (List ℕ)). n.now) names) i long (there passes) so_far

  pub some-holds : p name ≡ true → list_any p (map (λ n. n.now) names) ≡ true
  some-holds passes = holds p (map (λ (n : Bor (List ℕ)). n.now) names) i long (there passes)

  pub some-more : p name ≡ false → list_any p (take i (map (λ n. n.now) names)) ≡ false → list_any p (take (i + 1) (map (λ n. n.now) names)) ≡ false
  some-more other so_far = none-more p (map (λ (n : Bor (List ℕ)). n.now) names) i long (there other) so_far
