-- Bookings in a list: by rising numbers, and one removed by its number.
use Rattle.std.specs.Prelude.{filter, find}
use Rattle.std.proofs.Common.{◌≡◌, ◌≢◌, ℕ, ◌==◌, ◌<◌, ◌≤◌, inl, inr, Bool, true, false, if◌then◌else◌, List, [], ◌∷◌, ◌++◌, Some, refl, sym, ap, subst, ◌∙◌, arith}
use Rattle.std.proofs.lemmas.Bool.{cases_eq, eq-eqb, ne_eqb}
use Rattle.mrp_book.specs.declared.booking.Booking.{Booking}
use Rattle.mrp_book.proofs.Numbers.{has_number, is_other, test_other, test_same}

-- what a test keeps of a list that begins with an element
pub kept_head : {A : Type 0} (p : A → Bool) (x : A) (xs : List A) (v : Bool) → p x ≡ v → filter p (x ∷ xs) ≡ (if v then x ∷ filter p xs else filter p xs)
kept_head p x xs v e = ap (λ (b : Bool). if b then x ∷ filter p xs else filter p xs) e

-- the order of two tests does not matter
pub tests_commute : {A : Type 0} (p q : A → Bool) (xs : List A) → filter p (filter q xs) ≡ filter q (filter p xs)
tests_commute p q [] = refl
tests_commute {A} p q (x ∷ xs) = by (tests_commute p q xs) (p x) (q x) refl refl
  where
    by : filter p (filter q xs) ≡ filter q (filter p xs) → (v w : Bool) → p x ≡ v → q x ≡ w → filter p (filter q (x ∷ xs)) ≡ filter q (filter p (x ∷ xs))
    by rest true true e f = ap (filter p) (kept_head q x xs true f) ∙ kept_head p x (filter q xs) true e ∙ ap (λ (ys : List A). x ∷ ys) rest ∙ sym (ap (filter q) (kept_head p x xs true e) ∙ kept_head q x (filter p xs) true f)
    by rest true false e f = ap (filter p) (kept_head q x xs false f) ∙ rest ∙ sym (ap (filter q) (kept_head p x xs true e) ∙ kept_head q x (filter p xs) false f)
    by rest false true e f = ap (filter p) (kept_head q x xs true f) ∙ kept_head p x (filter q xs) false e ∙ rest ∙ sym (ap (filter q) (kept_head p x xs false e))
    by rest false false e f = ap (filter p) (kept_head q x xs false f) ∙ rest ∙ sym (ap (filter q) (kept_head p x xs false e))

pub keeps_all : {A : Type 0} (xs : List A) → filter (λ _. true) xs ≡ xs
keeps_all [] = refl
keeps_all {A} (x ∷ xs) = ap (λ (ys : List A). x ∷ ys) (keeps_all xs)

-- Bookings by rising numbers, each above the first bound and at most the second.

abbrev pub Rise : ℕ → ℕ → List Booking → Type 0
Rise low high [] = low ≤ high
Rise low high (b ∷ bs) = (low < b.number) × Rise b.number high bs

pub rise_wider : (low high more : ℕ) (bs : List Booking) → high ≤ more → Rise low high bs → Rise low more bs
rise_wider low high more [] le r = omega (arith, le, r)
rise_wider low high more (b ∷ bs) le r = (r.0, rise_wider b.number high more bs le r.1)

rise_lower : (less low high : ℕ) (bs : List Booking) → less ≤ low → Rise low high bs → Rise less high bs
rise_lower less low high [] le r = omega (arith, le, r)
rise_lower less low high (b ∷ bs) le r = (omega (arith, le, r.0), r.1)

pub rise_push : (low high : ℕ) (bs : List Booking) (b : Booking) → high < b.number → Rise low high bs → Rise low b.number (bs ++ b ∷ [])
rise_push low high [] b lt r = (omega (arith, lt, r), omega arith)
rise_push low high (x ∷ bs) b lt r = (r.0, rise_push x.number high bs b lt r.1)

pub rise_kept : (p : Booking → Bool) (low high : ℕ) (bs : List Booking) → Rise low high bs → Rise low high (filter p bs)
rise_kept p low high [] r = r
rise_kept p low high (b ∷ bs) r = by (rise_kept p b.number high bs r.1) (p b) refl
  where
    by : Rise b.number high (filter p bs) → (v : Bool) → p b ≡ v → Rise low high (filter p (b ∷ bs))
    by rest true e = subst (Rise low high) (sym (kept_head p b bs true e)) (r.0, rest)
    by rest false e = subst (Rise low high) (sym (kept_head p b bs false e)) (rise_lower low b.number high (filter p bs) (omega (arith, r.0)) rest)

-- One booking removed, by its number.

abbrev pub is_of : ℕ → Booking → Bool
is_of desk b = b.desk == desk

-- above a number, no booking has it
above_stay : (number low high : ℕ) (bs : List Booking) → number ≤ low → Rise low high bs → filter (is_other number) bs ≡ bs
above_stay number low high [] le r = refl
above_stay number low high (b ∷ bs) le r =
    kept_head (is_other number) b bs true (test_other b.number number (λ (e : b.number ≡ number). omega (arith, e, le, r.0)))
    ∙ ap (λ (xs : List Booking). b ∷ xs) (above_stay number b.number high bs (omega (arith, le, r.0)) r.1)

-- a desk's bookings stay if another desk's is removed
pub others_stay : (desk number low high : ℕ) (bs : List Booking) (taken : Booking) → Rise low high bs → find (has_number number) bs ≡ Some taken → taken.desk ≢ desk
    → filter (is_of desk) (filter (is_other number) bs) ≡ filter (is_of desk) bs
others_stay desk number low high [] taken r found ne = refl
others_stay desk number low high (b ∷ bs) taken r found ne = elim (cases_eq b.number number) [
  | inl here ↦
      let same : Some b ≡ Some taken = sym (ap (λ (v : Bool). if v then Some b else find (has_number number) bs) (eq-eqb b.number number here)) ∙ found in
      let own : b ≡ taken = cc in
      let theirs : is_of desk b ≡ false = ne_eqb b.desk desk (λ (e : b.desk ≡ desk). ne (ap (λ (x : Booking). x.desk) (sym own) ∙ e)) in
      ap (filter (is_of desk)) (kept_head (is_other number) b bs false (test_same b.number number here) ∙ above_stay number b.number high bs (omega (arith, here)) r.1)
      ∙ sym (kept_head (is_of desk) b bs false theirs)
  | inr other ↦
      let later : find (has_number number) bs ≡ Some taken = sym (ap (λ (v : Bool). if v then Some b else find (has_number number) bs) (ne_eqb b.number number other)) ∙ found in
      ap (filter (is_of desk)) (kept_head (is_other number) b bs true (test_other b.number number other))
      ∙ both (others_stay desk number b.number high bs taken r.1 later ne) (is_of desk b) refl
]
  where
    both : filter (is_of desk) (filter (is_other number) bs) ≡ filter (is_of desk) bs → (v : Bool) → is_of desk b ≡ v → filter (is_of desk) (b ∷ filter (is_other number) bs) ≡ filter (is_of desk) (b ∷ bs)
    both rest true e = kept_head (is_of desk) b (filter (is_other number) bs) true e ∙ ap (λ (xs : List Booking). b ∷ xs) rest ∙ sym (kept_head (is_of desk) b bs true e)
    both rest false e = kept_head (is_of desk) b (filter (is_other number) bs) false e ∙ rest ∙ sym (kept_head (is_of desk) b bs false e)
