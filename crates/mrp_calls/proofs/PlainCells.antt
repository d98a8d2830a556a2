-- The cells of a call: no line ends in one of them.
use Rattle.std.proofs.Common.{◌≡◌, ◌∙◌, ◌||◌, ◌<◌, ◌≤◌, ℕ, zero, suc, Bool, true, false, List, [], ◌∷◌, length, Option, Some, None, Ok, refl, sym, ap, nat_eq, arith}
use Rattle.std.specs.Prelude.{◌==◌, ◌&&◌, ◌-◌, nat_le, slice_index, codes}
use Rattle.std.specs.Cmp.Lexicographic.{pointwise}
use Rattle.std.specs.Char.{is_ascii_digit}
use Rattle.std.specs.List.{list_all, list_any}
use Rattle.std.proofs.lemmas.Bool.{eqb-true, false≢true, leb-true}
use Rattle.jiff.specs.Types.{Date}
use Rattle.mrp_cal.specs.DateText.{◌>>=◌, date_of, digits_date, has_date_form, two_digits}
use Rattle.mrp_rows.specs.Bundle.{ends_line}
use Rattle.mrp_rows.specs.Cell.{date_cell, name_of, number_cell, word_of}
use Rattle.mrp_rows.specs.Name.{has_name_ends, is_name, is_printable}
use Rattle.mrp_tables.specs.Limits.{call_words}

-- no line ends in a text
abbrev pub IsPlain : List ℕ → Type 0
IsPlain text = list_any ends_line text ≡ false

-- a byte that passes a test which no line end passes
plain-byte : (p : ℕ → Bool) (x : ℕ) → p 10 ≡ false → p 13 ≡ false → p x ≡ true → ends_line x ≡ false
plain-byte p x feed return e = by (x == 10) refl (x == 13) refl
  where
    by : (a : Bool) → (x == 10) ≡ a → (b : Bool) → (x == 13) ≡ b → ((x == 10) || (x == 13)) ≡ false
    by true is b other = absurd (false≢true (sym feed ∙ ap p (sym (eqb-true x 10 is)) ∙ e))
    by false is true other = absurd (false≢true (sym return ∙ ap p (sym (eqb-true x 13 other)) ∙ e))
    by false is false other = rw (is, other) refl

pub and-both : (a b : Bool) → (a && b) ≡ true → (a ≡ true) × (b ≡ true)
and-both true b e = (refl, e)
and-both false b e = absurd cc

pub and-three : (a b c : Bool) → (a && b && c) ≡ true → (a ≡ true) × (b ≡ true) × (c ≡ true)
and-three true true true e = (refl, refl, refl)
and-three true true false e = absurd cc
and-three true false c e = absurd cc
and-three false b c e = absurd cc

and-four : (a b c d : Bool) → (a && b && c && d) ≡ true → (a ≡ true) × (b ≡ true) × (c ≡ true) × (d ≡ true)
and-four true true true true e = (refl, refl, refl, refl)
and-four true true true false e = absurd cc
and-four true true false d e = absurd cc
and-four true false c d e = absurd cc
and-four false b c d e = absurd cc

plain-bytes : (p : ℕ → Bool) (xs : List ℕ) → p 10 ≡ false → p 13 ≡ false → list_all p xs ≡ true → IsPlain xs
plain-bytes p [] feed return e = refl
plain-bytes p (x ∷ xs) feed return e =
    let both = and-both (p x) (list_all p xs) e in
    ap (λ b. b || list_any ends_line xs) (plain-byte p x feed return both.0) ∙ plain-bytes p xs feed return both.1

-- digits
pub number-digits : (n least most : ℕ) (cell : List ℕ) → number_cell least most cell ≡ Ok n → list_all is_ascii_digit cell ≡ true
number-digits n least most [] e = absurd cc
number-digits n least most (b ∷ bs) e = by (list_all is_ascii_digit (b ∷ bs)) refl
  where
    by : (d : Bool) → list_all is_ascii_digit (b ∷ bs) ≡ d → list_all is_ascii_digit (b ∷ bs) ≡ true
    by true d = d
    by false d = absurd (let h = rw d at e in cc)

pub number-plain : (n least most : ℕ) (cell : List ℕ) → number_cell least most cell ≡ Ok n → IsPlain cell
number-plain n least most cell e = plain-bytes is_ascii_digit cell refl refl (number-digits n least most cell e)

pub number-some : (n least most : ℕ) (cell : List ℕ) → number_cell least most cell ≡ Ok n → (first : ℕ) × (rest : List ℕ) × (cell ≡ first ∷ rest) × (is_ascii_digit first ≡ true)
number-some n least most [] e = absurd cc
number-some n least most (b ∷ bs) e = (b, bs, refl, (and-both (is_ascii_digit b) (list_all is_ascii_digit bs) (number-digits n least most (b ∷ bs) e)).0)

-- names
pub is-name-plain : (cell : List ℕ) → is_name cell ≡ true → IsPlain cell
is-name-plain cell is = plain-bytes is_printable cell refl refl (and-four (nat_le 1 (length cell)) (nat_le (length cell) 32) (list_all is_printable cell) (has_name_ends (slice_index cell 0) (slice_index cell (length cell - 1))) is).2

pub name-plain : (name cell : List ℕ) → name_of cell ≡ Ok name → IsPlain cell
name-plain name cell e = by (is_name cell) refl
  where
    by : (b : Bool) → is_name cell ≡ b → IsPlain cell
    by true is = is-name-plain cell is
    by false is = absurd (let h = rw is at e in cc)

pub name-short : (name cell : List ℕ) → name_of cell ≡ Ok name → length cell ≤ 32
name-short name cell e = by (is_name cell) refl
  where
    by : (b : Bool) → is_name cell ≡ b → length cell ≤ 32
    by true is = leb-true (length cell) 32 (and-four (nat_le 1 (length cell)) (nat_le (length cell) 32) (list_all is_printable cell) (has_name_ends (slice_index cell 0) (slice_index cell (length cell - 1))) is).1
    by false is = absurd (let h = rw is at e in cc)

-- words
same-bytes : (xs ys : List ℕ) → pointwise nat_eq xs ys ≡ true → xs ≡ ys
same-bytes [] [] e = refl
same-bytes [] (y ∷ ys) e = absurd cc
same-bytes (x ∷ xs) [] e = absurd cc
same-bytes (x ∷ xs) (y ∷ ys) e =
    let both = and-both (nat_eq x y) (pointwise nat_eq xs ys) e in
    let first : x ≡ y = eqb-true x y both.0 in
    rw (first, same-bytes xs ys both.1) refl

pub word-short : (place : ℕ) (cell : List ℕ) → word_of call_words cell ≡ Ok place → length cell ≤ 6
word-short place cell e =
    by (pointwise nat_eq cell (codes "book")) refl (pointwise nat_eq cell (codes "cancel")) refl (pointwise nat_eq cell (codes "ask")) refl
    (pointwise nat_eq cell (codes "when")) refl (pointwise nat_eq cell (codes "run")) refl
  where
    alike : (word : List ℕ) → pointwise nat_eq cell word ≡ true → length word ≤ 6 → length cell ≤ 6
    alike word is few = omega (arith, ap (length {A = ℕ}) (same-bytes cell word is), few)

    by : (a : Bool) → pointwise nat_eq cell (codes "book") ≡ a → (b : Bool) → pointwise nat_eq cell (codes "cancel") ≡ b → (c : Bool) → pointwise nat_eq cell (codes "ask") ≡ c
        → (d : Bool) → pointwise nat_eq cell (codes "when") ≡ d → (r : Bool) → pointwise nat_eq cell (codes "run") ≡ r → length cell ≤ 6
    by true is b f c g d h r i = alike (codes "book") is (omega arith)
    by false is true f c g d h r i = alike (codes "cancel") f (omega arith)
    by false is false f true g d h r i = alike (codes "ask") g (omega arith)
    by false is false f false g true h r i = alike (codes "when") h (omega arith)
    by false is false f false g false h true i = alike (codes "run") i (omega arith)
    by false is false f false g false h false i = absurd (let none = rw (is, f, g, h, i) at e in cc)

pub word-plain : (place : ℕ) (cell : List ℕ) → word_of call_words cell ≡ Ok place → IsPlain cell
word-plain place cell e =
    by (pointwise nat_eq cell (codes "book")) refl (pointwise nat_eq cell (codes "cancel")) refl (pointwise nat_eq cell (codes "ask")) refl
    (pointwise nat_eq cell (codes "when")) refl (pointwise nat_eq cell (codes "run")) refl
  where
    alike : (word : List ℕ) → pointwise nat_eq cell word ≡ true → IsPlain word → IsPlain cell
    alike word is plain = ap (list_any ends_line) (same-bytes cell word is) ∙ plain

    by : (a : Bool) → pointwise nat_eq cell (codes "book") ≡ a → (b : Bool) → pointwise nat_eq cell (codes "cancel") ≡ b → (c : Bool) → pointwise nat_eq cell (codes "ask") ≡ c
        → (d : Bool) → pointwise nat_eq cell (codes "when") ≡ d → (r : Bool) → pointwise nat_eq cell (codes "run") ≡ r → IsPlain cell
    by true is b f c g d h r i = alike (codes "book") is refl
    by false is true f c g d h r i = alike (codes "cancel") f refl
    by false is false f true g d h r i = alike (codes "ask") g refl
    by false is false f false g true h r i = alike (codes "when") h refl
    by false is false f false g false h true i = alike (codes "run") i refl
    by false is false f false g false h false i = absurd (let none = rw (is, f, g, h, i) at e in cc)

-- dates
plain-at : (xs : List ℕ) → ((k : ℕ) → k < length xs → ends_line (slice_index xs k) ≡ false) → IsPlain xs
plain-at [] each = refl
plain-at (x ∷ xs) each = ap (λ b. b || list_any ends_line xs) (each 0 (omega arith)) ∙ plain-at xs (λ k within. each (suc k) (omega arith))

digit-plain : (x : ℕ) → is_ascii_digit x ≡ true → ends_line x ≡ false
digit-plain x e = plain-byte is_ascii_digit x refl refl e

dash-plain : (x : ℕ) → (x == 45) ≡ true → ends_line x ≡ false
dash-plain x e = ap ends_line (eqb-true x 45 e)

two-plain : (a b n : ℕ) → two_digits a b ≡ Some n → (ends_line a ≡ false) × (ends_line b ≡ false)
two-plain a b n e = by (is_ascii_digit a) refl (is_ascii_digit b) refl
  where
    by : (p : Bool) → is_ascii_digit a ≡ p → (q : Bool) → is_ascii_digit b ≡ q → (ends_line a ≡ false) × (ends_line b ≡ false)
    by true f true g = (digit-plain a f, digit-plain b g)
    by true f false g = absurd (let h = rw (f, g) at e in cc)
    by false f q g = absurd (let h = rw f at e in cc)

bind-some : {A B : Type 0} (o : Option A) (f : A → Option B) (y : B) → (o >>= f) ≡ Some y → (x : A) × (o ≡ Some x) × (f x ≡ Some y)
bind-some None f y e = absurd cc
bind-some (Some x) f y e = (x, refl, e)

date-at : (cell : List ℕ) (d : Date) → has_date_form cell ≡ true → digits_date cell ≡ Some d → (k : ℕ) → k < 10 → ends_line (slice_index cell k) ≡ false
date-at cell d form digits =
    let formed = and-three (length cell == 10) (slice_index cell 4 == 45) (slice_index cell 7 == 45) form in
    let century = bind-some (two_digits (slice_index cell 0) (slice_index cell 1)) _ d digits in
    let year = bind-some (two_digits (slice_index cell 2) (slice_index cell 3)) _ d century.2 in
    let month = bind-some (two_digits (slice_index cell 5) (slice_index cell 6)) _ d year.2 in
    let day = bind-some (two_digits (slice_index cell 8) (slice_index cell 9)) _ d month.2 in
    by (two-plain (slice_index cell 0) (slice_index cell 1) century.0 century.1) (two-plain (slice_index cell 2) (slice_index cell 3) year.0 year.1) (dash-plain (slice_index cell 4) formed.1)
    (two-plain (slice_index cell 5) (slice_index cell 6) month.0 month.1) (dash-plain (slice_index cell 7) formed.2) (two-plain (slice_index cell 8) (slice_index cell 9) day.0 day.1)
  where
    Both : ℕ → ℕ → Type 0
    Both i j = (ends_line (slice_index cell i) ≡ false) × (ends_line (slice_index cell j) ≡ false)

    by : Both 0 1 → Both 2 3 → ends_line (slice_index cell 4) ≡ false → Both 5 6 → ends_line (slice_index cell 7) ≡ false → Both 8 9
        → (k : ℕ) → k < 10 → ends_line (slice_index cell k) ≡ false
    by c y f m s d zero h = c.0
    by c y f m s d (suc zero) h = c.1
    by c y f m s d (suc (suc zero)) h = y.0
    by c y f m s d (suc (suc (suc zero))) h = y.1
    by c y f m s d (suc (suc (suc (suc zero)))) h = f
    by c y f m s d (suc (suc (suc (suc (suc zero))))) h = m.0
    by c y f m s d (suc (suc (suc (suc (suc (suc zero)))))) h = m.1
    by c y f m s d (suc (suc (suc (suc (suc (suc (suc zero))))))) h = s
    by c y f m s d (suc (suc (suc (suc (suc (suc (suc (suc zero)))))))) h = d.0
    by c y f m s d (suc (suc (suc (suc (suc (suc (suc (suc (suc zero))))))))) h = d.1
    by c y f m s d (suc (suc (suc (suc (suc (suc (suc (suc (suc (suc k)))))))))) h = absurd (omega (arith, h))

pub date-plain : (d : Date) (cell : List ℕ) → date_cell cell ≡ Ok d → IsPlain cell
unfolding date_of
date-plain d cell e = by (has_date_form cell) refl (digits_date cell) refl
  where
    by : (b : Bool) → has_date_form cell ≡ b → (o : Option Date) → digits_date cell ≡ o → IsPlain cell
    by true form (Some x) is =
        let long : length cell ≡ 10 = eqb-true (length cell) 10 (and-three (length cell == 10) (slice_index cell 4 == 45) (slice_index cell 7 == 45) form).0 in
        plain-at cell (λ k within. date-at cell x form is k (omega (arith, long, within)))
    by true form None is = absurd (let h = rw (form, is) at e in cc)
    by false form o is = absurd (let h = rw form at e in cc)

pub date-ten : (d : Date) (cell : List ℕ) → date_cell cell ≡ Ok d → length cell ≡ 10
unfolding date_of
date-ten d cell e = by (has_date_form cell) refl
  where
    by : (b : Bool) → has_date_form cell ≡ b → length cell ≡ 10
    by true form = eqb-true (length cell) 10 (and-three (length cell == 10) (slice_index cell 4 == 45) (slice_index cell 7 == 45) form).0
    by false form = absurd (let h = rw form at e in cc)
