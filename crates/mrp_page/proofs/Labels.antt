-- Which of the two labels the supplies have.
use Rattle.mrp_facts.specs.Facts.{Facts}
use Rattle.std.proofs.Common.{Option, ◌≡◌, ◌∙◌, ◌⊎◌, ◌^◌, ◌<◌, ◌≤◌, ℕ, zero, suc, Bool, true, false, not, List, [], ◌∷◌, ◌++◌, codes, decimal, get_or, length, map, nat_lt, refl, sym, ap, subst, arith, inl, inr}
use Rattle.std.specs.Prelude.{◌&&◌, if◌then◌else◌}
use Rattle.std.specs.List.{All, Contains, fold}
use Rattle.std.proofs.lemmas.Bool.{and_right, cases_lt, false_from_ne_true, ltb-false, ltb-true, ne_eqb}
use Rattle.std.proofs.lemmas.Fmt.{decimal_digit, first_decimal}
use Rattle.std.proofs.lemmas.List.Elements.{All-head, All-tail}
use Rattle.mrp_page.specs.Draw.{all_weeks, balance_html, framed_record, has_firm, has_none, is_scheduled}
use Rattle.mrp_page.specs.Html.{is_zero}
use Rattle.mrp_page.specs.Labels.{AreFirm}
use Rattle.mrp_page.specs.Row.{RowView, cell_at, same_text}
use Rattle.mrp_page.specs.Rows.{greatest, higher, rank, ranked}
use Rattle.mrp_page.proofs.NamesOnce.{text-same}

-- a number by which texts are compared does not fall with more digits
rank-rises : (text : List ℕ) (start : ℕ) → start < 2 ^ 64 → start ≤ fold ranked start text
rank-rises [] start small = omega arith
rank-rises (byte ∷ text) start small = omega (arith, rank-rises text (ranked start byte) (omega arith))

-- that of a number above 0 is above that of 0
rank-above : (n : ℕ) → 0 < n → n < 2 ^ 64 → 48 < rank (decimal n)
unfolding rank
rank-above n some small = by (decimal n) (first_decimal n some small)
  where
    by : (digits : List ℕ) → 48 < get_or digits 0 0 → 48 < fold ranked 0 digits
    by [] first = absurd (omega arith)
    by (digit ∷ digits) first = omega (arith, first, rank-rises digits (ranked 0 digit) (omega arith))

zero-is : decimal 0 ≡ codes "0"
zero-is = decimal_digit 0 (omega arith)

rank-zero : rank (decimal 0) ≡ 48
unfolding rank
rank-zero = ap (λ (t : List ℕ). fold ranked 0 t) zero-is

no-zero : (n : ℕ) → 0 < n → n < 2 ^ 64 → is_zero (decimal n) ≡ false
no-zero n some small =
    let other : (text : List ℕ) → get_or text 0 0 ≡ 48 → same_text (decimal n) text ≡ false =
    λ text begins. false_from_ne_true (same_text (decimal n) text) (λ e. omega (arith, first_decimal n some small, begins, ap (λ (t : List ℕ). get_or t 0 0) (text-same (decimal n) text e))) in
    rw (other (codes "0") refl, other (codes "0.000") refl) refl

-- the greater of two numbers is one of them, and above 0 if one of them is
record Higher (a b c : ℕ) : Type 0 where
  is : higher (decimal a) (decimal b) ≡ decimal c
  first : 0 < a → 0 < c
  second : 0 < b → 0 < c
  small : c < 2 ^ 64

higher-is : (a b : ℕ) → a < 2 ^ 64 → b < 2 ^ 64 → (c : ℕ) × Higher a b c
higher-is a b small-a small-b = by (nat_lt (rank (decimal a)) (rank (decimal b))) refl
  where
    none : (n : ℕ) → n ≤ 0 → rank (decimal n) ≡ 48
    none n e = ap (λ (k : ℕ). rank (decimal k)) (omega arith) ∙ rank-zero

    by : (less : Bool) → nat_lt (rank (decimal a)) (rank (decimal b)) ≡ less → (c : ℕ) × Higher a b c
    by true e = (b, record { is = rw e refl; first = λ some. above some (cases_lt 0 b); second = λ some. some; small = small-b })
      where
        above : 0 < a → (0 < b) ⊎ (b ≤ 0) → 0 < b
        above some (inl is) = is
        above some (inr is) = absurd (omega (arith, rank-above a some small-a, none b is, ltb-true _ _ e))
    by false e = (a, record { is = rw e refl; first = λ some. some; second = λ some. above some (cases_lt 0 a); small = small-a })
      where
        above : 0 < b → (0 < a) ⊎ (a ≤ 0) → 0 < a
        above some (inl is) = is
        above some (inr is) = absurd (omega (arith, rank-above b some small-b, none a is, ltb-false _ _ e))

-- the greatest of numbers is a number, and above 0 if one of them is
record Greatest (a : ℕ) (ns : List ℕ) (c : ℕ) : Type 0 where
  is : fold higher (decimal a) (map decimal ns) ≡ decimal c
  first : 0 < a → 0 < c
  among : (n : ℕ) → Contains ns n → 0 < n → 0 < c
  small : c < 2 ^ 64

greatest-is : (ns : List ℕ) (a : ℕ) → a < 2 ^ 64 → All (λ n. n < 2 ^ 64) ns → (c : ℕ) × Greatest a ns c
greatest-is [] a small all = (a, record { is = refl; first = λ some. some; among = λ n has some. absurd (omega (arith, has.1)); small = small })
greatest-is (n ∷ ns) a small all =
    let (b, next) = higher-is a n small (All-head (λ (k : ℕ). k < 2 ^ 64) n ns all) in
    let (c, last) = greatest-is ns b next.small (All-tail (λ (k : ℕ). k < 2 ^ 64) n ns all) in (
      c,
      record {
        is = ap (λ (t : List ℕ). fold higher t (map decimal ns)) next.is ∙ last.is;
        first = λ some. last.first (next.first some);
        among = λ m has some. of m has.0 has.1 has.2 some (next.second) last.first last.among;
        small = last.small;
      },
    )
  where
    of : {b c : ℕ} (m k : ℕ) → k < suc (length ns) → get_or (n ∷ ns) k m ≡ m → 0 < m → (0 < n → 0 < b) → (0 < b → 0 < c) → ((m : ℕ) → Contains ns m → 0 < m → 0 < c) → 0 < c
    of m zero within at some here on rest = on (here (subst (λ (t : ℕ). 0 < t) (sym at) some))
    of m (suc k) within at some here on rest = rest m (k, omega arith, at) some

fold-map : {A X Y : Type 0} (g : A → Y → A) (f : X → Y) (v : A) (xs : List X) → fold (λ a x. g a (f x)) v xs ≡ fold g v (map f xs)
fold-map g f v [] = refl
fold-map g f v (x ∷ xs) = fold-map g f (g v (f x)) xs

abbrev firm_cell : RowView → List ℕ
firm_cell row = cell_at row 4

greatest-firm : (plan : List RowView) (firm : List ℕ) → AreFirm plan firm → greatest 4 (codes "0") plan ≡ fold higher (decimal 0) (map decimal firm)
unfolding greatest
greatest-firm plan firm are =
    fold-map higher firm_cell (codes "0") plan ∙ ap (fold higher (codes "0")) are.numbers ∙ ap (λ (t : List ℕ). fold higher t (map decimal firm)) (sym zero-is)

all-zero : (firm : List ℕ) → All (λ n. n ≡ 0) firm → fold higher (decimal 0) (map decimal firm) ≡ codes "0"
all-zero [] none = zero-is
all-zero (n ∷ firm) none =
    let here : n ≡ 0 = All-head (λ (k : ℕ). k ≡ 0) n firm none in
    ap (λ (t : List ℕ). fold higher t (map decimal firm)) (ap (λ (k : ℕ). higher (decimal 0) (decimal k)) here ∙ same (nat_lt (rank (decimal 0)) (rank (decimal 0)))) ∙ all-zero firm (All-tail (λ (k : ℕ). k ≡ 0) n firm none)
  where
    same : (b : Bool) → (if b then decimal 0 else decimal 0) ≡ decimal 0
    same true = refl
    same false = refl

pub promised-firm : (plan : List RowView) (row : RowView) (promises : List RowView) → is_scheduled plan (row ∷ promises) ≡ false
promised-firm plan row promises = ap (λ (b : Bool). b && not (has_firm plan)) (none (length promises))
  where
    none : (n : ℕ) → has_none (row ∷ promises) ≡ false
    none n = ne_eqb (length (row ∷ promises)) 0 (λ e. omega arith)

pub some-firm : (plan promises : List RowView) (firm : List ℕ) → AreFirm plan firm → (n : ℕ) → Contains firm n → 0 < n → is_scheduled plan promises ≡ false
some-firm plan promises firm are n has some =
    let (c, top) = greatest-is firm 0 (omega arith) are.small in
    let is : is_zero (greatest 4 (codes "0") plan) ≡ false = ap is_zero (greatest-firm plan firm are ∙ top.is) ∙ no-zero c (top.among n has some) top.small in
    and_right (has_none promises) (not (has_firm plan)) (ap (λ (b : Bool). not (not b)) is)

pub none-firm : (plan : List RowView) (firm : List ℕ) → AreFirm plan firm → All (λ n. n ≡ 0) firm → is_scheduled plan [] ≡ true
none-firm plan firm are none = ap (λ (t : List ℕ). not (not (is_zero t))) (greatest-firm plan firm are ∙ all-zero firm none)

pub framed-is : (tables : Option Facts) (frame : RowView) (plan promises : List RowView) → framed_record tables frame plan promises ≡ balance_html tables frame plan ++ all_weeks tables frame (is_scheduled plan promises) plan promises
unfolding framed_record
framed-is tables frame plan promises = refl
