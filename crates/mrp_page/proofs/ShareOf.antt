-- Shares of a capacity are exact, and the numbers that they are made of are read from their texts.
use Rattle.std.proofs.Common.{◌≡◌, ◌∙◌, ◌⊎◌, ◌+◌, ◌-◌, ◌*◌, ◌<◌, ◌≤◌, ℕ, Bool, true, false, Option, Some, None, List, [], ◌∷◌, ◌++◌, codes, decimal, min, refl, sym, ap, arith, inl, inr}
use Rattle.std.specs.Prelude.{if◌then◌else◌}
use Rattle.std.specs.Char.{is_ascii_digit}
use Rattle.std.specs.Int.{div_ceil}
use Rattle.std.specs.List.{filter, fold}
use Rattle.std.proofs.lemmas.Bool.{cases_lt, eq-eqb, le-leb, lt-leb, ne_eqb}
use Rattle.std.proofs.lemmas.Grind.{div_ceil_times}
use Rattle.std.proofs.lemmas.Nat.{mul-le}
use Rattle.mrp_qty.specs.Digits.{value_after}
use Rattle.mrp_qty.specs.Minutes.{minutes_text_of}
use Rattle.mrp_qty.proofs.MinuteTexts.{minutes_text-read}
use Rattle.mrp_page.specs.Amounts.{amount, with_digit}
use Rattle.mrp_page.specs.Columns.{column}
use Rattle.mrp_page.specs.Escaped.{escaped}
use Rattle.mrp_page.specs.layout.Centres.{above_bar, cut_bar, hot_bar, low_bar}
use Rattle.mrp_page.specs.Row.{RowView, cell_at}
use Rattle.mrp_page.specs.Shares.{share, share_cells, share_of, share_row}
use Rattle.mrp_page.specs.Template.{Drawn, row_html}
use Rattle.mrp_page.specs.declared.limits.TheConstants.{MOST_AMOUNT}
use Rattle.mrp_day.specs.declared.section.Section.TheVariants as s

-- what digits stand for is at least what they follow
after-least : (n : ℕ) (digits : List ℕ) → n ≤ value_after n digits
after-least n [] = omega arith
after-least n (d ∷ digits) = omega (arith, after-least (n * 10 + (d - 48)) digits)

-- past the limit it makes no difference by how much
after-capped : (n most : ℕ) (digits : List ℕ) → min (value_after (min n most) digits) most ≡ min (value_after n digits) most
after-capped n most digits = by (cases_lt most n)
  where
    by : (most < n) ⊎ (n ≤ most) → min (value_after (min n most) digits) most ≡ min (value_after n digits) most
    by (inl above) =
        let capped : min n most ≡ most = omega (arith, above) in
        rw capped (omega (arith, above, after-least most digits, after-least n digits))
    by (inr within) =
        let same : min n most ≡ n = omega (arith, within) in
        rw same refl

-- what is read byte by byte is what the digits stand for
pub digits-are : (text : List ℕ) (n : ℕ) → n ≤ MOST_AMOUNT → fold with_digit n text ≡ min (value_after n (filter is_ascii_digit text)) MOST_AMOUNT
digits-are [] n within = omega (arith, within)
digits-are (byte ∷ text) n within = by (is_ascii_digit byte) (digits-are text n within) (digits-are text (min (n * 10 + (byte - 48)) MOST_AMOUNT) (omega arith))
  where
    rest : List ℕ
    rest = filter is_ascii_digit text

    next : ℕ
    next = min (n * 10 + (byte - 48)) MOST_AMOUNT

    by : (b : Bool) → fold with_digit n text ≡ min (value_after n rest) MOST_AMOUNT → fold with_digit next text ≡ min (value_after next rest) MOST_AMOUNT
        → fold with_digit (if b then next else n) text ≡ min (value_after n (if b then byte ∷ rest else rest)) MOST_AMOUNT
    by true same more = more ∙ after-capped (n * 10 + (byte - 48)) MOST_AMOUNT rest
    by false same more = same

pub minutes-read : (time : ℕ) → time ≤ MOST_AMOUNT → amount (minutes_text_of time) ≡ time
minutes-read time small = rw (minutes_text-read time (omega (arith, small))) (omega (arith, small))

share-some : (load capacity : ℕ) → 0 < capacity → share load capacity ≡ Some (div_ceil (load * 100) capacity)
share-some load capacity some = rw (ne_eqb capacity 0 (λ e. omega (arith, some, e))) refl

ceil-is : (load capacity percent : ℕ) → 0 < capacity → share load capacity ≡ Some percent → div_ceil (load * 100) capacity ≡ percent
ceil-is load capacity percent some is =
    let e : Some (div_ceil (load * 100) capacity) ≡ Some percent = sym (share-some load capacity some) ∙ is in
    cc

pub exact : (load capacity percent : ℕ) → 0 < capacity → share load capacity ≡ Some percent → (load * 100 ≤ percent * capacity) × (percent * capacity < load * 100 + capacity)
exact load capacity percent some is = rw (sym (ceil-is load capacity percent some is)) (div_ceil_times (load * 100) capacity some)

no-capacity : (load : ℕ) (percent : ℕ) → share load 0 ≡ Some percent → (load ≡ 0) × (percent ≡ 0)
no-capacity load percent is = by (cases_lt 0 load)
  where
    by : (0 < load) ⊎ (load ≤ 0) → (load ≡ 0) × (percent ≡ 0)
    by (inl some) =
        let none : share load 0 ≡ None = rw (ne_eqb load 0 (λ e. omega (arith, some, e))) refl in
        let e : None ≡ Some percent = sym none ∙ is in
        absurd cc
    by (inr none) =
        let zero : load ≡ 0 = omega (arith, none) in
        let all : share load 0 ≡ Some 0 = rw (eq-eqb load 0 zero) refl in
        let e : Some 0 ≡ Some percent = sym all ∙ is in (zero, cc)

pub above : (load capacity percent : ℕ) → share load capacity ≡ Some percent → capacity < load → 100 < percent
above load capacity percent is more = by (cases_lt 0 capacity) (cases_lt 100 percent)
  where
    by : (0 < capacity) ⊎ (capacity ≤ 0) → (100 < percent) ⊎ (percent ≤ 100) → 100 < percent
    by has (inl over) = over
    by (inl some) (inr within) = absurd (omega (arith, more, (exact load capacity percent some is).0, mul-le percent capacity 100 capacity within (omega arith)))
    by (inr none) (inr within) =
        let zero : capacity ≡ 0 = omega (arith, none) in
        let is' : share load 0 ≡ Some percent = ap (share load) (sym zero) ∙ is in
        absurd (omega (arith, more, (no-capacity load percent is').0))

pub below : (load capacity percent : ℕ) → share load capacity ≡ Some percent → load ≤ capacity → percent ≤ 100
below load capacity percent is less = by (cases_lt 0 capacity) (cases_lt 100 percent)
  where
    by : (0 < capacity) ⊎ (capacity ≤ 0) → (100 < percent) ⊎ (percent ≤ 100) → percent ≤ 100
    by has (inr within) = within
    by (inl some) (inl over) = absurd (omega (arith, less, (exact load capacity percent some is).1, mul-le 101 capacity percent capacity (omega (arith, over)) (omega arith)))
    by (inr none) (inl over) =
        let zero : capacity ≡ 0 = omega (arith, none) in
        let is' : share load 0 ≡ Some percent = ap (share load) (sym zero) ∙ is in
        omega (arith, (no-capacity load percent is').1)

pub none-is : (load capacity : ℕ) → share load capacity ≡ None → (capacity ≡ 0) × (0 < load)
none-is load capacity is = by (cases_lt 0 capacity) (cases_lt 0 load)
  where
    by : (0 < capacity) ⊎ (capacity ≤ 0) → (0 < load) ⊎ (load ≤ 0) → (capacity ≡ 0) × (0 < load)
    by (inl some) has =
        let e : Some (div_ceil (load * 100) capacity) ≡ None = sym (share-some load capacity some) ∙ is in
        absurd cc
    by (inr none) (inl some) = (omega (arith, none), some)
    by (inr none) (inr all) =
        let zero : capacity ≡ 0 = omega (arith, none) in
        let nought : load ≡ 0 = omega (arith, all) in
        let of : share load capacity ≡ Some 0 = rw (eq-eqb capacity 0 zero, eq-eqb load 0 nought) refl in
        let e : Some 0 ≡ None = sym of ∙ is in
        absurd cc

pub columns-are : (load : RowView) → share_of load ≡ share (amount (cell_at load (column s.Loads (codes "load")))) (amount (cell_at load (column s.Loads (codes "capacity"))))
columns-are load = refl

-- what is drawn of a week, from its share
pub drawn-is : (parts : List Drawn) (load : RowView) (o : Option ℕ) → share_of load ≡ o → row_html parts (share_row load) ≡ row_html parts (record { section = s.Run; cells = share_cells load o })
drawn-is parts load o is = ap (λ (o : Option ℕ). row_html parts (record { section = s.Run; cells = share_cells load o })) is

module _ (load : RowView) (percent : ℕ) (is : share_of load ≡ Some percent) where
  pub low-is : percent ≤ 100 → row_html low_bar (share_row load) ≡ codes "M" ++ (escaped (cell_at load 1) ++ (codes " 0v" ++ (escaped (decimal percent) ++ (codes "h.8V0z" ++ []))))
  unfolding row_html low_bar
  low-is within = drawn-is low_bar load (Some percent) is ∙ rw (le-leb percent 100 within) refl

  pub high-is : 100 < percent → row_html above_bar (share_row load) ≡ codes "M" ++ (escaped (cell_at load 1) ++ (codes " 100v" ++ (escaped (decimal (min percent 200 - 100)) ++ (codes "h.8V100z" ++ []))))
  unfolding row_html above_bar
  high-is over = drawn-is above_bar load (Some percent) is ∙ refl

  pub hot-is : 100 < percent → row_html hot_bar (share_row load) ≡ codes "M" ++ (escaped (cell_at load 1) ++ (codes " 0v" ++ (escaped (codes "100") ++ (codes "h.8V0z" ++ []))))
  unfolding row_html hot_bar
  hot-is over = drawn-is hot_bar load (Some percent) is ∙ rw (lt-leb percent 100 over) refl

  pub cut-is : 200 < percent → row_html cut_bar (share_row load) ≡ codes "M" ++ (escaped (cell_at load 1) ++ (codes " 204h.8l-.4 " ++ (escaped (codes "20") ++ (codes "z" ++ []))))
  unfolding row_html cut_bar
  cut-is over = drawn-is cut_bar load (Some percent) is ∙ rw (lt-leb percent 200 over) refl

  pub uncut-is : percent ≤ 200 → row_html cut_bar (share_row load) ≡ codes "M" ++ (escaped (cell_at load 1) ++ (codes " 204h.8l-.4 " ++ (escaped (codes "0") ++ (codes "z" ++ []))))
  unfolding row_html cut_bar
  uncut-is within = drawn-is cut_bar load (Some percent) is ∙ rw (le-leb percent 200 within) refl
