-- Orders are found by their numbers.
use Rattle.std.proofs.Common.{◌≡◌, ◌∙◌, ◌+◌, ◌<◌, ◌≤◌, ℕ, Bool, true, false, Option, Some, None, not, List, [], ◌∷◌, decimal, drop, get_or, take, refl, ap, subst, arith}
use Rattle.std.specs.Prelude.{◌&&◌, if◌then◌else◌}
use Rattle.std.specs.Char.{is_ascii_digit}
use Rattle.std.specs.List.{All, Contains, filter, list_all, position_or_len, slice_get}
use Rattle.std.proofs.lemmas.Fmt.{digits_decimal, digits_value-decimal}
use Rattle.std.proofs.lemmas.List.{get_or-take, length-take}
use Rattle.std.proofs.lemmas.List.Sums.{fails_before_first}
use Rattle.std.proofs.lemmas.Option.{get_or_from_slice_get, slice_get_within}
use Rattle.std.proofs.lemmas.Slice.Eq.{bytes_eq-Decides}
use Rattle.mrp_qty.proofs.Numerals.{numerals}
use Rattle.mrp_page.specs.Amounts.{amount}
use Rattle.mrp_page.specs.Orders.{is_numbered, is_order, numbered, ordered, passing, place_of}
use Rattle.mrp_page.specs.Row.{RowView, cell_at, is_of}
use Rattle.mrp_page.specs.Rows.{rows_named, stretch}
use Rattle.mrp_page.specs.Scene.{SceneView}
use Rattle.mrp_page.specs.Template.{has_word}
use Rattle.mrp_page.specs.declared.limits.TheConstants.{MOST_AMOUNT}

-- digits are all kept
kept-digits : (text : List ℕ) → list_all is_ascii_digit text ≡ true → filter is_ascii_digit text ≡ text
kept-digits [] all = refl
kept-digits (byte ∷ text) all = by (is_ascii_digit byte) all (kept-digits text)
  where
    by : (b : Bool) → (b && list_all is_ascii_digit text) ≡ true → (list_all is_ascii_digit text ≡ true → filter is_ascii_digit text ≡ text) → (if b then byte ∷ filter is_ascii_digit text else filter is_ascii_digit text) ≡ byte ∷ text
    by true all rest = ap (λ (t : List ℕ). byte ∷ t) (rest all)
    by false all rest = absurd cc

pub decimal-amount : (n : ℕ) → n ≤ MOST_AMOUNT → amount (decimal n) ≡ n
decimal-amount n within =
    rw (kept-digits (decimal n) (digits_decimal numerals n (omega (arith, within))), digits_value-decimal numerals n (omega (arith, within))) (omega (arith, within))

-- the rows of an item are of it
stretch-passes : {A : Type 0} (p : A → Bool) (xs : List A) → All (λ x. p x ≡ true) (stretch p xs)
stretch-passes {A} p xs = λ k d within.
    let rest : List A = drop (position_or_len p xs) xs in
    let count : ℕ = position_or_len (λ x. not (p x)) rest in
    let below : k < count = omega (arith, within, length-take count rest) in
    let same : get_or (take count rest) k d ≡ get_or rest k d = get_or-take count rest k d below in
    ap p same ∙ by (p (get_or rest k d)) (fails_before_first (λ x. not (p x)) rest k d below)
  where
    by : (b : Bool) → not b ≡ false → b ≡ true
    by true is = refl
    by false is = absurd cc

pub rows-named-are : (name : List ℕ) (rows : List RowView) → All (λ r. is_of name r ≡ true) (rows_named name rows)
unfolding rows_named
rows-named-are name rows = stretch-passes (is_of name) rows

named-is : (name : List ℕ) (rows : List RowView) (k : ℕ) (row : RowView) → slice_get (rows_named name rows) k ≡ Some row → is_of name row ≡ true
unfolding rows_named
named-is name rows k row at =
    let all : All (λ (r : RowView). is_of name r ≡ true) (rows_named name rows) = stretch-passes (is_of name) rows in
    subst (λ (r : RowView). is_of name r ≡ true) (get_or_from_slice_get (rows_named name rows) k row row at) (all k row (slice_get_within (rows_named name rows) k row at))

has-own-word : (column : ℕ) (word : List ℕ) (row : RowView) → cell_at row column ≡ word → has_word column word row ≡ true
has-own-word column word row is = (bytes_eq-Decides (cell_at row column) word).1 is

passes-is : (p : RowView → Bool) (row : RowView) → p row ≡ true → passing p (Some row) ≡ Some row
passes-is p row passes = rw passes refl

module _ (scene : SceneView) (name : List ℕ) (place : ℕ) (order : RowView) (small : place < MOST_AMOUNT) (at : slice_get (rows_named name scene.orders) place ≡ Some order) (is : cell_at order 1 ≡ decimal (place + 1)) where
  place-is : place_of (decimal (place + 1)) ≡ place
  place-is = omega (arith, decimal-amount (place + 1) (omega (arith, small)))

  stands : (p : RowView → Bool) → p order ≡ true → passing p (slice_get (rows_named name scene.orders) (place_of (decimal (place + 1)))) ≡ Some order
  stands p passes = ap (λ (k : ℕ). passing p (slice_get (rows_named name scene.orders) k)) place-is ∙ ap (passing p) at ∙ passes-is p order passes

  pub placed : ordered scene name (cell_at order 2) (decimal (place + 1)) ≡ Some order
  placed =
      stands (is_order name (cell_at order 2) (decimal (place + 1)))
      (rw (named-is name scene.orders place order at, has-own-word 1 (decimal (place + 1)) order is, has-own-word 2 (cell_at order 2) order refl) refl)

  pub parent-placed : numbered scene name (decimal (place + 1)) ≡ Some order
  parent-placed =
      stands (is_numbered name (decimal (place + 1)))
      (rw (named-is name scene.orders place order at, has-own-word 1 (decimal (place + 1)) order is) refl)

found-in : (p : RowView → Bool) (o : Option RowView) (order : RowView) → passing p o ≡ Some order → (o ≡ Some order) × (p order ≡ true)
found-in p None order e = absurd cc
found-in p (Some r) order e = by (p r) refl e
  where
    by : (b : Bool) → p r ≡ b → (if b then Some r else None) ≡ Some order → (Some r ≡ Some order) × (p order ≡ true)
    by true passes e =
        let same : r ≡ order = cc in
        (e, subst (λ (t : RowView). p t ≡ true) same passes)
    by false passes e = absurd cc

-- what is found is such an order
pub found : (scene : SceneView) (name kind number : List ℕ) (order : RowView) → ordered scene name kind number ≡ Some order → Contains (rows_named name scene.orders) order × (is_order name kind number order ≡ true)
found scene name kind number order is =
    let rows : List RowView = rows_named name scene.orders in
    let in-rows = found-in (is_order name kind number) (slice_get rows (place_of number)) order is in
    ((place_of number, slice_get_within rows (place_of number) order in-rows.0, get_or_from_slice_get rows (place_of number) order order in-rows.0), in-rows.1)
