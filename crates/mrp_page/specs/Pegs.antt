-- The pegs that are kept, by open orders and by parents.
use Rattle.std.specs.Prelude.{ℕ, Bool, ◌≡◌, ◌+◌, ◌&&◌, min, List, [], Vec, codes, map, unwrap_or, if◌then◌else◌}
use Rattle.std.specs.HashMap as hash
use Rattle.std.specs.HashMap.{HashMap}
use Rattle.std.specs.List.{filter, fold}
use Rattle.std.specs.Option.{option_map_or}
use Rattle.std.specs.Str.{bytes_eq}
use Rattle.mrp_page.specs.declared.limits.TheConstants.{MOST_AMOUNT}
use Rattle.mrp_page.specs.Amounts.{amount}
use Rattle.mrp_page.specs.Row.{RowView, cell_at, is_of}
use Rattle.mrp_page.specs.Template.{has_word}
use denote.Ref.{Bor}

-- a peg is of this open order of an item
abbrev pub is_of_open : List ℕ → List ℕ → RowView → Bool
is_of_open name order peg = has_word 6 (codes "open") peg && (is_of name peg && has_word 7 order peg)

-- a sum that saturates
abbrev pub with_pieces : ℕ → RowView → ℕ
with_pieces total peg = min (total + amount (cell_at peg 8)) MOST_AMOUNT

-- a sum with a peg, if that is of this open order
abbrev pub with_open : List ℕ → List ℕ → ℕ → RowView → ℕ
with_open name order total peg = if is_of_open name order peg then with_pieces total peg else total

-- how many pieces the pegs of an open order have together
abbrev pub pieces_of_order : List RowView → List ℕ → List ℕ → ℕ
pieces_of_order pegs name order = fold (with_open name order) 0 pegs

-- an order of this item waits for the supply of a peg
abbrev pub is_wait : List ℕ → RowView → Bool
is_wait name peg = has_word 4 name peg && has_word 2 (codes "parent") peg

-- the pegs that the orders of an item wait for
abbrev pub waits_for : List RowView → List ℕ → List RowView
waits_for pegs name = filter (is_wait name) pegs

-- what a map has of an open order of an item
abbrev pub pieces_in : {S : Type 0} → HashMap (Bor (List ℕ) × Bor (List ℕ)) ℕ S → List ℕ → List ℕ → ℕ
pieces_in pieces name order = unwrap_or (hash.get_by (λ k. bytes_eq name k.0.now && bytes_eq order k.1.now) pieces) 0

-- a map has the pieces of each open order of these pegs
abbrev pub HasPieces : {S : Type 0} → HashMap (Bor (List ℕ) × Bor (List ℕ)) ℕ S → List RowView → Type 0
HasPieces pieces pegs = (name order : List ℕ) → pieces_in pieces name order ≡ pieces_of_order pegs name order

-- the rows that a map has of a parent
abbrev pub waits_in : {V S : Type 0} → HashMap (Bor (List ℕ)) (Vec (Bor RowView) V) S → List ℕ → List (Bor RowView)
waits_in waits name = option_map_or (λ rows. rows.items) (hash.get_by (λ k. bytes_eq name k.now) waits) []

-- a map has the pegs that the orders of each parent wait for
abbrev pub HasWaits : {V S : Type 0} → HashMap (Bor (List ℕ)) (Vec (Bor RowView) V) S → List RowView → Type 0
HasWaits waits pegs = (name : List ℕ) → map (λ r. r.now) (waits_in waits name) ≡ waits_for pegs name
