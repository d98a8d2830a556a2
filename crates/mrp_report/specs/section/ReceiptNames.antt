-- The names of open receipts' orders, by the numbers of their records.
use Rattle.std.specs.Prelude.{ℕ, ◌≡◌, ◌==◌, List, [], Option, None, find, unwrap_or}
use Rattle.std.specs.List.{slice_index_or}
use Rattle.std.specs.Option.{option_map}
use Rattle.mrp_tables.specs.Tables.{Tables}
use Rattle.mrp_tables.specs.declared.rows.Receipt.{Receipt}

-- the order's name of the open receipt with this record, if there is one
abbrev pub order_of : List Receipt → ℕ → Option (List ℕ)
order_of rows number = option_map (λ r. r.order) (find (λ r. r.number == number) rows)

-- that name; empty if there is none
abbrev pub receipt_name : Tables → ℕ → List ℕ
receipt_name t number = unwrap_or (order_of t.receipts number) []

-- the names are those of these receipts
abbrev pub AreNamesOf : List (Option (List ℕ)) → List Receipt → Type 0
AreNamesOf names rows = (number : ℕ) → slice_index_or names number None ≡ order_of rows number
