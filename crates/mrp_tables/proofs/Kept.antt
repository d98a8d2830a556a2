-- The rows that have pieces, of the open receipts and of the master schedule.
use Rattle.std.proofs.Common.{◌≡◌, ◌≢◌, ◌<◌, ◌≤◌, ℕ, List, [], ◌∷◌, length, get_or, true, sym, ◌∙◌, arith}
use Rattle.std.specs.Prelude.{All, AllPairs, map, nat_lt}
use Rattle.std.proofs.lemmas.Bool.{ltb-true}
use Rattle.std.proofs.lemmas.List.{get_or-map, length-map}
use Rattle.std.proofs.lemmas.List.Elements.{All-filter, filter_passes}
use Rattle.std.proofs.lemmas.List.Kept.{AllPairs-filter}
use Rattle.std.proofs.lemmas.List.Sums.{count_by-le-length, length-filter}
use Rattle.mrp_tables.specs.declared.item.Item.{Item}
use Rattle.mrp_tables.specs.declared.rows.MasterRow.{MasterRow}
use Rattle.mrp_tables.specs.declared.rows.Receipt.{Receipt}
use Rattle.mrp_tables.specs.Facts.{AllDiffer, IsMasterRow, IsMasterRowIfAny, IsReceipt, IsReceiptIfAny}
use Rattle.mrp_tables.specs.Master.{that_count}
use Rattle.mrp_tables.specs.Receipts.{orders_of, receipts_that_count}

pub kept : (weeks : ℕ) (items : List Item) (rows : List MasterRow) → All (IsMasterRowIfAny weeks items) rows → All (IsMasterRow weeks items) (that_count rows)
kept weeks items rows read = λ k d within.
    let counts : nat_lt 0 (get_or (that_count rows) k d).quantity ≡ true = filter_passes (λ (row : MasterRow). nat_lt 0 row.quantity) rows k d within in
    All-filter (λ row. nat_lt 0 row.quantity) (IsMasterRowIfAny weeks items) rows read k d within (ltb-true 0 _ counts)

pub kept-count : (rows : List MasterRow) → length (that_count rows) ≤ length rows
kept-count rows = rw (length-filter (λ (row : MasterRow). nat_lt 0 row.quantity) rows) (count_by-le-length (λ (row : MasterRow). nat_lt 0 row.quantity) rows)

pub kept_receipts : (weeks : ℕ) (items : List Item) (rows : List Receipt) → All (IsReceiptIfAny weeks items) rows → All (IsReceipt weeks items) (receipts_that_count rows)
kept_receipts weeks items rows read = λ k d within.
    let counts : nat_lt 0 (get_or (receipts_that_count rows) k d).quantity ≡ true = filter_passes (λ (row : Receipt). nat_lt 0 row.quantity) rows k d within in
    All-filter (λ row. nat_lt 0 row.quantity) (IsReceiptIfAny weeks items) rows read k d within (ltb-true 0 _ counts)

pub kept_receipts-count : (rows : List Receipt) → length (receipts_that_count rows) ≤ length rows
kept_receipts-count rows = rw (length-filter (λ (row : Receipt). nat_lt 0 row.quantity) rows) (count_by-le-length (λ (row : Receipt). nat_lt 0 row.quantity) rows)

-- a field differs from row to row where no two of the rows' fields are the same
abbrev pub DifferBy : {X Y : Type 0} → (X → Y) → List X → Type 0
DifferBy field xs = AllPairs (λ x y. field x ≢ field y) xs

from_fields : {X Y : Type 0} (field : X → Y) (xs : List X) → AllDiffer (map field xs) → DifferBy field xs
from_fields field xs differ = λ i j d less within same.
    let mapped : j < length (map field xs) = rw (length-map xs field) within in
    let first = get_or-map field xs i d (field d) (omega (arith, less, within)) in
    let second = get_or-map field xs j d (field d) within in
    differ i j (field d) less mapped (first ∙ same ∙ sym second)

to_fields : {X Y : Type 0} (field : X → Y) (xs : List X) → DifferBy field xs → AllDiffer (map field xs)
to_fields field [] differ = λ i j e less within same. absurd (omega (arith, within))
to_fields field (x ∷ xs) differ = λ i j e less within same.
    let own : j < length (x ∷ xs) = rw (length-map (x ∷ xs) field) at within in
    let first = get_or-map field (x ∷ xs) i x e (omega (arith, less, own)) in
    let second = get_or-map field (x ∷ xs) j x e own in
    differ i j x less own (sym first ∙ same ∙ second)

pub kept_orders : (rows : List Receipt) → AllDiffer (orders_of rows) → AllDiffer (orders_of (receipts_that_count rows))
kept_orders rows differ =
    let order : Receipt → ℕ × List ℕ = λ r. (r.item, r.order) in
    to_fields order (receipts_that_count rows)
    (AllPairs-filter (λ x y. order x ≢ order y) (λ row. nat_lt 0 row.quantity) rows (from_fields order rows differ))
