-- The supply of accepted tables is within the greatest quantity.
use Rattle.std.proofs.Common.{ℕ, ◌≡◌, ◌*◌, ◌≤◌, ◌&&◌, inl, inr, Bool, true, false, cond, eqb, leb, List, [], length, map, get_or, subst, sym, arith}
use Rattle.std.specs.Prelude.{All, filter}
use Rattle.std.specs.Int.{IsInRange}
use Rattle.std.specs.List.{range_with_len}
use Rattle.std.proofs.lemmas.Bool.{cases_lt}
use Rattle.std.proofs.lemmas.List.{get_or_past, length-map}
use Rattle.std.proofs.lemmas.List.Elements.{All-filter, All-map, All-weaker}
use Rattle.std.proofs.lemmas.List.FromFn.{get_or-map-range_with_len, length-map-range_with_len}
use Rattle.std.proofs.lemmas.List.Sums.{count_by-le-length, length-filter, sum_by-le}
use Rattle.mrp_tables.specs.declared.item.Item.{Item}
use Rattle.mrp_tables.specs.declared.rows.MasterRow.{MasterRow}
use Rattle.mrp_tables.specs.declared.rows.StockRow.{StockRow}
use Rattle.mrp_tables.specs.Facts.{AllDiffer, IsMasterRow, IsStockRow}
use Rattle.mrp_tables.specs.Stock.{items_in_stock}
use Rattle.mrp_master.specs.declared.line.Line.{Line}
use Rattle.mrp_tables.specs.Master.{is_firm}
use Rattle.mrp_master.specs.Supply.{IsSupply, due_by, firm_lines, line, on_hand_of}
use Rattle.mrp_master.proofs.OnHand.{on_hand_within}

share_within : (item week : ℕ) (l : Line) → l.quantity ≤ 1000000000 → cond (eqb l.item item && leb l.week week) l.quantity 0 ≤ 1000000000
share_within item week l h = by (eqb l.item item && leb l.week week)
  where
    by : (b : Bool) → cond b l.quantity 0 ≤ 1000000000
    by true = h
    by false = omega arith

-- no more is due by lines than each may have
pub due_by_within : (item week : ℕ) (lines : List Line) → All (λ l. l.quantity ≤ 1000000000) lines → due_by item week lines ≤ length lines * 1000000000
due_by_within item week lines all =
    sum_by-le (λ l. cond (eqb l.item item && leb l.week week) l.quantity 0) 1000000000 lines
    (All-weaker (λ l. l.quantity ≤ 1000000000) (λ l. cond (eqb l.item item && leb l.week week) l.quantity 0 ≤ 1000000000) (share_within item week) lines all)

-- whether a row is a firm row of an item
abbrev pub is_firm_of : ℕ → MasterRow → Bool
is_firm_of item r = eqb r.item item && is_firm r.kind

pub firm_lines_few : (rows : List MasterRow) (item : ℕ) → length (firm_lines rows item) ≤ length rows
firm_lines_few rows item =
    simp length-map (omega (arith, length-filter (is_firm_of item) rows, count_by-le-length (is_firm_of item) rows))

-- what holds of the line of each row holds of the firm rows of an item
pub firm_lines_each : (P : Line → Type 0) (rows : List MasterRow) (item : ℕ) → All (λ (r : MasterRow). P (line r.item r.week r.quantity)) rows → All P (firm_lines rows item)
firm_lines_each P rows item all =
    All-map P (λ (r : MasterRow). line r.item r.week r.quantity) (filter (is_firm_of item) rows)
    (All-filter (is_firm_of item) (λ (r : MasterRow). P (line r.item r.week r.quantity)) rows all)

-- the firm rows of an item, and none past the last
pub firm_at : (rows : List MasterRow) (n item : ℕ) (P : List Line → Type 0) → P [] → P (firm_lines rows item) → P (get_or (map (firm_lines rows) (range_with_len 0 n)) item [])
firm_at rows n item P none own = elim (cases_lt item n) [
  | inl here ↦ subst P (sym (get_or-map-range_with_len (firm_lines rows) 0 n item item [] here (omega arith))) own
  | inr past ↦
      let size : length (map (firm_lines rows) (range_with_len 0 n)) ≡ n = length-map-range_with_len (firm_lines rows) 0 n in
      subst P (sym (get_or_past (map (firm_lines rows) (range_with_len 0 n)) item [] (omega arith))) none
]

pub on_hand_at_within : (items : List Item) (rows : List StockRow) (item n : ℕ) → AllDiffer (items_in_stock rows) → All (IsStockRow items) rows
    → get_or (map (on_hand_of rows) (range_with_len 0 n)) item 0 ≤ 1000000000
on_hand_at_within items rows item n differ all = elim (cases_lt item n) [
  | inl here ↦ omega (arith, get_or-map-range_with_len (on_hand_of rows) 0 n item item 0 here (omega arith), on_hand_within rows differ items item all)
  | inr past ↦
      let size : length (map (on_hand_of rows) (range_with_len 0 n)) ≡ n = length-map-range_with_len (on_hand_of rows) 0 n in
      omega (arith, get_or_past (map (on_hand_of rows) (range_with_len 0 n)) item 0 (omega arith))
]

-- stock on hand and firm rows, within the limits of their tables, are a supply
pub rows_are_supply : (items : List Item) (stock : List StockRow) (master : List MasterRow) (horizon count weeks : ℕ) (masters : List Bool) (on_hand : List ℕ) (firm : List (List Line))
    → IsInRange 1 104 weeks → weeks ≡ horizon → All (IsStockRow items) stock → AllDiffer (items_in_stock stock) → All (IsMasterRow horizon items) master → length master ≤ 100000
    → on_hand ≡ map (on_hand_of stock) (range_with_len 0 count) → firm ≡ map (firm_lines master) (range_with_len 0 count)
    → IsSupply (record { weeks = weeks; masters = masters; on_hand = on_hand; firm = firm })
rows_are_supply items stock master horizon count weeks masters on_hand firm within same rows differ schedule few stocked lines = record {
  first = within.0;
  last = within.1;
  inside = λ item.
      subst (λ (fs : List (List Line)). All inside (get_or fs item [])) (sym lines)
      (firm_at master count item (All inside) (λ k d h. absurd (omega arith))
      (firm_lines_each inside master item (All-weaker (IsMasterRow horizon items) (λ (r : MasterRow). inside (line r.item r.week r.quantity)) (λ r is. (is.week.0, omega (arith, is.week.1))) master schedule)));
  little = λ item week.
      let own : get_or on_hand item 0 ≤ 1000000000 = subst (λ (xs : List ℕ). get_or xs item 0 ≤ 1000000000) (sym stocked) (on_hand_at_within items stock item count differ rows) in
      let due : due_by item week (get_or firm item []) ≤ 100000 * 1000000000 =
      subst (λ (fs : List (List Line)). due_by item week (get_or fs item []) ≤ 100000 * 1000000000) (sym lines)
      (firm_at master count item (λ ls. due_by item week ls ≤ 100000 * 1000000000) (omega arith) (due_within item week)) in
      omega (arith, own, due);
}
  where
    inside : Line → Type 0
    inside l = (1 ≤ l.week) × (l.week ≤ weeks)

    due_within : (item week : ℕ) → due_by item week (firm_lines master item) ≤ 100000 * 1000000000
    due_within item week =
        omega (
          arith,
          due_by_within item week (firm_lines master item) (firm_lines_each (λ l. l.quantity ≤ 1000000000) master item
              (All-weaker (IsMasterRow horizon items) (λ (r : MasterRow). r.quantity ≤ 1000000000) (λ r is. is.quantity.1) master schedule)),
          firm_lines_few master item,
          few,
        )
