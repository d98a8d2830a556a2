-- The firm rows of each item.
use Rattle.std.proofs.Common.{◌≡◌, ◌∙◌, ℕ, ◌<◌, List, [], length, map, ap, sym}
use Rattle.std.specs.Prelude.{IfOk, Result, Ok, Err, filter}
use Rattle.std.specs.List.{range_with_len}
use Rattle.std.proofs.lemmas.List.FromFn.{fill_by_all, length-map-range_with_len}
use Rattle.std.proofs.lemmas.List.{length-map}
use Rattle.mrp_qty.specs.declared.memory.NoMemory.{NoMemory}
use Rattle.mrp_bill.specs.declared.groups.Numbered.{Numbered}
use Rattle.mrp_bill.specs.Grouped.{listed, values_of}
use Rattle.mrp_bill.proofs.GroupParts.{values_of-kept}
use Rattle.mrp_tables.specs.declared.rows.MasterRow.{MasterRow}
use Rattle.mrp_tables.specs.Master.{is_firm}
use Rattle.mrp_master.specs.declared.line.Line.{Line}
use Rattle.mrp_master.specs.Numbered.{line_of}
use Rattle.mrp_master.specs.Supply.{firm_lines}

-- the groups of the firm rows
pub firm_grouped : (rows : List MasterRow) (lines : List (Numbered Line)) (r : Result (List (List Line)) NoMemory) (n : ℕ) → lines ≡ map line_of (filter (λ x. is_firm x.kind) rows)
    → IfOk r (λ g. length g ≡ n) → IfOk r (λ g. (i : ℕ) → i < n → listed g i ≡ values_of lines i) → IfOk r (λ g. g ≡ map (firm_lines rows) (range_with_len 0 n))
firm_grouped rows lines (Ok g) n is size groups =
    fill_by_all (firm_lines rows) g n [] size (λ i h. groups i h ∙ ap (λ (ls : List (Numbered Line)). values_of ls i) is ∙ values_of-kept line_of (λ x. is_firm x.kind) rows i)
firm_grouped rows lines (Err e) n is size groups = tt

-- as many lists as there are items
pub firm_count : {X : Type 0} {Y : Type 0} (rows : List MasterRow) (firm : List (List Line)) (f : X → Y) (items : List X) (masters : List Y) (n : ℕ) → n ≡ length items → firm ≡ map (firm_lines rows) (range_with_len 0 n)
    → masters ≡ map f items → length firm ≡ length masters
firm_count rows firm f items masters n size firm_is masters_is =
    ap length firm_is ∙ length-map-range_with_len (firm_lines rows) 0 n ∙ size ∙ sym (length-map items f) ∙ sym (ap length masters_is)
