-- Listed lines as a text, and the fault that their first tells.
use Rattle.std.proofs.Common.{◌≡◌, ◌∙◌, ℕ, ◌+◌, Bool, true, false, List, [], ◌∷◌, ◌++◌, append_assoc, codes, length, refl, sym, ap, arith}
use Rattle.std.specs.Prelude.{◌==◌, ◌&&◌, slice_index_or}
use Rattle.std.proofs.lemmas.Bool.{and_parts, eqb-true}
use Rattle.std.proofs.lemmas.List.{map-append}
use Rattle.mrp_rows.specs.FaultText.{text_of_fault}
use Rattle.mrp_rows.specs.Tables.{table_index}
use Rattle.mrp_rows.specs.declared.fault.Fault.{Fault}
use Rattle.mrp_rows.specs.declared.fault.Table.{Table}
use Rattle.mrp_rows.specs.declared.fault.Table.TheVariants as t
use Rattle.mrp_advice.specs.Listing.{Listed, lines_text, none_listed, with_lines}
use Rattle.mrp_advice.proofs.Listings.{line-first, lines-bare, lines-both}
use Rattle.mrp_words.specs.Folder.{all_tables}
use Rattle.mrp_inspect.specs.Faults.{FaultLine, tells_first, texts_of}
use Rattle.mrp_inspect.specs.LineFaults.{same_fault}
use Rattle.mrp_inspect.specs.Listed.{count_text, first_text, led_by, listed, remark_text, told_text, unless_told, untold}
use Rattle.mrp_inspect.specs.Pieces.{same_table}

abbrev listed_as : List ℕ → List ℕ → ℕ → Listed
listed_as remark text count = record { remark = remark; text = text; count = count }

remark-line : (fault : Fault) → remark_text fault ++ codes "\n" ≡ codes " (refused: " ++ (text_of_fault fault ++ codes ")\n")
remark-line fault =
    append_assoc (codes " (refused: ") (text_of_fault fault ++ codes ")") (codes "\n") ∙ ap (λ (t : List ℕ). codes " (refused: " ++ t) (append_assoc (text_of_fault fault) (codes ")") (codes "\n"))

-- the text of lines, with what `mrp plan` says behind the first
told-is : (first : List ℕ) (others : List (List ℕ)) (fault : Fault) → told_text (with_lines (none_listed (remark_text fault)) (first ∷ others)) ≡ listed first others fault
told-is first others fault =
    let remark : List ℕ = remark_text fault in
    let text : List ℕ = first ++ (remark ++ codes "\n") in
    let count : ℕ = 1 + length others in
    let listed_so : with_lines (none_listed remark) (first ∷ others) ≡ listed_as remark (text ++ lines_text others) count = line-first (none_listed remark) first others ∙ lines-bare remark text 1 others refl in
    ap told_text listed_so
    ∙ ap (λ (t : List ℕ). (first ++ t) ++ lines_text others ++ count_text count) (remark-line fault)
    ∙ ap (λ (n : ℕ). first_text first fault ++ lines_text others ++ count_text n) (omega arith)

table-at : (table : Table) → slice_index_or all_tables (table_index table) t.Bundle ≡ table
table-at t.Calendar = refl
table-at t.Items = refl
table-at t.Centres = refl
table-at t.Stock = refl
table-at t.Receipts = refl
table-at t.Bills = refl
table-at t.Routings = refl
table-at t.Master = refl
table-at t.Script = refl
table-at t.Bundle = refl

same-table : (a b : Table) → same_table a b ≡ true → a ≡ b
same-table a b same = sym (table-at a) ∙ ap (λ (n : ℕ). slice_index_or all_tables n t.Bundle) (eqb-true (table_index a) (table_index b) same) ∙ table-at b

abbrev fault-of : ℕ → Table → ℕ → Fault
fault-of code table row = record { code = code; table = table; row = row }

same-fault : (a b : Fault) → same_fault a b ≡ true → a ≡ b
same-fault a b same =
    let front = and_parts ((a.code == b.code) && same_table a.table b.table) (a.row == b.row) same in
    let parts = and_parts (a.code == b.code) (same_table a.table b.table) front.0 in
    ap (λ (n : ℕ). fault-of n a.table a.row) (eqb-true a.code b.code parts.0)
    ∙ ap (λ (t : Table). fault-of b.code t a.row) (same-table a.table b.table parts.1)
    ∙ ap (λ (n : ℕ). fault-of b.code b.table n) (eqb-true a.row b.row front.1)

-- the first of lines, which tells this fault, and the others
pub record Leads (fault : Fault) (lines : List FaultLine) : Type 0 where
  pub first : FaultLine
  pub others : List FaultLine
  pub are : first ∷ others ≡ led_by fault lines
  pub tells : first.fault ≡ fault

pub leads : (fault : Fault) (lines : List FaultLine) → Leads fault lines
leads fault [] = record { first = untold fault; others = []; are = refl; tells = refl }
leads fault (own ∷ behind) = by (same_fault own.fault fault) refl
  where
    by : (told : Bool) → same_fault own.fault fault ≡ told → Leads fault (own ∷ behind)
    by true told = record { first = own; others = behind; are = rw told refl; tells = same-fault own.fault fault told }
    by false told = record { first = untold fault; others = own ∷ behind; are = rw told refl; tells = refl }

-- the text of lines that are led by a fault
pub led-text : (fault : Fault) (lines : List FaultLine) (own : Leads fault lines)
    → told_text (with_lines (with_lines (none_listed (remark_text fault)) (texts_of (unless_told (tells_first lines fault) fault))) (texts_of lines)) ≡ listed own.first.text (texts_of own.others) fault
led-text fault lines own =
    let none : Listed = none_listed (remark_text fault) in
    let front : List FaultLine = unless_told (tells_first lines fault) fault in
    ap told_text
    (sym (lines-both none (texts_of front) (texts_of lines))
    ∙ ap (with_lines none) (sym (map-append (λ (line : FaultLine). line.text) front lines) ∙ ap texts_of (sym own.are)))
    ∙ told-is own.first.text (texts_of own.others) fault
