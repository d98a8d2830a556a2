-- Journals that begin in an empty file.
use Rattle.std.proofs.Common.{◌≡◌, ◌∙◌, ℕ, false, List, [], ◌∷◌, ◌++◌, refl, sym, ap, subst, append-nil, append_assoc}
use Rattle.std.specs.Prelude.{All}
use Rattle.std.specs.List.{AllByRecursion, flat_map}
use Rattle.std.proofs.lemmas.List.Elements.{recursion_from_All}
use Rattle.csv.specs.Reading.{strip_bom}
use Rattle.csv.specs.Writing.{fields_text, is_blank}
use Rattle.csv.specs.declared.parser.State.TheVariants as st
use Rattle.mrp_rows.specs.Bundle.{lines_of, without_mark}
use Rattle.mrp_rows.specs.Records.{records_in}
use Rattle.mrp_rows.specs.Together.{has_section_line}
use Rattle.mrp_journal.proofs.Beginnings.{header-ended, no-records}
use Rattle.mrp_journal.proofs.RowsBehind.{row-behind, row-record, table-is}
use Rattle.mrp_journal.proofs.WholeLines.{whole-none}
use Rattle.mrp_journal.specs.Journal.{begun}
use Rattle.mrp_journal.specs.Lines.{whole_lines}
use Rattle.mrp_journal.specs.Rows.{IsRecord, IsRow, IsTable, row}
use Rattle.mrp_journal.specs.Table.{body_of, header_for, header_unless, place_behind, script_header, script_names, table_records}
use Rattle.mrp_journal.specs.declared.table.Place.TheVariants.{Between}

-- an empty file begins with the header
pub begun-empty : begun [] (header_for (whole_lines [])) ≡ script_header
begun-empty =
    let none : whole_lines [] ≡ [] = whole-none [] refl in
    let head : header_for (whole_lines []) ≡ script_header = ap header_for none ∙ ap header_unless (no-records [] refl) in
    ap (λ (w : List ℕ). w ++ header_for (whole_lines [])) none ∙ head

header-row : script_header ≡ row script_names
unfolding fields_text is_blank
header-row = refl

header-plain : has_section_line script_header ≡ false
unfolding lines_of
header-plain = refl

header-body : body_of script_header ≡ script_header
unfolding strip_bom without_mark
header-body = refl

header-place : place_behind Between script_header ≡ Between
unfolding place_behind
header-place = refl

header-table : IsTable script_header
header-table = record {
  ended = header-ended;
  some = λ none. let f : script_header ≡ [] = none in cc;
  takes = record { no_section = header-plain; between = ap (place_behind Between) header-body ∙ header-place };
}

header-records : table_records script_header ≡ script_names ∷ []
header-records =
    table-is script_header header-table ∙ ap (records_in st.StartRecord [] []) (header-body ∙ header-row)
    ∙ row-record _ _ _

-- a journal with records behind it
record IsBehind (journal : List ℕ) (records : List (List (List ℕ))) : Type 0 where
  table : IsTable (journal ++ flat_map row records)
  records_are : table_records (journal ++ flat_map row records) ≡ table_records journal ++ records

rows-behind : (journal : List ℕ) (records : List (List (List ℕ))) → IsTable journal → AllByRecursion IsRecord records → IsBehind journal records
rows-behind journal [] h all = record {
  table = rw (append-nil journal) h;
  records_are = ap table_records (append-nil journal) ∙ sym (append-nil (table_records journal));
}
rows-behind journal (cells ∷ records) h (is, all) =
    let one = row-of cells is in
    let more = rows-behind (journal ++ row cells) records one.0 all in
    let same : journal ++ (row cells ++ flat_map row records) ≡ journal ++ row cells ++ flat_map row records = sym (append_assoc journal (row cells) (flat_map row records)) in
    record {
      table = rw same more.table;
      records_are = ap table_records same ∙ more.records_are ∙ ap (λ (rs : List (List (List ℕ))). rs ++ records) one.1 ∙ append_assoc (table_records journal) (cells ∷ []) records;
    }
  where
    row-of : (c : List (List ℕ)) → IsRecord c → IsTable (journal ++ row c) × (table_records (journal ++ row c) ≡ table_records journal ++ c ∷ [])
    row-of c r =
        let P : List (List ℕ) → Type 0 = λ d. IsRow (row d) → IsTable (journal ++ row d) × (table_records (journal ++ row d) ≡ table_records journal ++ d ∷ []) in
        subst P (sym r.is) (row-behind journal r.first r.second r.others h) r.row

pub new-takes : (records : List (List (List ℕ))) → All IsRecord records → IsTable (script_header ++ flat_map row records)
new-takes records all = (rows-behind script_header records header-table (recursion_from_All IsRecord records all)).table

pub new-records : (records : List (List (List ℕ))) → All IsRecord records → table_records (script_header ++ flat_map row records) ≡ script_names ∷ records
new-records records all =
    (rows-behind script_header records header-table (recursion_from_All IsRecord records all)).records_are ∙ ap (λ (rs : List (List (List ℕ))). rs ++ records) header-records
