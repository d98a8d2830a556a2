-- A line that is one record.
use Rattle.std.proofs.Common.{◌≡◌, ◌∙◌, [], ◌∷◌, refl, ap}
use Rattle.std.specs.Prelude.{codes}
use Rattle.csv.specs.Reading.{strip_bom}
use Rattle.csv.specs.Writing.{default_writer, fields_text, is_blank, row_text}
use Rattle.csv.specs.declared.parser.State.TheVariants as st
use Rattle.mrp_rows.specs.Bundle.{lines_of, section_text, without_mark}
use Rattle.mrp_rows.specs.Records.{records_in}
use Rattle.mrp_journal.proofs.RowsBehind.{row-record}
use Rattle.mrp_journal.specs.Table.{TakesRecords, place_behind}
use Rattle.mrp_calls.specs.Journals.{IsOneRecord}

typed-row : codes "1,run,,,,\n" ≡ row_text default_writer (codes "1" ∷ codes "run" ∷ [] ∷ [] ∷ [] ∷ [] ∷ [])
unfolding fields_text is_blank
typed-row = refl

typed-bare : strip_bom (codes "1,run,,,,\n") ≡ codes "1,run,,,,\n"
unfolding strip_bom
typed-bare = refl

typed-own : section_text (codes "1,run,,,,\n") ≡ codes "1,run,,,,\n"
unfolding without_mark
typed-own = refl

typed-takes : TakesRecords (codes "1,run,,,,\n")
unfolding lines_of place_behind strip_bom without_mark
typed-takes = record { no_section = refl; between = refl }

pub one-record : IsOneRecord (codes "1,run,,,,\n") (codes "1" ∷ codes "run" ∷ [] ∷ [] ∷ [] ∷ [] ∷ [])
one-record = record {
  whole = refl;
  bare = typed-bare;
  cells_are = ap (records_in st.StartRecord [] []) (typed-bare ∙ typed-row) ∙ row-record (codes "1") (codes "run") ([] ∷ [] ∷ [] ∷ [] ∷ []);
  own = typed-own;
  takes = typed-takes;
}
