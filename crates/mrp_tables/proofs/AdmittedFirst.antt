-- What is checked first of a record.
use Rattle.std.proofs.Common.{List, refl}
use Rattle.std.proofs.lemmas.Bool.{eq-eqb, ne_eqb}
use Rattle.mrp_rows.specs.Columns.{Layout}
use Rattle.mrp_rows.specs.Left.{Cells}
use Rattle.mrp_tables.specs.Laws.{IsAdmittedFirst}
use Rattle.mrp_tables.specs.Reading.{Reads}

pub admitted_first : {X : Type 0} (read : Reads X) (own : Layout) (before : List X) (r : Cells) → IsAdmittedFirst read own before r
admitted_first read own before r = record {
  past = λ e. rw e refl;
  wide = λ e differ. rw (e, ne_eqb _ _ differ) refl;
  admitted = λ e same. rw (e, eq-eqb _ _ same) refl;
}
