-- What is told of a record's cell.
use Rattle.std.specs.Prelude.{ℕ, List, map}
use Rattle.mrp_survey.specs.declared.finding.Place.{Place}
use Rattle.mrp_survey.specs.declared.finding.What.{What}
use Rattle.mrp_survey.specs.Finding.{Told}
use Rattle.mrp_survey.specs.Forms.{Row}

-- what is wrong with a record's cell, with the record
abbrev pub told : Place → Row → ℕ → What → Told
told place row column what = record {
  file = place.file;
  table = place.table;
  number = place.number;
  line = place.line;
  column = column;
  what = what;
  cells = row;
}

-- a column of a record, and what is wrong there
abbrev pub Mark : Type 0
Mark = ℕ × What

abbrev pub told_all : Place → Row → List Mark → List Told
told_all place row marks = map (λ (mark : Mark). told place row mark.0 mark.1) marks
