use Rattle.std.proofs.Common.{◌≡◌, ◌+◌, false, take}
use Rattle.csv.specs.Records.{fields_of}
use Rattle.mrp_lines.specs.Lines.{have_ends, size_of}
use Rattle.mrp_lines.specs.declared.line.TheConstants.{LONGEST_LINE}
use Rattle.mrp_lines.proofs.cells.is_row_line.Given as goal

abbrev pub invariant-loop-column : goal.invariant-loop-column
invariant-loop-column l = record {
  room : l.room + size_of (take l.column (fields_of l.row)) ≡ LONGEST_LINE;
  none : have_ends (take l.column (fields_of l.row)) ≡ false;
}
