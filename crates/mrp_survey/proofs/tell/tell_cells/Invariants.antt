use Rattle.std.proofs.Common.{◌≡◌, ◌++◌}
use Rattle.std.specs.Prelude.{flat_map}
use Rattle.std.specs.List.{range_with_len}
use Rattle.mrp_survey.specs.Entries.{kind_in, wrong_in}
use Rattle.mrp_survey.specs.Marks.{cell_mark, told_of}
use Rattle.mrp_survey.proofs.tell.tell_cells.Given as goal

abbrev pub invariant-loop-column : goal.invariant-loop-column
invariant-loop-column l = l.findings.items ≡ l.fn.findings.items ++ told_of l.entry (flat_map (λ column. cell_mark column (kind_in l.entry column) (wrong_in l.entry column)) (range_with_len 0 l.column))
