use Rattle.std.proofs.lemmas.List.Splits.{join_with_byte-slice_split}
use Rattle.mrp_lines.proofs.LineRecords.{line-next}
use Rattle.mrp_lines.proofs.laws.lines_are_records.Goals as goal

pub returns : goal.returns
returns c = record { next = line-next; whole = join_with_byte-slice_split 44 }
