use Rattle.std.proofs.Common.{◌≡◌, drop}
use Rattle.mrp_rows.specs.Together.{has_section_line}
use Rattle.mrp_journal.proofs.SectionLines.{section_at}
use Rattle.mrp_journal.proofs.table.has_section_line.Given as goal

abbrev pub invariant-loop-byte : goal.invariant-loop-byte
invariant-loop-byte l = has_section_line l.text ≡ section_at l.begins (drop l.byte-index l.text)
