use Rattle.std.proofs.Common.{◌≡◌, length}
use Rattle.mrp_rows.specs.Bundle.{without_line_ends}
use Rattle.mrp_journal.proofs.table.after_line_ends.Given as goal

abbrev pub invariant-loop-rest : goal.invariant-loop-rest
invariant-loop-rest l = without_line_ends l.fn.text ≡ without_line_ends l.rest

abbrev pub decreases-loop-rest : goal.decreases-loop-rest
decreases-loop-rest l = length l.rest
