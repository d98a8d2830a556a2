use Rattle.std.proofs.Common.{◌≡◌, ◌<◌, ℕ, get_or, false}
use Rattle.mrp_rows.specs.Bundle.{ends_line}
use Rattle.mrp_inspect.proofs.cut.line_len.Given as goal

abbrev pub invariant-loop-at : goal.invariant-loop-at
invariant-loop-at l = (k : ℕ) → k < l.at → ends_line (get_or l.bytes k 0) ≡ false
