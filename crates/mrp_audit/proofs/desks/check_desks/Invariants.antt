use Rattle.std.proofs.Common.{ℕ, ◌≤◌, ◌<◌}
use Rattle.mrp_book.specs.History.{asked}
use Rattle.mrp_audit.specs.Parts.{IsSame}
use Rattle.mrp_audit.proofs.desks.check_desks.Given as goal

abbrev pub invariant-loop-desk : goal.invariant-loop-desk
invariant-loop-desk l = (other : ℕ) → 1 ≤ other → other < l.desk → IsSame (asked l.entries) l.script other
