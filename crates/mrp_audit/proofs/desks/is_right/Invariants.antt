use Rattle.std.proofs.Common.{◌≡◌, ◌≤◌, length, take}
use Rattle.mrp_book.specs.History.{asked}
use Rattle.mrp_engine.specs.day.RightDay.{asked_by}
use Rattle.mrp_audit.proofs.desks.is_right.Given as goal

abbrev pub invariant-loop-entry : goal.invariant-loop-entry
invariant-loop-entry l = (l.at ≤ length l.script) × (asked_by l.desk (asked (take l.entry-index l.entries)) ≡ asked_by l.desk (take l.at l.script))
