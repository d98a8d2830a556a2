use Rattle.std.proofs.Common.{◌≡◌, ◌+◌, length, take}
use Rattle.mrp_tables.specs.declared.limits.TheConstants.{MOST_DESKS}
use Rattle.mrp_book.specs.History.{asked}
use Rattle.mrp_audit.specs.NextPlaces.{HaveCome}
use Rattle.mrp_audit.proofs.following.take_all.Given as goal

abbrev pub invariant-loop-entry : goal.invariant-loop-entry
invariant-loop-entry l = (length l.of_desk.items ≡ MOST_DESKS + 1) × HaveCome l.script (asked (take l.entry-index l.entries)) l.of_desk.items
