use Rattle.std.proofs.Common.{◌≡◌, ◌-◌, length, drop}
use Rattle.mrp_book.specs.Made.{standing_of}
use Rattle.mrp_book.proofs.standing.StandingIterator.next.Given as goal

abbrev pub invariant-loop-self : goal.invariant-loop-self
invariant-loop-self l = standing_of (drop l.self-inside.place l.self-inside.made.now) ≡ l.fn.self

abbrev pub decreases-loop-self : goal.decreases-loop-self
decreases-loop-self l = length l.self-inside.made.now - l.self-inside.place
