use Rattle.std.proofs.Common.{◌≤◌, length}
use Rattle.mrp_audit.specs.NextPlaces.{AreNext}
use Rattle.mrp_audit.proofs.following.next_places.Given as goal

abbrev pub invariant-loop-place : goal.invariant-loop-place
invariant-loop-place l = (l.place ≤ length l.script) × AreNext l.script l.place l.of_desk.items l.behind.items

abbrev pub decreases-loop-place : goal.decreases-loop-place
decreases-loop-place l = l.place
