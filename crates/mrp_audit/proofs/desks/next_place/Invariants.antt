use Rattle.std.proofs.Common.{◌≡◌, ◌≤◌, ◌-◌, length, take}
use Rattle.mrp_engine.specs.day.RightDay.{asked_by}
use Rattle.mrp_audit.proofs.desks.next_place.Given as goal

abbrev pub invariant-loop-place : goal.invariant-loop-place
invariant-loop-place l = (l.from ≤ l.place) × (l.place ≤ length l.script) × (asked_by l.desk (take l.place l.script) ≡ asked_by l.desk (take l.from l.script))

abbrev pub decreases-loop-place : goal.decreases-loop-place
decreases-loop-place l = length l.script - l.place
