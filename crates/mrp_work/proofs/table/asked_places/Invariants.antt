use Rattle.std.proofs.Common.{◌≡◌, ℕ, None, Some, [], take}
use Rattle.std.specs.Prelude.{if◌then◌else◌}
use Rattle.mrp_work.specs.Table.{found_in}
use Rattle.mrp_work.specs.Work.{is_asked}
use Rattle.mrp_work.proofs.table.asked_places.Given as goal

abbrev pub invariant-loop-place : goal.invariant-loop-place
invariant-loop-place l = (centre week : ℕ) → found_in l.found centre week ≡ (if is_asked (take l.place-index l.asked) centre week then Some [] else None)
