use Rattle.std.proofs.Common.{◌≡◌, ◌<◌, ℕ}
use Rattle.std.specs.Prelude.{slice_index}
use Rattle.mrp_audit.proofs.following.have_all.Given as goal

abbrev pub invariant-loop-place : goal.invariant-loop-place
invariant-loop-place l = (desk : ℕ) → desk < l.place-index → slice_index l.of_desk desk ≡ l.end
