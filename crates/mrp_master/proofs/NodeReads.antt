-- Sequences of node reads.
use Rattle.std.proofs.Common.{ℕ, zero, suc, ◌≤◌, ◌<◌, refl, arith}
use Rattle.mrp_master.specs.Nodes.{ReadsAtMost}

module _ {S : Type 0} (IsRead : S → S → Type 0) where
  pub one_read : (old new : S) → IsRead old new → ReadsAtMost IsRead 1 old new
  one_read old new is = (suc zero, omega arith, (old, refl, is))

  pub one_more : (some most : ℕ) (old between new : S) → ReadsAtMost IsRead some old between → IsRead between new → some < most → ReadsAtMost IsRead most old new
  one_more some most old between new reads is more = (suc reads.0, omega (arith, reads.1, more), (between, reads.2, is))

  pub at_most : (some most : ℕ) (old new : S) → ReadsAtMost IsRead some old new → some ≤ most → ReadsAtMost IsRead most old new
  at_most some most old new reads more = (reads.0, omega (arith, reads.1, more), reads.2)
