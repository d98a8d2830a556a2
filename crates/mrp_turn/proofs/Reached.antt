-- For callers of an object's `apply`, whose state must be one that answered calls led to.
use Rattle.std.proofs.Common.{ℕ, [], ◌∷◌, ◌++◌, refl}
use Rattle.mrp_turn.specs.Log.{IsReached, entry}
use Rattle.mrp_turn.proofs.Runs.{Leads-snoc}

module _ {S C R : Type 0} (answers : S → ℕ → C → R → S → Type 0) (opens : S → Type 0) where
  -- a state that the object opens with is such a state
  pub reached-opens : (s : S) → opens s → IsReached answers opens s
  reached-opens s opened = ([], (s, opened, refl))

  -- so is the state that one more answered call leaves
  pub reached-more : (s : S) (who : ℕ) (call : C) (reply : R) (t : S) → IsReached answers opens s → answers s who call reply t → IsReached answers opens t
  reached-more s who call reply t (log, (first, opened, leads)) answered =
      (log ++ entry who call reply ∷ [], (first, opened, Leads-snoc answers first log s (entry who call reply) t leads answered))
