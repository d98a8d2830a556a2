-- Calls on the state of a board, by what they found.
use Rattle.std.proofs.Common.{◌≡◌, ◌&&◌, ℕ, Bool, true, false, not, Option, Some, None, Result, Ok, Err, refl}
use Rattle.std.specs.Prelude.{◌⊎◌, MatchResult, is_some}
use Rattle.mrp_turn.specs.Log.{IsSeatNumber}
use Rattle.mrp_item.specs.Inputs.{Inputs}
use Rattle.mrp_item.specs.Places.{ItemOf}
use Rattle.mrp_board.specs.declared.call.BoardCall.{BoardCall}
use Rattle.mrp_board.specs.declared.reply.BoardReply.{BoardReply}
use Rattle.mrp_board.specs.declared.refused.BoardRefused.{BoardRefused}
use Rattle.mrp_board.specs.Board.{FitsInputs}
use Rattle.mrp_board.specs.BoardState.{BoardState, has_stored, is_worker, worker_of}
use Rattle.mrp_board.specs.Object.{Answers, IsOutOfMemory, Refuses, Tells}
use Rattle.mrp_board.proofs.Tests.{and-first, and-second, is-not, no}

module _ (b : BoardState) (who : ℕ) (o : ItemOf) where
  abbrev pub IsHeld : Bool → Type 0
  IsHeld v = (is_worker who (worker_of b o.item) && not (has_stored b o.item)) ≡ v

  -- what a worker holds was handed out, and is not stored
  pub held-out : IsHeld true → (is_some (worker_of b o.item) ≡ true) × (has_stored b o.item ≡ false)
  held-out is = (by (worker_of b o.item) (and-first (is_worker who (worker_of b o.item)) (not (has_stored b o.item)) is), is-not (has_stored b o.item) (and-second (is_worker who (worker_of b o.item)) (not (has_stored b o.item)) is))
    where
      by : (w : Option ℕ) → is_worker who w ≡ true → is_some w ≡ true
      by None e = no e
      by (Some worker) e = refl

-- what a call tells, as an object's
pub answered : (s : Inputs) (b : BoardState) (who : ℕ) (c : BoardCall) (result : Result (BoardReply × BoardReply) BoardRefused) (new : BoardState) → IsSeatNumber who → FitsInputs s c → Tells b who c result new
    → MatchResult result (λ r. Answers s b who c r.0 new × (r.1 ≡ r.0)) (λ e. (new ≡ b) × (IsOutOfMemory b who c e ⊎ Refuses b who c e))
answered s b who c (Ok r) new seat fits told = (record { worker_is = seat; fits = fits; reply = told.reply; left = told.after }, told.copy)
answered s b who c (Err e) new seat fits told = (told.unchanged, told.cause)
