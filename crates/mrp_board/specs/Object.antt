-- A board as an object that workers take turns on (profile).
use Rattle.std.specs.Prelude.{ℕ, ◌≡◌, ◌⊎◌, Option, Some, None, Result, IfOk, IfErr, OnErr}
use Rattle.mrp_turn.specs.Log.{IsSeatNumber}
use Rattle.mrp_item.specs.Inputs.{Inputs}
use Rattle.mrp_board.specs.declared.call.BoardCall.{BoardCall}
use Rattle.mrp_board.specs.declared.reply.BoardReply.{BoardReply}
use Rattle.mrp_board.specs.declared.reply.BoardReply.TheVariants as reply
use Rattle.mrp_board.specs.declared.refused.BoardRefused.{BoardRefused}
use Rattle.mrp_board.specs.declared.refused.BoardRefused.TheVariants.{NotYet, NoMemory}
use Rattle.mrp_board.specs.Board.{FitsInputs}
use Rattle.mrp_board.specs.BoardState.{BoardState, board_reply_in, new_board, state_after}

-- it opens with nothing handed out
abbrev pub Opens : Inputs → BoardState → Type 0
Opens s b = b ≡ new_board s

-- the state decides the reply to a worker, and the entry the next state
pub record Answers (s : Inputs) (b : BoardState) (who : ℕ) (c : BoardCall) (r : BoardReply) (after : BoardState) : Type 0 where
  pub worker_is : IsSeatNumber who
  pub fits : FitsInputs s c
  pub reply : board_reply_in b who c ≡ Some r
  pub left : after ≡ state_after b who c r

-- a worker has to come again where the state has no reply for it
abbrev pub Refuses : BoardState → ℕ → BoardCall → BoardRefused → Type 0
Refuses b who c NotYet = board_reply_in b who c ≡ None
Refuses b who c NoMemory = ⊥

-- a reply that takes memory: an item that is handed out takes its parents' outcomes along, and one that is stored is kept
abbrev pub TakesMemory : Option BoardReply → Type 0
TakesMemory (Some (reply.Item item parents)) = Unit {0}
TakesMemory (Some reply.Stored) = Unit {0}
TakesMemory r = ⊥

abbrev pub IsOutOfMemory : BoardState → ℕ → BoardCall → BoardRefused → Type 0
IsOutOfMemory b who c NotYet = ⊥
IsOutOfMemory b who c NoMemory = TakesMemory (board_reply_in b who c)

-- What the contract of a call says of the state, old and new
pub record Tells (old : BoardState) (who : ℕ) (c : BoardCall) (result : Result (BoardReply × BoardReply) BoardRefused) (new : BoardState) : Type 0 where
  -- the reply is the state's, with an equal copy
  pub reply : IfOk result (λ r. board_reply_in old who c ≡ Some r.0)
  pub copy : IfOk result (λ r. r.1 ≡ r.0)
  pub after : IfOk result (λ r. new ≡ state_after old who c r.0)
  -- a refused call has changed nothing, and has its cause
  pub unchanged : OnErr result (new ≡ old)
  pub cause : IfErr result (λ e. IsOutOfMemory old who c e ⊎ Refuses old who c e)
