-- What a board with its log keeps besides what contracts see.
use Rattle.std.specs.Prelude.{ℕ, ◌≡◌, true, false, [], Option, Some, None}
use Rattle.mrp_item.specs.Inputs.{Inputs}
use Rattle.mrp_board.specs.Board.{BoardLog, IsLegalBoard, held, is_out, is_out_to, is_stored}
use Rattle.mrp_board.specs.BoardState.{BoardState, state_of}
use Rattle.mrp_engine.specs.event_core.Board.{RunLog}

-- a legal log, and the state that it leaves
pub record KeepsLog (s : Inputs) (state : BoardState) (log : BoardLog) : Type 0 where
  pub legal : IsLegalBoard s log
  pub left : state ≡ state_of s log

-- a legal log whose workers finish what they hold
pub record KeepsBoard (s : Inputs) (log : BoardLog) : Type 0 where
  pub legal : IsLegalBoard s log
  pub held_out : (who i : ℕ) → held who log ≡ Some i → is_out_to who log i ≡ true
  pub unstored : (who i : ℕ) → held who log ≡ Some i → is_stored log i ≡ false
  pub one : (who other i : ℕ) → held who log ≡ Some i → held other log ≡ Some i → who ≡ other
  pub stored_out : (i : ℕ) → is_stored log i ≡ true → is_out log i ≡ true

abbrev pub log_of : Option RunLog → BoardLog
log_of None = []
log_of (Some b) = b.log

-- a board, if there is one, plans from these inputs
abbrev pub IsBoardOf : Inputs → Option RunLog → Type 0
IsBoardOf s None = Unit {0}
IsBoardOf s (Some b) = b.inputs ≡ s
