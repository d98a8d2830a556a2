-- A run, and the entries that its workers make on its board (profile).
use Rattle.std.specs.Prelude.{ℕ, [], ◌∷◌, Option, Some, None}
use Rattle.mrp_turn.specs.Log.{entry}
use Rattle.mrp_item.specs.Inputs.{Inputs}
use Rattle.mrp_item.specs.Made.{item_from}
use Rattle.mrp_board.specs.declared.call.BoardCall.{BoardCall}
use Rattle.mrp_board.specs.declared.call.BoardCall.TheVariants as call
use Rattle.mrp_board.specs.declared.reply.BoardReply.{BoardReply}
use Rattle.mrp_board.specs.declared.reply.BoardReply.TheVariants as reply
use Rattle.mrp_board.specs.Board.{BoardLog, parents_in}

-- what a run plans from, and the log of its board
pub record RunLog : Type 0 where
  pub inputs : Inputs
  pub log : BoardLog

-- the entry of a worker that makes a call, if it has a reply
abbrev pub made : ℕ → BoardCall → Option BoardReply → BoardLog
made who c None = []
made who c (Some r) = entry who c r ∷ []

-- the entry of a worker that is handed an item, with the stored outcomes of its distinct parents
abbrev pub take_entry : Inputs → BoardLog → ℕ → ℕ → BoardLog
take_entry s log who item = entry who call.Take (reply.Item item (parents_in s log item)) ∷ []

-- the entry of a worker that finishes the item that it holds, if it holds one: the item's outcome for these inputs is stored
abbrev pub finish_entry : Inputs → ℕ → Option ℕ → BoardLog
finish_entry s who None = []
finish_entry s who (Some item) = entry who (call.Finish (item_from s item)) reply.Stored ∷ []
