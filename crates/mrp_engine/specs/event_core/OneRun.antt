-- A history of one snapshot, and the log of its board in a shop without items.
use Rattle.std.specs.Prelude.{[], ◌∷◌}
use Rattle.mrp_turn.specs.Log.{entry}
use Rattle.mrp_tables.specs.Tables.{Tables}
use Rattle.mrp_book.specs.declared.call.Call.TheVariants as book_call
use Rattle.mrp_book.specs.Standing.{History}
use Rattle.mrp_board.specs.declared.call.BoardCall.TheVariants as call
use Rattle.mrp_board.specs.declared.reply.BoardReply.TheVariants as reply
use Rattle.mrp_board.specs.Board.{BoardLog}
use Rattle.mrp_engine.specs.event_core.Core.{Run, opened, snapshot_of}

abbrev pub one_history : Tables → History
one_history tables = entry 1 book_call.Snapshot (snapshot_of (opened tables) 1) ∷ []

abbrev pub one_log : BoardLog
one_log = entry 1 call.Take reply.AllOut ∷ []

abbrev pub one_run : Run
one_run = record { front = 1; log = one_log }
