-- What a run keeps besides what contracts see.
use Rattle.mrp_master.specs.Supply.{supply_of}
use Rattle.mrp_book.specs.Booked.{AreBooked}
use Rattle.mrp_item.specs.Inputs.{inputs_of}
use Rattle.mrp_engine.specs.declared.event_core.run.Run.TheInside.{Inside}
use Rattle.mrp_engine.specs.event_core.Board.{RunLog}
use Rattle.mrp_engine.specs.event_core.Kept.{IsBoardOf, log_of}

abbrev pub run_view : Inside → RunLog
run_view r = record { inputs = inputs_of r.rows.value.tables r.snapshot; log = log_of r.board }

-- a run's inputs are of the shop, and its board plans from them
pub record KeepsRun (r : Inside) : Type 0 where
  pub booked : AreBooked (supply_of r.rows.value.tables) r.snapshot.standing
  pub board : IsBoardOf (inputs_of r.rows.value.tables r.snapshot) r.board
