-- What a core keeps besides what contracts see.
use Rattle.std.specs.Prelude.{◌≡◌, ◌≤◌, length, map, All}
use Rattle.mrp_tables.specs.Tables.{Tables}
use Rattle.mrp_master.specs.Supply.{supply_of}
use Rattle.mrp_book.specs.Standing.{History}
use Rattle.mrp_engine.specs.declared.event_core.Core.TheInside.{Inside}
use Rattle.mrp_engine.specs.event_core.Board.{RunLog}
use Rattle.mrp_engine.specs.event_core.Core.{Core, Run, inputs_at}
use Rattle.mrp_engine.specs.event_core.Kept.{KeepsBoard}

-- a run plans from the bookings that stood at its front, and its board's log is legal
pub record FollowsHistory (tables : Tables) (h : History) (run : RunLog) : Type 0 where
  pub inputs : run.inputs ≡ inputs_at tables h run.inputs.front
  pub before : run.inputs.front ≤ length h
  pub board : KeepsBoard run.inputs run.log

-- a run as a core shows it
abbrev pub brief : RunLog → Run
brief r = record { front = r.inputs.front; log = r.log }

-- each run plans from the bookings that stood at its front
abbrev pub core_view : Inside → Core
core_view c = record { tables = c.rows.value.tables; history = c.book.entries; runs = map brief c.runs.items }

pub record KeepsCore (c : Inside) : Type 0 where
  pub supply : c.book.supply ≡ supply_of c.rows.value.tables
  pub runs : All (FollowsHistory c.rows.value.tables c.book.entries) c.runs.items
