-- The core: which events have meaning, how each is answered, and what its answer adds to the history and to the runs (profile).
use Rattle.std.specs.Prelude.{ℕ, ◌≡◌, ◌≤◌, ◌+◌, ◌-◌, ◌⊎◌, true, List, [], ◌∷◌, ◌++◌, Option, Some, None, IsSome, length, take, set}
use Rattle.std.specs.List.{slice_index_or}
use Rattle.std.specs.Global.{Vec}
use Rattle.mrp_tables.specs.Tables.{Tables}
use Rattle.mrp_turn.specs.Log.{EachFollows, IsSeatNumber, entry}
use Rattle.mrp_master.specs.Supply.{supply_of}
use Rattle.mrp_book.specs.declared.call.Call.TheVariants as call
use Rattle.mrp_book.specs.declared.reply.Reply.{Reply}
use Rattle.mrp_book.specs.declared.reply.Reply.TheVariants as reply
use Rattle.mrp_book.specs.Standing.{History, standing}
use Rattle.mrp_book.specs.History.{Fits, IsFull, IsReply, next_number}
use Rattle.mrp_item.specs.Inputs.{Inputs}
use Rattle.mrp_item.specs.Made.{item_from}
use Rattle.mrp_board.specs.declared.call.BoardCall.TheVariants as board_call
use Rattle.mrp_board.specs.declared.reply.BoardReply.{BoardReply}
use Rattle.mrp_board.specs.declared.reply.BoardReply.TheVariants as board_reply
use Rattle.mrp_board.specs.Board.{BoardLog, board_reply, held, is_finished}
use Rattle.mrp_report.specs.ReportText.{report_text}
use Rattle.mrp_engine.specs.declared.event_core.event.Event.{Event}
use Rattle.mrp_engine.specs.declared.event_core.event.Event.TheVariants as event
use Rattle.mrp_engine.specs.declared.event_core.event.Answer.{Answer}
use Rattle.mrp_engine.specs.declared.event_core.event.Answer.TheVariants as answer
use Rattle.mrp_engine.specs.day.Day.{IsPlannable, IsRefusedBy}
use Rattle.mrp_engine.specs.event_core.Board.{finish_entry, take_entry}

-- a run: the front that it plans from, and the log of its board
pub record Run : Type 0 where
  pub front : ℕ
  pub log : BoardLog

-- the tables of the shop, the history of its order book, and the runs that were started, in order
pub record Core : Type 0 where
  pub tables : Tables
  pub history : History
  pub runs : List Run

abbrev pub opened : Tables → Core
opened tables = record { tables = tables; history = []; runs = [] }

-- the inputs of a run with front n: the tables, and the bookings that stand after the first n entries
abbrev pub inputs_at : Tables → History → ℕ → Inputs
inputs_at tables h front = record { tables = tables; front = front; standing = standing (take front h) }

-- the run with a number
abbrev pub IsStarted : Core → ℕ → Type 0
IsStarted core run = (1 ≤ run) × (run ≤ length core.runs)

abbrev pub no_run : Run
no_run = record { front = 0; log = [] }

abbrev pub run_at : Core → ℕ → Run
run_at core run = slice_index_or core.runs (run - 1) no_run

abbrev pub log_at : Core → ℕ → BoardLog
log_at core run = (run_at core run).log

abbrev pub run_inputs : Core → ℕ → Inputs
run_inputs core run = inputs_at core.tables core.history (run_at core run).front

-- an event has meaning if its run was started, its desk or worker has a number from 1 to 64, a worker that asks for an
-- item holds none of the run, one that finishes holds one, and a run that is written is finished
abbrev pub HasMeaning : Core → Event → Type 0
HasMeaning core (event.Call desk c) = IsSeatNumber desk
HasMeaning core (event.Start desk) = IsSeatNumber desk
HasMeaning core (event.Take run who) = IsStarted core run × IsSeatNumber who × (held who (log_at core run) ≡ None)
HasMeaning core (event.Finish run who) = IsStarted core run × IsSeatNumber who × IsSome (held who (log_at core run))
HasMeaning core (event.GiveUp run who) = IsStarted core run × IsSeatNumber who
HasMeaning core (event.Write run) = IsStarted core run × (is_finished (run_inputs core run) (log_at core run) ≡ true)

-- an event of a desk: it asks the order book for an entry
abbrev pub IsOfDesk : Event → Type 0
IsOfDesk (event.Call desk c) = Unit {0}
IsOfDesk (event.Start desk) = Unit {0}
IsOfDesk e = ⊥

-- an event that has meaning asks a full order book for an entry
abbrev pub AsksFullBook : Core → Event → Type 0
AsksFullBook core e = IsOfDesk e × HasMeaning core e × IsFull core.history

-- a worker that asks for an item has to come again
abbrev pub IsToldLater : Core → Event → Type 0
IsToldLater core (event.Take run who) = board_reply (run_inputs core run) (log_at core run) who board_call.Take ≡ None
IsToldLater core e = ⊥

-- a run is written in which an item gets too large
abbrev pub IsToldTooLarge : Core → Event → Type 0
IsToldTooLarge core (event.Write run) = (name : List ℕ) × IsRefusedBy (run_inputs core run) name
IsToldTooLarge core e = ⊥

-- an event that may run out of memory: one that has meaning, asks no full order book, does not have to come again, and writes no run in which an item gets too large
pub record IsOutOfMemory (core : Core) (e : Event) : Type 0 where
  pub meant : HasMeaning core e
  pub not_full : ¬ AsksFullBook core e
  pub not_later : ¬ IsToldLater core e
  pub not_over : ¬ IsToldTooLarge core e

-- the core's answer for a board's reply; `NotYet` for none
abbrev pub told : Option BoardReply → Answer
told None = answer.NotYet
told (Some board_reply.AllOut) = answer.AllOut
told (Some (board_reply.Item item parents)) = answer.Item item
told (Some board_reply.Stored) = answer.Stored
told (Some board_reply.NotOut) = answer.Nothing
told (Some board_reply.Stopped) = answer.Stopped

-- the report of a run's plan, or the item that refuses the plan
abbrev pub IsReport : Inputs → Answer → Type 0
IsReport s a = ((bytes : Vec ℕ) × (a ≡ answer.Bytes bytes) × IsPlannable s × (bytes.items ≡ report_text s)) ⊎ ((name : List ℕ) × (a ≡ answer.TooLarge name) × IsRefusedBy s name)

-- how an event that has meaning is answered: by the order book, which is full at 1,000,000 entries; by the run's board; or by
-- the run's report
abbrev pub IsAnswered : Core → Event → Answer → Type 0
IsAnswered core (event.Call desk c) a =
    (IsFull core.history × (a ≡ answer.Full))
    ⊎ ((¬ IsFull core.history) × (r : Reply) × IsReply (supply_of core.tables) core.history desk c r × (a ≡ answer.Replied (next_number core.history) r))
IsAnswered core (event.Start desk) a =
    (IsFull core.history × (a ≡ answer.Full))
    ⊎ ((¬ IsFull core.history) × (a ≡ answer.Started (length core.runs + 1) (next_number core.history)))
IsAnswered core (event.Take run who) a = a ≡ told (board_reply (run_inputs core run) (log_at core run) who board_call.Take)
IsAnswered core (event.Finish run who) a =
    (item : ℕ) × (held who (log_at core run) ≡ Some item) × (a ≡ told (board_reply (run_inputs core run) (log_at core run) who (board_call.Finish (item_from (run_inputs core run) item))))
IsAnswered core (event.GiveUp run who) a = a ≡ told (board_reply (run_inputs core run) (log_at core run) who board_call.GiveUp)
IsAnswered core (event.Write run) a = IsReport (run_inputs core run) a

-- an event that has meaning is answered like this, and any other is answered `Nothing`
abbrev pub IsAnswer : Core → Event → Answer → Type 0
IsAnswer core e a = (HasMeaning core e × IsAnswered core e a) ⊎ ((¬ HasMeaning core e) × (a ≡ answer.Nothing))

-- What answers add.

abbrev pub Step : Type 0
Step = Event × Answer

-- the reply to a snapshot of a core's history: the bookings that stand
abbrev pub snapshot_of : Core → ℕ → Reply
snapshot_of core front = reply.Taken (record { front = front; weeks = (supply_of core.tables).weeks; standing = standing core.history })

-- the log of a run, with more entries
abbrev pub with_entries : Core → ℕ → BoardLog → Core
with_entries core run entries = record core { runs = set core.runs (run - 1) (record { front = (run_at core run).front; log = log_at core run ++ entries }) }

-- the core after an event and its answer: a reply adds an entry to the history, a start adds one and a run, and an
-- answer to a worker adds an entry to its run's log
abbrev pub after : Core → Event → Answer → Core
after core (event.Call desk c) (answer.Replied n r) = record core { history = core.history ++ entry desk c r ∷ [] }
after core (event.Start desk) (answer.Started run front) = record core { history = core.history ++ entry desk call.Snapshot (snapshot_of core front) ∷ []; runs = core.runs ++ record { front = front; log = [] } ∷ [] }
after core (event.Take run who) (answer.Item item) = with_entries core run (take_entry (run_inputs core run) (log_at core run) who item)
after core (event.Take run who) answer.AllOut = with_entries core run (entry who board_call.Take board_reply.AllOut ∷ [])
after core (event.Finish run who) answer.Stored = with_entries core run (finish_entry (run_inputs core run) who (held who (log_at core run)))
after core (event.GiveUp run who) answer.Stopped = with_entries core run (entry who board_call.GiveUp board_reply.Stopped ∷ [])
after core e a = core

unfoldable pub core_after : Core → List Step → Core
core_after core [] = core
core_after core (x ∷ later) = core_after (after core x.0 x.1) later

-- the core of a shop after events and their answers
abbrev pub core_of : Tables → List Step → Core
core_of tables steps = core_after (opened tables) steps

-- an event whose call, if a desk makes one, fits the shop
abbrev pub FitsShop : Tables → Event → Type 0
FitsShop tables (event.Call desk c) = IsSeatNumber desk → Fits (supply_of tables) c
FitsShop tables e = Unit {0}

-- an event that fits the shop, with its answer after the steps before it
abbrev pub MayFollowSteps : Tables → List Step → Step → Type 0
MayFollowSteps tables before x = FitsShop tables x.0 × IsAnswer (core_of tables before) x.0 x.1

-- a right list of events with their answers: the events fit the shop, and those before an event decide its answer
abbrev pub IsRight : Tables → List Step → Type 0
IsRight tables steps = EachFollows (MayFollowSteps tables) steps
