-- The headline: what holds of every right list of events and answers.
use Rattle.std.specs.Prelude.{ℕ, ◌≡◌, ◌≢◌, ◌↔◌, ◌<◌, ◌+◌, ◌==◌, ◌&&◌, ◌⊎◌, true, List, [], ◌∷◌, ◌++◌, Some, AllPairs, length, filter, sum_by, zip}
use Rattle.std.specs.Global.{Vec}
use Rattle.mrp_tables.specs.Tables.{AreTables, Tables}
use Rattle.mrp_tables.specs.declared.rows.Operation.{Operation}
use Rattle.mrp_bill.specs.Shop.{IsShop, Shop}
use Rattle.mrp_turn.specs.declared.log.Entry.{Entry}
use Rattle.mrp_turn.specs.Log.{entry}
use Rattle.mrp_master.specs.declared.line.Line.{Line}
use Rattle.mrp_master.specs.Supply.{CanPromise, IsCovered, supply_of}
use Rattle.mrp_book.specs.declared.call.Call.{Call}
use Rattle.mrp_book.specs.declared.call.Call.TheVariants as call
use Rattle.mrp_book.specs.declared.reply.Reply.{Reply}
use Rattle.mrp_book.specs.declared.reply.Reply.TheVariants as reply
use Rattle.mrp_book.specs.Standing.{History, booked}
use Rattle.mrp_book.specs.History.{IsLegal, next_number}
use Rattle.mrp_item.specs.declared.order.Order.{Order}
use Rattle.mrp_item.specs.Inputs.{Inputs, count, places}
use Rattle.mrp_item.specs.Made.{item_from}
use Rattle.mrp_peg.specs.Laws.{AddUpToRequirements, AddUpToSupplies}
use Rattle.mrp_peg.specs.Pegging.{pegs_of, requirements, supplies}
use Rattle.mrp_load.specs.Loads.{load, operation_week, orders_in, standard_time}
use Rattle.mrp_board.specs.declared.call.BoardCall.{BoardCall}
use Rattle.mrp_board.specs.declared.call.BoardCall.TheVariants as board_call
use Rattle.mrp_board.specs.declared.reply.BoardReply.TheVariants as board_reply
use Rattle.mrp_board.specs.Board.{BoardEntry, BoardLog, HandsOn, IsLegalBoard, held, is_stored, parents_in}
use Rattle.mrp_report.specs.ReportText.{report_text}
use Rattle.mrp_engine.specs.declared.event_core.event.Event.{Event}
use Rattle.mrp_engine.specs.declared.event_core.event.Event.TheVariants as event
use Rattle.mrp_engine.specs.declared.event_core.event.Answer.{Answer}
use Rattle.mrp_engine.specs.declared.event_core.event.Answer.TheVariants as answer
use Rattle.mrp_engine.specs.day.Day.{IsPlannable, IsRefusedBy}
use Rattle.mrp_engine.specs.event_core.Core.{AsksFullBook, HasMeaning, IsRight, IsStarted, Step, core_of, inputs_at, log_at, run_inputs, snapshot_of, told}

-- a shop whose tables keep their limits, and in which no item needs itself
pub record IsAcceptedShop (shop : Shop) : Type 0 where
  pub accepted : IsShop shop
  pub tables : AreTables shop.tables

-- the entry of a history with this number
pub record IsEntry (h : History) (number : ℕ) (e : Entry Call Reply) : Type 0 where
  pub before : History
  pub after : History
  pub place : h ≡ before ++ e ∷ after
  pub counted : number ≡ next_number before

-- an event was given this answer after these steps
pub record WasAnswered (steps before : List Step) (e : Event) (a : Answer) : Type 0 where
  pub after : List Step
  pub place : steps ≡ before ++ (e, a) ∷ after

-- a run of these inputs was written
pub record WasWritten (tables : Tables) (steps : List Step) (s : Inputs) : Type 0 where
  pub before : List Step
  pub run : ℕ
  pub bytes : Vec ℕ
  pub answered : WasAnswered steps before (event.Write run) (answer.Bytes bytes)
  pub inputs : s ≡ run_inputs (core_of tables before) run

-- an entry of the order book is that of a call that was answered with its number, or of a start that was answered with
-- it as the run's front
abbrev pub WasEntered : Tables → List Step → ℕ → Entry Call Reply → Type 0
WasEntered tables steps number e =
    ((before : List Step) × WasAnswered steps before (event.Call e.who e.call) (answer.Replied number e.reply))
    ⊎ ((before : List Step) × (run : ℕ) × WasAnswered steps before (event.Start e.who) (answer.Started run number) × (e ≡ entry e.who call.Snapshot (snapshot_of (core_of tables before) number)))

-- a desk started the run
abbrev pub WasStarted : List Step → ℕ → Type 0
WasStarted steps run = (before : List Step) × (desk : ℕ) × (front : ℕ) × WasAnswered steps before (event.Start desk) (answer.Started run front)

-- an entry stands in the log of a run's board to the end, behind those of the steps before
abbrev pub IsLogged : Tables → List Step → List Step → ℕ → BoardEntry → Type 0
IsLogged tables steps before run e = (later : BoardLog) × (log_at (core_of tables steps) run ≡ log_at (core_of tables before) run ++ e ∷ later)

-- the event of a worker that makes a call on a run's board
abbrev pub board_event : ℕ → ℕ → BoardCall → Event
board_event run who board_call.Take = event.Take run who
board_event run who (board_call.Finish outcome) = event.Finish run who
board_event run who board_call.GiveUp = event.GiveUp run who

-- an entry of a run's board is that of a worker's event, when the log had these entries
abbrev pub WasLogged : Tables → List Step → ℕ → BoardLog → BoardEntry → Type 0
WasLogged tables steps run logged e =
    (before : List Step) × WasAnswered steps before (board_event run e.who e.call) (told (Some e.reply)) × (log_at (core_of tables before) run ≡ logged)

-- the operations of an item at a work centre that an order of it loads there in a week
abbrev pub operations_in : Inputs → ℕ → ℕ → ℕ → Order → List Operation
operations_in s centre week item order =
    filter (λ operation. (operation.item == item) && (operation.centre == centre) && (operation_week operation order == week)) s.tables.routings

-- the time that the orders of all items, firm and planned, take of a work centre in a week, each for its operations
-- that load it there (APICS Dictionary: standard time)
abbrev pub time_of_orders : Inputs → ℕ → ℕ → ℕ
time_of_orders s centre week =
    sum_by (λ item. sum_by (λ order. sum_by (λ operation. standard_time operation order) (operations_in s centre week item order)) (orders_in s item)) (places s)

-- the answers that leave the core as it is
abbrev pub ChangesNothing : Answer → Type 0
ChangesNothing answer.Nothing = Unit {0}
ChangesNothing answer.Full = Unit {0}
ChangesNothing answer.NotYet = Unit {0}
ChangesNothing (answer.Bytes bytes) = Unit {0}
ChangesNothing (answer.TooLarge name) = Unit {0}
ChangesNothing (answer.Replied n r) = ⊥
ChangesNothing (answer.Started run front) = ⊥
ChangesNothing (answer.Item item) = ⊥
ChangesNothing answer.AllOut = ⊥
ChangesNothing answer.Stored = ⊥
ChangesNothing answer.Stopped = ⊥

pub record Headline (tables : Tables) (steps : List Step) : Type 0 where
  -- the order book's replies are those of one legal history, whose entries are numbered from 1
  pub legal : IsLegal (supply_of tables) (core_of tables steps).history
  pub numbered : (before : List Step) (desk n : ℕ) (c : Call) (r : Reply) → WasAnswered steps before (event.Call desk c) (answer.Replied n r) → n ≡ next_number (core_of tables before).history
  pub started : (before : List Step) (desk run front : ℕ) → WasAnswered steps before (event.Start desk) (answer.Started run front)
      → (run ≡ length (core_of tables before).runs + 1) × (front ≡ next_number (core_of tables before).history)
  -- and each stays there under its number to the end
  pub entered : (before : List Step) (desk n : ℕ) (c : Call) (r : Reply) → WasAnswered steps before (event.Call desk c) (answer.Replied n r) → IsEntry (core_of tables steps).history n (entry desk c r)
  pub snapped : (before : List Step) (desk run front : ℕ) → WasAnswered steps before (event.Start desk) (answer.Started run front)
      → IsEntry (core_of tables steps).history front (entry desk call.Snapshot (snapshot_of (core_of tables before) front))
  -- and there is no other entry
  pub answered : (number : ℕ) (e : Entry Call Reply) → IsEntry (core_of tables steps).history number e → WasEntered tables steps number e
  -- a run plans from the tables and the entries up to the front in the answer to its start, whatever came between or
  -- after
  pub fronts : (before : List Step) (desk run front : ℕ) → WasAnswered steps before (event.Start desk) (answer.Started run front)
      → run_inputs (core_of tables steps) run ≡ inputs_at tables (core_of tables steps).history front
  -- and at no point is there a run that no desk started
  pub begun : (before after : List Step) (run : ℕ) → steps ≡ before ++ after → IsStarted (core_of tables before) run → WasStarted steps run
  -- the bytes that a finished run wrote are the report of the plan that these define
  pub written : (before : List Step) (run : ℕ) (bytes : Vec ℕ) → WasAnswered steps before (event.Write run) (answer.Bytes bytes)
      → IsPlannable (run_inputs (core_of tables steps) run) × (bytes.items ≡ report_text (run_inputs (core_of tables steps) run))
  pub refused : (before : List Step) (run : ℕ) (name : List ℕ) → WasAnswered steps before (event.Write run) (answer.TooLarge name)
      → IsRefusedBy (run_inputs (core_of tables steps) run) name
  -- and each of its items was stored then
  pub finished : (before : List Step) (run : ℕ) (a : Answer) → WasAnswered steps before (event.Write run) a → a ≢ answer.Nothing
      → (item : ℕ) → item < length tables.items → is_stored (log_at (core_of tables before) run) item ≡ true
  -- the log of each run's board is legal: an item is handed out once its parents are stored, and stored by the worker
  -- that it was handed to
  pub boards : (run : ℕ) → IsStarted (core_of tables steps) run → IsLegalBoard (run_inputs (core_of tables steps) run) (log_at (core_of tables steps) run)
  -- what is stored is its item's outcome for the run's inputs, and an item is handed out with those of its distinct parents
  pub outcomes : (run : ℕ) → IsStarted (core_of tables steps) run → HandsOn (run_inputs (core_of tables steps) run) (log_at (core_of tables steps) run)
  -- each answer to a worker is an entry of its run's board: an item that is handed out, with the stored outcomes of its
  -- distinct parents; an outcome that is stored, of the item that the worker held; that all is out; that the run is given up
  pub handed : (before : List Step) (run who item : ℕ) → WasAnswered steps before (event.Take run who) (answer.Item item)
      → IsLogged tables steps before run (entry who board_call.Take (board_reply.Item item (parents_in (run_inputs (core_of tables steps) run) (log_at (core_of tables before) run) item)))
  pub stored : (before : List Step) (run who : ℕ) → WasAnswered steps before (event.Finish run who) answer.Stored
      → (item : ℕ) × (held who (log_at (core_of tables before) run) ≡ Some item) × IsLogged tables steps before run (entry who (board_call.Finish (item_from (run_inputs (core_of tables steps) run) item)) board_reply.Stored)
  pub ended : (before : List Step) (run who : ℕ) → WasAnswered steps before (event.Take run who) answer.AllOut → IsLogged tables steps before run (entry who board_call.Take board_reply.AllOut)
  pub stopped : (before : List Step) (run who : ℕ) → WasAnswered steps before (event.GiveUp run who) answer.Stopped → IsLogged tables steps before run (entry who board_call.GiveUp board_reply.Stopped)
  -- and there is no other entry
  pub logged : (run : ℕ) (before after : BoardLog) (e : BoardEntry) → IsStarted (core_of tables steps) run → log_at (core_of tables steps) run ≡ before ++ e ∷ after → WasLogged tables steps run before e
  -- no accepted booking exceeded what was then available to promise
  pub within : (before after : History) (desk number : ℕ) (l : Line)
      → (core_of tables steps).history ≡ before ++ entry desk (call.Book l) (reply.Booked number) ∷ after → CanPromise (supply_of tables) (booked before) l.item l.quantity l.week
  -- and at no point is more promised up to a week than its supply
  pub covered : (before after : History) → (core_of tables steps).history ≡ before ++ after → IsCovered (supply_of tables) (booked before)
  -- in each run that is written, every requirement's pegs add up to it, and every supply's, with its surplus, to the
  -- supply
  pub pegged : (s : Inputs) → WasWritten tables steps s → (item : ℕ) → item < count s → AddUpToRequirements s item (pegs_of s item) × AddUpToSupplies s item (pegs_of s item)
  -- and no two requirements have the same need, and no two supplies the same source
  pub apart : (s : Inputs) → WasWritten tables steps s → (item : ℕ) → AllPairs (λ a b. a.of ≢ b.of) (requirements s item)
  pub sources : (s : Inputs) → WasWritten tables steps s → (item : ℕ) → AllPairs (λ a b. a.of ≢ b.of) (supplies s item)
  -- and every work centre's load in a week is the standard minutes, in thousandths, of the orders that load it
  pub loaded : (s : Inputs) → WasWritten tables steps s → (centre week : ℕ) → load s centre week ≡ time_of_orders s centre week
  -- an event is answered `Nothing` exactly if it has no meaning, and anything else if it has one
  pub meaning : (before : List Step) (e : Event) (a : Answer) → WasAnswered steps before e a → (a ≡ answer.Nothing) ↔ (¬ HasMeaning (core_of tables before) e)
  pub meant : (before : List Step) (e : Event) (a : Answer) → WasAnswered steps before e a → (a ≢ answer.Nothing) ↔ HasMeaning (core_of tables before) e
  -- an event without meaning changes nothing, nor does one if the book is full, the run is not ready, or a
  -- run is written
  pub unchanged : (before : List Step) (e : Event) (a : Answer) → WasAnswered steps before e a → ChangesNothing a → core_of tables (before ++ (e, a) ∷ []) ≡ core_of tables before
  -- a call or a start is answered `Full` exactly if the order book has its limit of entries
  pub full : (before : List Step) (e : Event) (a : Answer) → WasAnswered steps before e a → (a ≡ answer.Full) ↔ AsksFullBook (core_of tables before) e

-- the answers of a new core to events: one for each, and right
pub record RunsRight (tables : Tables) (events : List Event) (answers : List Answer) : Type 0 where
  pub each : length answers ≡ length events
  pub right : IsRight tables (zip events answers)
  pub headline : Headline tables (zip events answers)
