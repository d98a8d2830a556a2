-- What running threads leave, a history of the order book and the logs of the boards of some of its snapshots, and the
-- steps of a core that they are (profile).
use Rattle.std.specs.Prelude.{ℕ, ◌≡◌, ◌<◌, ◌≤◌, ◌+◌, ◌==◌, true, if◌then◌else◌, List, [], ◌∷◌, ◌++◌, Some, All, AllPairs, length, map}
use Rattle.mrp_tables.specs.declared.limits.TheConstants.{MOST_ENTRIES}
use Rattle.mrp_tables.specs.Tables.{Tables}
use Rattle.mrp_bill.specs.Shop.{Shop}
use Rattle.mrp_turn.specs.Log.{entry}
use Rattle.mrp_master.specs.Supply.{supply_of}
use Rattle.mrp_book.specs.declared.call.Call.TheVariants as call
use Rattle.mrp_book.specs.declared.reply.Reply.{Reply}
use Rattle.mrp_book.specs.Standing.{History}
use Rattle.mrp_book.specs.History.{IsLegal}
use Rattle.mrp_item.specs.Inputs.{Inputs}
use Rattle.mrp_board.specs.Board.{BoardEntry, BoardLog, IsLegalBoard, is_finished}
use Rattle.mrp_board.specs.Orderly.{IsOrderly}
use Rattle.mrp_engine.specs.declared.event_core.event.Event.TheVariants as event
use Rattle.mrp_engine.specs.declared.event_core.event.Answer.{Answer}
use Rattle.mrp_engine.specs.declared.event_core.event.Answer.TheVariants as answer
use Rattle.mrp_engine.specs.day.Day.{runs_of}
use Rattle.mrp_engine.specs.event_core.Core.{Core, IsReport, IsRight, IsStarted, Run, Step, core_of, inputs_at, log_at, run_inputs, told}
use Rattle.mrp_engine.specs.event_core.Headline.{ChangesNothing, Headline, IsEntry, board_event}

-- What threads leave.

-- the entry with this number is a snapshot
pub record IsSnapshot (h : History) (number : ℕ) : Type 0 where
  pub desk : ℕ
  pub reply : Reply
  pub is : IsEntry h number (entry desk call.Snapshot reply)

-- a run that plans from a snapshot of a history, and whose board has a legal and orderly log
pub record IsRunLeft (tables : Tables) (h : History) (run : Run) : Type 0 where
  pub snapshot : IsSnapshot h run.front
  pub legal : IsLegalBoard (inputs_at tables h run.front) run.log
  pub orderly : IsOrderly (inputs_at tables h run.front) run.log

-- a legal history within the limit of entries, and runs of some of its snapshots, in their order
pub record AreLeft (tables : Tables) (h : History) (runs : List Run) : Type 0 where
  pub legal : IsLegal (supply_of tables) h
  pub within : length h ≤ MOST_ENTRIES
  pub rise : AllPairs (λ a b. a.front < b.front) runs
  pub each : All (IsRunLeft tables h) runs

-- The steps that they are.

-- the snapshot that a run plans from is the run's start, and each other entry a call: the numbers of the next entry and of
-- the next run, the entries, and the runs that are to start
unfoldable pub book_steps : ℕ → ℕ → History → List Run → List Step
book_steps number run [] runs = []
book_steps number run (e ∷ later) [] = (event.Call e.who e.call, answer.Replied number e.reply) ∷ book_steps (number + 1) run later []
book_steps number run (e ∷ later) (r ∷ runs) =
    if r.front == number
    then (event.Start e.who, answer.Started run number) ∷ book_steps (number + 1) (run + 1) later runs
    else (event.Call e.who e.call, answer.Replied number e.reply) ∷ book_steps (number + 1) run later (r ∷ runs)

-- an entry of the board of the run with this number
abbrev pub board_step : ℕ → BoardEntry → Step
board_step run e = (board_event run e.who e.call, told (Some e.reply))

abbrev pub board_steps : ℕ → BoardLog → List Step
board_steps run log = map (board_step run) log

-- log after log, from the run with this number on
unfoldable pub logs_steps : ℕ → List Run → List Step
logs_steps run [] = []
logs_steps run (r ∷ later) = board_steps run r.log ++ logs_steps (run + 1) later

-- the history first, and then log after log
abbrev pub steps_of : History → List Run → List Step
steps_of h runs = book_steps 1 1 h runs ++ logs_steps 1 runs

-- a step that is kept: its answer is none of `NotYet`, `Nothing` and `Full`, and it writes no report
abbrev pub IsKept : Step → Type 0
IsKept x = ¬ ChangesNothing x.1

-- the core after them
abbrev pub core_left : Tables → History → List Run → Core
core_left tables h runs = record { tables = tables; history = h; runs = runs }

-- each step is kept, they are right, and leave a core with this history and with these fronts and logs
pub record AreTold (tables : Tables) (h : History) (runs : List Run) : Type 0 where
  pub kept : All IsKept (steps_of h runs)
  pub right : IsRight tables (steps_of h runs)
  pub core_is : core_of tables (steps_of h runs) ≡ core_left tables h runs

-- Reports.

-- the number of a finished run, and its report, or the item that refuses its plan
pub record IsReportOf (tables : Tables) (h : History) (runs : List Run) (written : ℕ × Answer) : Type 0 where
  pub started : IsStarted (core_left tables h runs) written.0
  pub finished : is_finished (run_inputs (core_left tables h runs) written.0) (log_at (core_left tables h runs) written.0) ≡ true
  pub report : IsReport (run_inputs (core_left tables h runs) written.0) written.1

abbrev pub write_steps : List (ℕ × Answer) → List Step
write_steps reports = map (λ w. (event.Write w.0, w.1)) reports

-- the reports of finished runs may follow, and all that the headline says holds of the whole
pub record AreReported (shop : Shop) (h : History) (runs : List Run) (reports : List (ℕ × Answer)) : Type 0 where
  pub right : IsRight shop.tables (steps_of h runs ++ write_steps reports)
  pub core_is : core_of shop.tables (steps_of h runs ++ write_steps reports) ≡ core_left shop.tables h runs
  pub headline : Headline shop.tables (steps_of h runs ++ write_steps reports)

-- Days.

-- what a run of a day is planned from: a snapshot of the history, and what stood then
pub record IsOfSnapshot (tables : Tables) (h : History) (s : Inputs) : Type 0 where
  pub snapshot : IsSnapshot h s.front
  pub inputs : s ≡ inputs_at tables h s.front

-- what the runs of a day are planned from, in the order of their snapshots
pub record AreOfSnapshots (tables : Tables) (h : History) : Type 0 where
  pub rise : AllPairs (λ a b. a.front < b.front) (runs_of tables h)
  pub each : All (IsOfSnapshot tables h) (runs_of tables h)
