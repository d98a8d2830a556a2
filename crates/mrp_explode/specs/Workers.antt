-- Workers that work at the same time (profile).
use Rattle.std.specs.Prelude.{ℕ, ◌≡◌, ◌<◌, ◌≤◌, List, [], All, OnOk, Ok, length, slice_index_or}
use Rattle.mrp_turn.specs.Log.{AreFrom, entries_by}
use Rattle.mrp_turn.specs.Seen.{TurnId}
use Rattle.mrp_item.specs.Inputs.{Inputs}
use Rattle.mrp_board.specs.Board.{BoardLog, IsLegalBoard}
use Rattle.mrp_board.specs.BoardState.{BoardState, state_of}
use Rattle.mrp_board.specs.Orderly.{IsCourse, WorkedToEnd}
use Rattle.mrp_explode.specs.declared.workers.Worked.{Worked}
use Rattle.mrp_explode.specs.Work.{IsDone, Worker}

-- a worker of a board that has called nothing
abbrev pub IsNew : TurnId Inputs → Worker → Type 0
IsNew board w = (w.turn ≡ board) × (w.mine ≡ [])

-- a worker after its work: it is the same, it has left orderly entries, and unless it was refused memory it was told that every
-- item is out
pub record HasWorked (board : TurnId Inputs) (old : Worker) (w : Worked) : Type 0 where
  pub number : w.worker.number ≡ old.number
  pub board_is : w.worker.turn ≡ board
  pub orderly : IsCourse board.about.object old.number w.worker.mine
  pub done : OnOk w.end (IsDone board.about.object old.number w.worker.mine)

-- the work of a worker that was not refused memory
abbrev pub done_by : Worker → Worked
done_by w = record { worker = w; end = Ok (tt {0}) }

-- workers after their work, none of which was refused memory: they are the same, and each was told that every item is out
pub record HaveWorked (board : TurnId Inputs) (old new : List Worker) : Type 0 where
  pub count : length new ≡ length old
  pub numbers : (k : ℕ) (d : Worker) → k < length old → (slice_index_or new k d).number ≡ (slice_index_or old k d).number
  pub boards : All (λ w. w.turn ≡ board) new
  pub orderly : All (λ w. IsCourse board.about.object w.number w.mine) new
  pub done : All (λ w. IsDone board.about.object w.number w.mine) new

-- so many workers worked to the end: each was told at last that every item is out, and nobody else has an entry
pub record HaveFinished (s : Inputs) (workers : ℕ) (log : BoardLog) : Type 0 where
  pub from : AreFrom workers log
  pub each : (who : ℕ) → 1 ≤ who → who ≤ workers → IsDone s who (entries_by who log)

-- what so many workers leave of their board: a legal log, whose state it is; so it is orderly, and every item is stored
pub record LeaveFinished (s : Inputs) (workers : ℕ) (b : BoardState) (log : BoardLog) : Type 0 where
  pub legal : IsLegalBoard s log
  pub state : b ≡ state_of s log
  pub workers_are : HaveFinished s workers log
  pub ended : WorkedToEnd s log
