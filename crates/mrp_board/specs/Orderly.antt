-- Orderly logs of a board: each worker takes an item and finishes it, again and again, until it is told the end or gives up
-- (profile).
use Rattle.std.specs.Prelude.{ℕ, ◌≡◌, ◌⊎◌, List, [], ◌∷◌, ◌++◌}
use Rattle.mrp_turn.specs.Log.{entries_by, entry}
use Rattle.mrp_item.specs.Inputs.{Inputs}
use Rattle.mrp_item.specs.Made.{item_from}
use Rattle.mrp_item.specs.Places.{ItemOf}
use Rattle.mrp_board.specs.declared.call.BoardCall.{BoardCall}
use Rattle.mrp_board.specs.declared.call.BoardCall.TheVariants as call
use Rattle.mrp_board.specs.declared.reply.BoardReply.TheVariants as reply
use Rattle.mrp_board.specs.Board.{BoardLog}

-- the finish of an item for these inputs
abbrev pub finish_of : Inputs → ℕ → BoardCall
finish_of s item = call.Finish (item_from s item)

-- a worker takes each of these items, with some parents, and finishes it before it takes the next
abbrev pub finished_by : Inputs → ℕ → List (ℕ × List ItemOf) → BoardLog
finished_by s who [] = []
finished_by s who (x ∷ items) = entry who call.Take (reply.Item x.0 x.1) ∷ entry who (finish_of s x.0) reply.Stored ∷ finished_by s who items

-- how a worker leaves off: it is told that every item is out, or it gives up, with an item in hand or without
abbrev pub IsEnd : ℕ → BoardLog → Type 0
IsEnd who log =
    (log ≡ entry who call.Take reply.AllOut ∷ [])
    ⊎ (log ≡ entry who call.GiveUp reply.Stopped ∷ [])
    ⊎ ((item : ℕ) × (parents : List ItemOf) × (log ≡ entry who call.Take (reply.Item item parents) ∷ entry who call.GiveUp reply.Stopped ∷ []))

-- a worker's entries, which may leave off early
pub record IsCourse (s : Inputs) (who : ℕ) (entries : BoardLog) : Type 0 where
  pub items : List (ℕ × List ItemOf)
  pub last : BoardLog
  pub left : BoardLog
  pub ends : IsEnd who last
  pub prefix : finished_by s who items ++ last ≡ entries ++ left

-- each worker's entries are such a course
abbrev pub IsOrderly : Inputs → BoardLog → Type 0
IsOrderly s log = (who : ℕ) → IsCourse s who (entries_by who log)

-- a worker that was told that every item is out, and gave nothing up; or one without an entry
abbrev pub IsComplete : Inputs → ℕ → BoardLog → Type 0
IsComplete s who entries = (entries ≡ []) ⊎ ((items : List (ℕ × List ItemOf)) × (entries ≡ finished_by s who items ++ entry who call.Take reply.AllOut ∷ []))

-- a worker was told that every item is out, and each worker's entries are complete
pub record WorkedToEnd (s : Inputs) (log : BoardLog) : Type 0 where
  pub before : BoardLog
  pub who : ℕ
  pub after : BoardLog
  pub told_end : log ≡ before ++ entry who call.Take reply.AllOut ∷ after
  pub each : (who : ℕ) → IsComplete s who (entries_by who log)
