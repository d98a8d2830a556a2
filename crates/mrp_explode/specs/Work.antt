-- The work of a worker at a board, by its own entries (profile).
use Rattle.std.specs.Prelude.{ℕ, ◌≡◌, ◌<◌, ◌≤◌, ◌⊎◌, Bool, true, false, List, [], ◌∷◌, ◌++◌, Option, Some, None, Result, length}
use Rattle.mrp_turn.specs.Lists.{StartsWith}
use Rattle.mrp_turn.specs.Log.{entries_by, entry}
use Rattle.mrp_turn.specs.Calls.{Tells}
use Rattle.mrp_turn.specs.declared.turn.CallFault.{CallFault}
use Rattle.mrp_turn.specs.Seen.{Seated}
use Rattle.mrp_turn.specs.declared.views.About.{About}
use Rattle.mrp_item.specs.Inputs.{Inputs, count}
use Rattle.mrp_item.specs.Made.{parents_from}
use Rattle.mrp_item.specs.Places.{ItemOf}
use Rattle.mrp_board.specs.declared.call.BoardCall.{BoardCall}
use Rattle.mrp_board.specs.declared.call.BoardCall.TheVariants as call
use Rattle.mrp_board.specs.declared.reply.BoardReply.{BoardReply}
use Rattle.mrp_board.specs.declared.reply.BoardReply.TheVariants as reply
use Rattle.mrp_board.specs.declared.refused.BoardRefused.{BoardRefused}
use Rattle.mrp_board.specs.Board.{BoardLog, IsLegalBoard, board_reply}
use Rattle.mrp_board.specs.Object.{Answers, IsOutOfMemory, Opens, Refuses, TakesMemory}
use Rattle.mrp_board.specs.Orderly.{finished_by}
use Rattle.mrp_explode.specs.declared.working.Task.{Task}

-- a worker: its board, its number, what it has seen of the board's log, and its own entries
abbrev pub Worker : Type 0
Worker = Seated Inputs BoardCall BoardReply

-- what the lock says of a worker's call
abbrev pub IsTold : About Inputs → BoardCall → Worker → Result (ℕ × BoardReply) (CallFault BoardRefused) → Worker → Type 0
IsTold about c old result new = Tells (Opens about.object) (Answers about.object) Refuses IsOutOfMemory about.room old.number c old.seen old.mine result new.seen new.mine

-- what a worker has seen is a legal log of its board, and its own entries are all those under its number
pub record Sees (s : Inputs) (w : Worker) : Type 0 where
  pub legal : IsLegalBoard s w.seen
  pub own : w.mine ≡ entries_by w.number w.seen

-- it has finished each item that it took
abbrev pub HoldsNone : Inputs → ℕ → BoardLog → Type 0
HoldsNone s who mine = (items : List (ℕ × List ItemOf)) × (mine ≡ finished_by s who items)

-- it has finished each item that it took before this one
abbrev pub Holds : Inputs → ℕ → ℕ → BoardLog → Type 0
Holds s who item mine = (items : List (ℕ × List ItemOf)) × (parents : List ItemOf) × (mine ≡ finished_by s who items ++ entry who call.Take (reply.Item item parents) ∷ [])

-- it has finished each item that it took, and was then told that every item is out
abbrev pub IsDone : Inputs → ℕ → BoardLog → Type 0
IsDone s who mine = (items : List (ℕ × List ItemOf)) × (mine ≡ finished_by s who items ++ entry who call.Take reply.AllOut ∷ [])

-- what a worker that asks for an item is told, what it has seen then, and what is added to its own entries; without a reply it
-- has to come again
abbrev pub Asks : Inputs → ℕ → BoardLog → Option BoardReply → BoardLog → BoardLog → Type 0
Asks s who old None seen new = (new ≡ old) × (board_reply s seen who call.Take ≡ None)
Asks s who old (Some reply.AllOut) seen new = new ≡ old ++ entry who call.Take reply.AllOut ∷ []
Asks s who old (Some (reply.Item item parents)) seen new =
    (new ≡ old ++ entry who call.Take (reply.Item item parents) ∷ []) × (item < count s) × (parents ≡ parents_from s item)
Asks s who old (Some reply.Stored) seen new = ⊥
Asks s who old (Some reply.NotOut) seen new = ⊥
Asks s who old (Some reply.Stopped) seen new = ⊥

-- why a worker that asks for an item is refused memory: after what it has seen an item is there for it, or the board's log has
-- an entry in each of the places that it began with
abbrev pub LacksMemory : About Inputs → ℕ → BoardLog → Type 0
LacksMemory about who seen = TakesMemory (board_reply about.object seen who call.Take) ⊎ (about.room ≤ length seen)

-- a worker takes an item, with the outcomes of the item's distinct parents, or is told that every item is out
abbrev pub Takes : Inputs → ℕ → BoardLog → Option Task → BoardLog → Type 0
Takes s who old None new = new ≡ old ++ entry who call.Take reply.AllOut ∷ []
Takes s who old (Some task) new =
    (new ≡ old ++ entry who call.Take (reply.Item task.item task.parents) ∷ []) × (task.item < count s) × (task.parents ≡ parents_from s task.item)

-- after an item it holds none; if there was no item for it, it is done
abbrev pub IsAfter : Inputs → ℕ → Bool → BoardLog → Type 0
IsAfter s who true mine = HoldsNone s who mine
IsAfter s who false mine = IsDone s who mine

-- when a worker is refused memory: with an item in hand, or where it lacks the memory to take one
abbrev pub IsRefused : About Inputs → Inputs → ℕ → BoardLog → BoardLog → Type 0
IsRefused about s who seen mine = (HoldsNone s who mine × LacksMemory about who seen) ⊎ ((item : ℕ) × Holds s who item mine)

-- it gives up the run, unless the board's log has an entry in each of the places that it began with
abbrev pub GivesUp : About Inputs → ℕ → BoardLog → BoardLog → BoardLog → Type 0
GivesUp about who old seen new = (new ≡ old ++ entry who call.GiveUp reply.Stopped ∷ []) ⊎ ((new ≡ old) × (about.room ≤ length seen))

-- A worker that was refused memory has then given up: what it had seen when it was refused, and its own entries at that time
pub record HasGivenUp (about : About Inputs) (s : Inputs) (who : ℕ) (seen mine : BoardLog) : Type 0 where
  pub saw : BoardLog
  pub did : BoardLog
  pub later : StartsWith seen saw
  pub refused : IsRefused about s who saw did
  pub ends : GivesUp about who did seen mine
