-- A run's board by the state that its log leaves (profile).
use Rattle.std.specs.Prelude.{ℕ, ◌≡◌, ◌==◌, ◌&&◌, ◌||◌, not, Bool, false, is_some, if◌then◌else◌, List, length, map, replicate, set, Option, Some, None, option_map, find, filter_map}
use Rattle.std.specs.List.{list_all, slice_index_or}
use Rattle.mrp_bill.specs.Bill.{parents_of}
use Rattle.mrp_item.specs.Inputs.{Inputs, count, places}
use Rattle.mrp_item.specs.Made.{item_from}
use Rattle.mrp_item.specs.Places.{ItemOf}
use Rattle.mrp_board.specs.declared.call.BoardCall.{BoardCall}
use Rattle.mrp_board.specs.declared.call.BoardCall.TheVariants as call
use Rattle.mrp_board.specs.declared.reply.BoardReply.{BoardReply}
use Rattle.mrp_board.specs.declared.reply.BoardReply.TheVariants as reply
use Rattle.mrp_board.specs.Board.{BoardLog, has_stopped, hands_out, outcome_in, stops}

-- what a run plans from; for each item, the worker that it was handed out to, and its stored outcome, if any; and whether a
-- worker gave up the run
pub record BoardState : Type 0 where
  pub inputs : Inputs
  pub out : List (Option ℕ)
  pub outcomes : List (Option ItemOf)
  pub stopped : Bool

-- the state in which a board opens
abbrev pub new_board : Inputs → BoardState
new_board s = record { inputs = s; out = replicate (count s) None; outcomes = replicate (count s) None; stopped = false }

abbrev pub worker_of : BoardState → ℕ → Option ℕ
worker_of b item = slice_index_or b.out item None

abbrev pub outcome_at : BoardState → ℕ → Option ItemOf
outcome_at b item = slice_index_or b.outcomes item None

abbrev pub has_stored : BoardState → ℕ → Bool
has_stored b item = is_some (outcome_at b item)

abbrev pub is_worker : ℕ → Option ℕ → Bool
is_worker who None = false
is_worker who (Some worker) = worker == who

abbrev pub parents_at : BoardState → ℕ → List ℕ
parents_at b item = parents_of b.inputs.tables.bills (count b.inputs) item

-- an item was never handed out, and all its parents are stored
abbrev pub can_go_out : BoardState → ℕ → Bool
can_go_out b item = not (is_some (worker_of b item)) && list_all (has_stored b) (parents_at b item)

-- every item was handed out, or a worker gave up the run
abbrev pub has_ended : BoardState → Bool
has_ended b = b.stopped || list_all (λ item. is_some (worker_of b item)) (places b.inputs)

-- an item, with its parents' outcomes
abbrev pub handed_at : BoardState → ℕ → BoardReply
handed_at b item = reply.Item item (filter_map (outcome_at b) (parents_at b item))

-- the reply to a worker in a state; there is none if the worker has to come again
abbrev pub board_reply_in : BoardState → ℕ → BoardCall → Option BoardReply
board_reply_in b who call.Take = if has_ended b then Some reply.AllOut else option_map (handed_at b) (find (can_go_out b) (places b.inputs))
board_reply_in b who (call.Finish o) = if is_worker who (worker_of b o.item) && not (has_stored b o.item) then Some reply.Stored else Some reply.NotOut
board_reply_in b who call.GiveUp = Some reply.Stopped

abbrev pub out_after : List (Option ℕ) → ℕ → BoardReply → List (Option ℕ)
out_after out who (reply.Item item parents) = set out item (Some who)
out_after out who r = out

abbrev pub outcomes_after : List (Option ItemOf) → BoardCall → BoardReply → List (Option ItemOf)
outcomes_after outcomes (call.Finish o) reply.Stored = set outcomes o.item (Some o)
outcomes_after outcomes c r = outcomes

-- the state that an entry leaves
abbrev pub state_after : BoardState → ℕ → BoardCall → BoardReply → BoardState
state_after b who c r = record { inputs = b.inputs; out = out_after b.out who r; outcomes = outcomes_after b.outcomes c r; stopped = b.stopped || stops r }

-- the worker that an item was handed out to, if any
abbrev pub taker : BoardLog → ℕ → Option ℕ
taker log item = option_map (λ e. e.who) (find (λ e. hands_out item e.reply) log)

-- the state that a log leaves
abbrev pub state_of : Inputs → BoardLog → BoardState
state_of s log = record { inputs = s; out = map (taker log) (places s); outcomes = map (outcome_in log) (places s); stopped = has_stopped log }

-- there is a place for each item, and each outcome is that of its item
pub record AreOwn (s : Inputs) (outcomes : List (Option ItemOf)) : Type 0 where
  pub size : length outcomes ≡ count s
  pub own : (i : ℕ) (o : ItemOf) → slice_index_or outcomes i None ≡ Some o → o ≡ item_from s i
