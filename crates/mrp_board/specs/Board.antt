-- A run's board by its log: which items are handed out, and which are stored (profile).
use Rattle.std.specs.Prelude.{ℕ, ◌≡◌, ◌==◌, ◌&&◌, ◌||◌, not, Bool, true, false, if◌then◌else◌, List, [], ◌∷◌, ◌++◌, reverse, Option, Some, None, option_map, find, filter_map}
use Rattle.std.specs.List.{list_all, list_any}
use Rattle.mrp_turn.specs.declared.log.Entry.{Entry}
use Rattle.mrp_turn.specs.Log.{EachFollows, IsSeatNumber, entry}
use Rattle.mrp_bill.specs.Bill.{parents_of}
use Rattle.mrp_item.specs.Inputs.{Inputs, count, places}
use Rattle.mrp_item.specs.Made.{item_from, parents_from}
use Rattle.mrp_item.specs.Places.{ItemOf}
use Rattle.mrp_board.specs.declared.call.BoardCall.{BoardCall}
use Rattle.mrp_board.specs.declared.call.BoardCall.TheVariants as call
use Rattle.mrp_board.specs.declared.reply.BoardReply.{BoardReply}
use Rattle.mrp_board.specs.declared.reply.BoardReply.TheVariants as reply

abbrev pub BoardEntry : Type 0
BoardEntry = Entry BoardCall BoardReply

abbrev pub BoardLog : Type 0
BoardLog = List BoardEntry

abbrev pub hands_out : ℕ → BoardReply → Bool
hands_out item (reply.Item i parents) = i == item
hands_out item r = false

abbrev pub stores : ℕ → BoardCall → BoardReply → Bool
stores item (call.Finish o) reply.Stored = o.item == item
stores item c r = false

abbrev pub stops : BoardReply → Bool
stops reply.Stopped = true
stops r = false

-- an item was handed out, to any worker or to this one
abbrev pub is_out : BoardLog → ℕ → Bool
is_out log item = list_any (λ e. hands_out item e.reply) log

abbrev pub is_out_to : ℕ → BoardLog → ℕ → Bool
is_out_to who log item = list_any (λ e. (e.who == who) && hands_out item e.reply) log

-- an item's outcome is stored
abbrev pub is_stored : BoardLog → ℕ → Bool
is_stored log item = list_any (λ e. stores item e.call e.reply) log

-- an item was handed out, and is not stored
abbrev pub IsUnderWay : BoardLog → ℕ → Type 0
IsUnderWay log item = (is_out log item ≡ true) × (is_stored log item ≡ false)

-- a worker gave up the run
abbrev pub has_stopped : BoardLog → Bool
has_stopped log = list_any (λ e. stops e.reply) log

-- an item was never handed out, and all its parents are stored
abbrev pub is_ready : Inputs → BoardLog → ℕ → Bool
is_ready s log item = not (is_out log item) && list_all (is_stored log) (parents_of s.tables.bills (count s) item)

-- every item was handed out, or a worker gave up the run
abbrev pub is_at_end : Inputs → BoardLog → Bool
is_at_end s log = has_stopped log || list_all (is_out log) (places s)

-- every item is stored
abbrev pub is_finished : Inputs → BoardLog → Bool
is_finished s log = list_all (is_stored log) (places s)

-- the outcome that a call brings
abbrev pub outcome_by : BoardCall → Option ItemOf
outcome_by (call.Finish o) = Some o
outcome_by c = None

-- the stored outcome of an item
abbrev pub outcome_in : BoardLog → ℕ → Option ItemOf
outcome_in [] item = None
outcome_in (e ∷ log) item = if stores item e.call e.reply then outcome_by e.call else outcome_in log item

-- the stored outcomes of an item's distinct parents, in table order
abbrev pub parents_in : Inputs → BoardLog → ℕ → List ItemOf
parents_in s log item = filter_map (outcome_in log) (parents_of s.tables.bills (count s) item)

-- an item, with its parents' outcomes
abbrev pub handed : Inputs → BoardLog → ℕ → BoardReply
handed s log item = reply.Item item (parents_in s log item)

-- the reply to a worker after a log: the first item in table order that is ready is handed out. There is none if the
-- worker has to come again
abbrev pub board_reply : Inputs → BoardLog → ℕ → BoardCall → Option BoardReply
board_reply s log who call.Take = if is_at_end s log then Some reply.AllOut else option_map (handed s log) (find (is_ready s log) (places s))
board_reply s log who (call.Finish o) = if is_out_to who log o.item && not (is_stored log o.item) then Some reply.Stored else Some reply.NotOut
board_reply s log who call.GiveUp = Some reply.Stopped

-- a call whose outcome, if it brings one, is for these inputs
abbrev pub FitsInputs : Inputs → BoardCall → Type 0
FitsInputs s call.Take = Unit {0}
FitsInputs s (call.Finish o) = o.inputs ≡ s
FitsInputs s call.GiveUp = Unit {0}

-- an entry that may follow a log
abbrev pub MayFollowOnBoard : Inputs → BoardLog → BoardEntry → Type 0
MayFollowOnBoard s log e = IsSeatNumber e.who × (board_reply s log e.who e.call ≡ Some e.reply) × FitsInputs s e.call

-- the entries before an entry decide its reply
abbrev pub IsLegalBoard : Inputs → BoardLog → Type 0
IsLegalBoard s log = EachFollows (MayFollowOnBoard s) log

-- What a worker holds.

abbrev pub item_in : BoardReply → Option ℕ
item_in (reply.Item i parents) = Some i
item_in r = None

-- a reply that decides what its worker holds: one that is told that nothing is left, or that the item is not its own, holds
-- what it held
abbrev pub settles : BoardReply → Bool
settles reply.AllOut = false
settles reply.NotOut = false
settles r = true

-- a worker's last entry that decides it
abbrev pub settled_by : ℕ → BoardLog → Option BoardEntry
settled_by who log = find (λ e. (e.who == who) && settles e.reply) (reverse log)

abbrev pub item_of : Option BoardEntry → Option ℕ
item_of None = None
item_of (Some e) = item_in e.reply

-- the item that a worker holds: it took the item, and has neither finished it nor given up since
abbrev pub held : ℕ → BoardLog → Option ℕ
held who log = item_of (settled_by who log)

-- What a legal log says of items and their outcomes.

-- An item is handed out once, after all its parents were stored, and with their outcomes for these inputs. Its own is stored
-- once, by the worker that it was handed to, and is the item's outcome for them
pub record HandsOn (s : Inputs) (log : BoardLog) : Type 0 where
  pub once : (before after : BoardLog) (who item : ℕ) (parents : List ItemOf) → log ≡ before ++ entry who call.Take (reply.Item item parents) ∷ after → is_out before item ≡ false
  pub fed : (before after : BoardLog) (who item : ℕ) (parents : List ItemOf) → log ≡ before ++ entry who call.Take (reply.Item item parents) ∷ after
      → list_all (is_stored before) (parents_of s.tables.bills (count s) item) ≡ true
  pub given : (before after : BoardLog) (who item : ℕ) (parents : List ItemOf) → log ≡ before ++ entry who call.Take (reply.Item item parents) ∷ after → parents ≡ parents_from s item
  pub new : (before after : BoardLog) (who : ℕ) (o : ItemOf) → log ≡ before ++ entry who (call.Finish o) reply.Stored ∷ after → is_stored before o.item ≡ false
  pub taken : (before after : BoardLog) (who : ℕ) (o : ItemOf) → log ≡ before ++ entry who (call.Finish o) reply.Stored ∷ after → is_out_to who before o.item ≡ true
  pub stored : (before after : BoardLog) (who : ℕ) (o : ItemOf) → log ≡ before ++ entry who (call.Finish o) reply.Stored ∷ after → o ≡ item_from s o.item
