-- The rule of the table. Profile. Its word is 0 exactly where no seat holds the slot.
use Rattle.std.specs.Prelude.{◌≡◌, ◌≢◌, ℕ, ◌≤◌, ◌<◌, ◌==◌, ◌⊎◌, List, [], ◌∷◌, length, slice_index, Bool, true, false, cond, Option, Some, vec_capacity, zero, suc}
use mathlib.Core.Option.{some}
use lib.ListN.{get_elem?}
use Rattle.atomic_table.specs.Table.{State}
use Rattle.mrp_turn.specs.declared.log.Entry.{Entry}
use Rattle.mrp_turn.specs.declared.log.Held.{Held}
use Rattle.mrp_turn.specs.declared.views.About.{About}
use Rattle.mrp_turn.specs.declared.views.Account.{Account}
use Rattle.mrp_turn.specs.declared.views.LiveSeat.{LiveSeat}
use Rattle.mrp_turn.specs.declared.views.View.{View}
use Rattle.mrp_turn.specs.declared.views.View.TheVariants.{Spent, Live}
use Rattle.mrp_turn.specs.Lists.{Each, total, StartsWith}
use Rattle.mrp_turn.specs.Log.{entries_by, AreFrom, LeadsTo}

-- a seat that was not joined to another
abbrev pub live : {O C R : Type 0} → LiveSeat O C R → View O C R
live s = Live s

-- the account of a seat: its number, what it has seen, and its own entries
abbrev pub account : {C R : Type 0} → ℕ → List (Entry C R) → List (Entry C R) → Account C R
account n seen mine = record { number = n; seen = seen; mine = mine }

-- m accounts, numbered from k on, each with empty lists
abbrev pub blanks : {C R : Type 0} → ℕ → ℕ → List (Account C R)
blanks k zero = []
blanks k (suc m) = account k [] [] ∷ blanks (suc k) m

-- the accounts of one view: the seat's own, and those of the seats that were joined to it
abbrev pub accounts : {O C R : Type 0} → View O C R → List (Account C R)
accounts Spent = []
accounts (Live s) = s.own ∷ s.kept

-- 1 if the account has the number, otherwise 0
abbrev pub is_named : {C R : Type 0} → ℕ → Account C R → ℕ
is_named n p = cond (p.number == n) 1 0

-- how many accounts of the view have the number
abbrev pub names : {O C R : Type 0} → ℕ → View O C R → ℕ
names n v = total (is_named n) (accounts v)

-- whether the seat is the holder of the slot
abbrev pub is_holder : {O C R : Type 0} → View O C R → Bool
is_holder Spent = false
is_holder (Live s) = s.holds

-- what the seat has seen, and its own entries
abbrev pub seen_of : {O C R : Type 0} → View O C R → List (Entry C R)
seen_of Spent = []
seen_of (Live s) = s.own.seen

abbrev pub mine_of : {O C R : Type 0} → View O C R → List (Entry C R)
mine_of Spent = []
mine_of (Live s) = s.own.mine

-- what was seen is a prefix of the log, and the own entries are the log's entries under the number
abbrev pub IsTrueOf : {C R : Type 0} → List (Entry C R) → Account C R → Type 0
IsTrueOf log p = StartsWith log p.seen × (p.mine ≡ entries_by p.number log)

-- the view has the turn's key, and each of its accounts is true of the log
abbrev pub Knows : {O C R : Type 0} → About O → List (Entry C R) → View O C R → Type 0
Knows key log Spent = Unit {0}
Knows key log (Live s) = (s.about ≡ key) × Each (IsTrueOf log) (s.own ∷ s.kept)

-- a seat with only this account, which does not hold the slot
abbrev pub alone : {O C R : Type 0} → About O → Account C R → LiveSeat O C R
alone key own = record { about = key; own = own; kept = []; holds = false }

-- the initial seat: it is a note, and keeps the accounts of all numbers
abbrev pub starting : {O C R : Type 0} → About O → View O C R
starting key = live (record { about = key; own = account 0 [] []; kept = blanks 1 key.seats; holds = false })

-- the value has the log and the state, and as many places as were reserved
pub record Stores {O S C R : Type 0} (key : About O) (log : List (Entry C R)) (state : S) (held : Held S C R) : Type 0 where
  pub log_is : held.log.items ≡ log
  pub state_is : held.state ≡ state
  pub room : key.room ≤ vec_capacity held.log

-- the slot is at home with the log and the state, and no seat holds it
pub record Free {O S C R : Type 0} (key : About O) (log : List (Entry C R)) (state : S) (s : State (Option (Held S C R)) (View O C R)) : Type 0 where
  pub held : Held S C R
  pub at_home : get_elem? s.homes 0 ≡ some (some (Some held))
  pub stores : Stores key log state held
  pub idle : (j : ℕ) (v : View O C R) → get_elem? s.views j ≡ some v → is_holder v ≡ false

-- exactly one seat holds the slot. It is not a note, and has seen the whole log
pub record Busy {O S C R : Type 0} (log : List (Entry C R)) (s : State (Option (Held S C R)) (View O C R)) : Type 0 where
  pub holder : ℕ
  pub seat : LiveSeat O C R
  pub there : get_elem? s.views holder ≡ some (live seat)
  pub holds : seat.holds ≡ true
  pub seen : seat.own.seen ≡ log
  pub numbered : 1 ≤ seat.own.number
  pub no_other : (j : ℕ) (v : View O C R) → get_elem? s.views j ≡ some v → is_holder v ≡ true → j ≡ holder

-- Between any two steps there is a log, which is legal and leads to a state, and
pub record FollowsRule {O S C R : Type 0} (opens : O → S → Type 0) (answers : O → S → ℕ → C → R → S → Type 0) (key : About O) (s : State (Option (Held S C R)) (View O C R)) : Type 0 where
  pub log : List (Entry C R)
  pub state : S
  pub legal : LeadsTo (answers key.object) (opens key.object) log state
  -- every entry is under a number of the turn's seats
  pub numbered : AreFrom key.seats log
  pub one_word : length s.words ≡ 1
  -- what every seat has seen is a prefix of the log, and its own entries are those under its number
  pub knows : (j : ℕ) (v : View O C R) → get_elem? s.views j ≡ some v → Knows key log v
  -- each number from 1 to the count of seats is in exactly one account, and no greater number is in any
  pub once : (n : ℕ) → 1 ≤ n → n ≤ key.seats → total (names n) s.views ≡ 1
  pub no_more : (n : ℕ) → key.seats < n → total (names n) s.views ≡ 0
  -- if the word is 0 the slot is at home with the log and the state; otherwise one seat holds it
  pub word : ((slice_index s.words 0 ≡ 0) × Free key log state s) ⊎ ((slice_index s.words 0 ≢ 0) × Busy log s)
