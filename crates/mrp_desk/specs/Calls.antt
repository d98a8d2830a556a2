-- What the contract of a desk's call says. Profile.
use Rattle.std.specs.Prelude.{◌≡◌, ◌≢◌, ℕ, ◌≤◌, ◌==◌, [], ◌∷◌, ◌++◌, Result, Ok, Err, IfOk, IfErr, OnErr, filter, length}
use Rattle.mrp_turn.specs.Lists.{StartsWith}
use Rattle.mrp_turn.specs.Log.{entry, entries_by}
use Rattle.mrp_turn.specs.Calls.{GrowsBy}
use Rattle.mrp_turn.specs.declared.turn.CallFault.{CallFault}
use Rattle.mrp_turn.specs.declared.turn.CallFault.TheVariants as fault
use Rattle.mrp_tables.specs.declared.limits.TheConstants.{MOST_ENTRIES}
use Rattle.mrp_master.specs.Supply.{Supply}
use Rattle.mrp_book.specs.declared.call.Call.{Call}
use Rattle.mrp_book.specs.declared.call.Call.TheVariants as call
use Rattle.mrp_book.specs.declared.reply.Reply.{Reply}
use Rattle.mrp_book.specs.declared.reply.Reply.TheVariants as reply
use Rattle.mrp_book.specs.declared.refused.Refused.{Refused}
use Rattle.mrp_book.specs.declared.refused.Refused.TheVariants.{Full, NoMemory}
use Rattle.mrp_book.specs.Standing.{History, standing}
use Rattle.mrp_book.specs.History.{IsFull, IsLegal, TakesMemory, state_of}
use Rattle.mrp_desk.specs.Offices.{Desk}

-- Why a call was refused, in what its desk has then seen of the history
abbrev pub HasCause : Supply → Call → History → Refused → Type 0
HasCause s c seen Full = IsFull seen
HasCause s c seen NoMemory = TakesMemory (state_of s seen) c × (¬ IsFull seen)

-- What the contract of a desk's call says of the desk, old and new
pub record Tells (s : Supply) (c : Call) (old : Desk) (result : Result (ℕ × Reply) Refused) (new : Desk) : Type 0 where
  -- it is the same desk
  pub office : new.turn ≡ old.turn
  pub desk : new.number ≡ old.number
  -- what it has seen is a legal history within the limit of a book, and begins with what it had seen before
  pub legal : IsLegal s new.seen
  pub few : length new.seen ≤ MOST_ENTRIES
  pub goes_on : StartsWith new.seen old.seen
  -- its own entries are all those of what it has seen under its number
  pub exact : new.mine ≡ entries_by old.number new.seen
  -- an answered call is the last entry that it has seen, and new; the number is that entry's
  pub last : IfOk result (λ r. GrowsBy old.seen (entry old.number c r.1) new.seen)
  pub number : IfOk result (λ r. r.0 ≡ length new.seen)
  -- its own entries have grown by this one alone
  pub added : IfOk result (λ r. new.mine ≡ old.mine ++ entry old.number c r.1 ∷ [])
  -- a refused call made no entry, and has its cause
  pub unchanged : OnErr result (new.mine ≡ old.mine)
  pub cause : IfErr result (HasCause s c new.seen)

-- What the contract of a desk's call for a snapshot says: it has the bookings that stand in all that was seen before its
-- entry, and so of the desk's own those that its own entries leave
pub record IsSnapshot (s : Supply) (old new : Desk) (answer : ℕ × Reply) : Type 0 where
  pub before : History
  pub reply : answer.1 ≡ reply.Taken (record { front = answer.0; weeks = s.weeks; standing = standing before })
  pub saw : new.seen ≡ before ++ entry old.number call.Snapshot answer.1 ∷ []
  pub goes_on : StartsWith before old.seen
  pub own : filter (λ b. b.desk == old.number) (standing before) ≡ standing old.mine

-- the book's answer, from the lock's answer to a call that had a place in the log
abbrev pub IsAnswerOf : {A E : Type 0} → Result A (CallFault E) → Result A E → Type 0
IsAnswerOf (Ok a) result = result ≡ Ok a
IsAnswerOf (Err (fault.Refused e)) result = result ≡ Err e
IsAnswerOf (Err fault.NoMemory) result = ⊥
