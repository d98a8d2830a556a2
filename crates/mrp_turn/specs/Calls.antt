-- What a call's contract says. Profile.
use Rattle.std.specs.Prelude.{◌≡◌, ℕ, ◌≤◌, ◌⊎◌, List, [], ◌∷◌, ◌++◌, length, Option, Result, IfOk, IfErr, OnErr, false}
use Rattle.atomic_table.specs.Table.{Me}
use Rattle.mrp_turn.specs.declared.views.View.{View}
use Rattle.mrp_turn.specs.declared.log.Held.{Held}
use Rattle.mrp_turn.specs.declared.views.About.{About}
use Rattle.mrp_turn.specs.declared.views.LiveSeat.{LiveSeat}
use Rattle.mrp_turn.specs.Rule.{live, account, alone}
use Rattle.mrp_turn.specs.declared.log.Entry.{Entry}
use Rattle.mrp_turn.specs.declared.turn.CallFault.{CallFault}
use Rattle.mrp_turn.specs.declared.turn.CallFault.TheVariants.{NoMemory, Refused}
use Rattle.mrp_turn.specs.Lists.{Each, StartsWith, Has}
use Rattle.mrp_turn.specs.Log.{entry, entries_by, LeadsTo, IsLegal}
use Rattle.mrp_turn.specs.Seen.{Seated}

module _ {C R : Type 0} where
  -- the new list ends with the entry, and all that was in the old one comes before it
  abbrev pub GrowsBy : List (Entry C R) → Entry C R → List (Entry C R) → Type 0
  GrowsBy old e new = (before : List (Entry C R)) × (new ≡ before ++ e ∷ []) × StartsWith before old

-- why a call made no entry in a log with so many places and entries: there was no place, or the object refused
abbrev pub Explains : {E : Type 0} → (E → Type 0) → (E → Type 0) → ℕ → ℕ → CallFault E → Type 0
Explains refuses out_of_memory capacity len NoMemory = capacity ≤ len
Explains refuses out_of_memory capacity len (Refused e) = out_of_memory e ⊎ refuses e

module _ {S C R E : Type 0} (opens : S → Type 0) (answers : S → ℕ → C → R → S → Type 0) (refuses out_of_memory : S → ℕ → C → E → Type 0) where
  -- The log has an entry in each of the places that it began with; or, in a state that the log leads to, the object is out
  -- of memory for this call, or refuses it
  abbrev pub HasCause : ℕ → ℕ → C → List (Entry C R) → CallFault E → Type 0
  HasCause room who call seen NoMemory = room ≤ length seen
  HasCause room who call seen (Refused e) = (s : S) × LeadsTo answers opens seen s × (out_of_memory s who call e ⊎ refuses s who call e)

-- What a call's contract says of what its seat has seen, and of its own entries, old and new
pub record Tells {S C R E : Type 0} (opens : S → Type 0) (answers : S → ℕ → C → R → S → Type 0) (refuses out_of_memory : S → ℕ → C → E → Type 0) (room who : ℕ) (call : C)
    (seen mine : List (Entry C R)) (result : Result (ℕ × R) (CallFault E)) (seen' mine' : List (Entry C R)) : Type 0 where
  -- what the seat has seen is a legal log, and begins with what it had seen before
  pub legal : IsLegal answers opens seen'
  pub goes_on : StartsWith seen' seen
  -- its own entries are all those of what it has seen under its number
  pub exact : mine' ≡ entries_by who seen'
  -- an answered call is the last entry that the seat has seen, and new; the number is that entry's
  pub last : IfOk result (λ r. GrowsBy seen (entry who call r.1) seen')
  pub number : IfOk result (λ r. r.0 ≡ length seen')
  -- its own entries have grown by this one alone
  pub added : IfOk result (λ r. mine' ≡ mine ++ entry who call r.1 ∷ [])
  -- a refused call made no entry, and the cause holds in what the seat has seen
  pub unchanged : OnErr result (mine' ≡ mine)
  pub cause : IfErr result (HasCause opens answers refuses out_of_memory room who call seen')

-- an idle seat that is not a note, and has the accounts of all of these seats
pub record StandsFor {O S C R : Type 0} (key : About O) (seats : List (Seated O C R)) (m : Me (Option (Held S C R)) (View O C R)) : Type 0 where
  pub seat : LiveSeat O C R
  pub is : m ≡ (live seat, [])
  pub rests : seat.holds ≡ false
  pub about : seat.about ≡ key
  pub numbered : 1 ≤ seat.own.number
  pub all : Each (λ x. Has (seat.own ∷ seat.kept) (account x.number x.seen x.mine)) seats

-- an idle seat with this number, which keeps only notes
pub record IsAt {O S C R : Type 0} (key : About O) (n : ℕ) (m : Me (Option (Held S C R)) (View O C R)) : Type 0 where
  pub seat : LiveSeat O C R
  pub is : m ≡ (live seat, [])
  pub rests : seat.holds ≡ false
  pub about : seat.about ≡ key
  pub number : seat.own.number ≡ n
  pub notes : Each (λ p. p.number ≡ 0) seat.kept

module _ {O S C R E : Type 0} (opens : O → S → Type 0) (answers : O → S → ℕ → C → R → S → Type 0) (refuses out_of_memory : O → S → ℕ → C → E → Type 0) where
  -- the same, of the seat at the table: it then keeps no note, and has seen what its notes have
  abbrev pub RunTells : C → Me (Option (Held S C R)) (View O C R) → Result (ℕ × R) (CallFault E) → Me (Option (Held S C R)) (View O C R) → Type 0
  RunTells call m result n = (s : LiveSeat O C R) → m ≡ (live s, []) → (seen : List (Entry C R)) × (mine : List (Entry C R))
      × (n ≡ (live (alone s.about (account s.own.number seen mine)), []))
      × Tells (opens s.about.object) (answers s.about.object) (refuses s.about.object) (out_of_memory s.about.object) s.about.room s.own.number call s.own.seen s.own.mine result seen mine
      × Each (λ p. StartsWith seen p.seen) s.kept

  -- the same, of a seat as contracts see it
  abbrev pub SeatTells : About O → C → Seated O C R → Result (ℕ × R) (CallFault E) → Seated O C R → Type 0
  SeatTells about call old result new = Tells (opens about.object) (answers about.object) (refuses about.object) (out_of_memory about.object) about.room old.number call old.seen old.mine result new.seen new.mine
