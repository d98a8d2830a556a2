-- What each step's contract says. Profile: of the step, the seat before, the number found and the seat after; and how
-- views are split and joined.
use Rattle.std.specs.Prelude.{◌≡◌, ◌≢◌, ℕ, ◌≤◌, List, [], ◌∷◌, ◌++◌, Option, Some, None, vec_capacity, true, false}
use Rattle.atomic_table.specs.Table.{Me, Step}
use Rattle.mrp_turn.specs.declared.log.Entry.{Entry}
use Rattle.mrp_turn.specs.declared.log.Held.{Held}
use Rattle.mrp_turn.specs.declared.views.About.{About}
use Rattle.mrp_turn.specs.declared.views.Account.{Account}
use Rattle.mrp_turn.specs.declared.views.LiveSeat.{LiveSeat}
use Rattle.mrp_turn.specs.declared.views.View.{View}
use Rattle.mrp_turn.specs.declared.views.View.TheVariants.{Spent, Live}
use Rattle.mrp_turn.specs.Lists.{Each, total}
use Rattle.mrp_turn.specs.Log.{entries_by, AreFrom, LeadsTo, IsLegal}
use Rattle.mrp_turn.specs.Rule.{live, account, alone, is_named, IsTrueOf}

-- the list without its first element
abbrev pub behind_first : {X : Type 0} → List X → List X
behind_first [] = []
behind_first (p ∷ ps) = ps

module _ {O C R : Type 0} where
  -- the seat that holds the slot has seen the log
  abbrev pub holding : LiveSeat O C R → List (Entry C R) → LiveSeat O C R
  holding s log = record s { own = account s.own.number log s.own.mine; holds = true }

  -- the seat has an account of each number
  abbrev pub Covers : LiveSeat O C R → Type 0
  Covers s = (n : ℕ) → 1 ≤ n → n ≤ s.about.seats → 1 ≤ total (is_named n) (s.own ∷ s.kept)

  -- the seat after a give that leaves this log
  abbrev pub given : LiveSeat O C R → List (Entry C R) → LiveSeat O C R
  given s log = alone s.about (account s.own.number log (entries_by s.own.number log))

  -- the first of these accounts, as a seat
  abbrev pub first_seat : About O → List (Account C R) → View O C R
  first_seat key [] = Spent
  first_seat key (p ∷ ps) = live (alone key p)

  -- the first of the accounts that a seat keeps is split off, as a seat of its own
  abbrev pub cut_left : View O C R → View O C R
  cut_left Spent = Spent
  cut_left (Live s) = live (record s { kept = behind_first s.kept })

  abbrev pub cut_right : View O C R → View O C R
  cut_right Spent = Spent
  cut_right (Live s) = first_seat s.about s.kept

  -- a note has no number, and has seen what the seat has
  abbrev pub noted : View O C R → View O C R
  noted Spent = Spent
  noted (Live s) = live (alone s.about (account 0 s.own.seen []))

  -- one seat joins the other to itself, and keeps its accounts
  abbrev pub joined : View O C R → View O C R → View O C R
  joined Spent w = w
  joined (Live s) Spent = live s
  joined (Live s) (Live t) = live (record s { kept = s.kept ++ t.own ∷ t.kept })

-- the value in the slot has this log, which is legal and leads to its state, and the seat's lists fit it
pub record Opens {O S C R : Type 0} (opens : O → S → Type 0) (answers : O → S → ℕ → C → R → S → Type 0) (s : LiveSeat O C R) (held : Held S C R) (log : List (Entry C R)) : Type 0 where
  pub log_is : held.log.items ≡ log
  pub legal : LeadsTo (answers s.about.object) (opens s.about.object) log held.state
  pub room : s.about.room ≤ vec_capacity held.log
  pub numbered : AreFrom s.about.seats log
  pub seen : Each (IsTrueOf log) (s.own ∷ s.kept)

module _ {O S C R : Type 0} (opens : O → S → Type 0) (answers : O → S → ℕ → C → R → S → Type 0) where
  -- the seat has taken the slot, with the value in it
  abbrev pub Won : LiveSeat O C R → List (ℕ × Option (Held S C R)) → Me (Option (Held S C R)) (View O C R) → Type 0
  Won s c n = (held : Held S C R) × (log : List (Entry C R)) × (n ≡ (live (holding s log), (0, Some held) ∷ c)) × Opens opens answers s held log

  -- a take: it wins if it finds 0; otherwise the seat is unchanged, and lacks the holder's number
  abbrev pub TookFrom : View O C R → List (ℕ × Option (Held S C R)) → ℕ → Me (Option (Held S C R)) (View O C R) → Type 0
  TookFrom Spent c found n = Unit {0}
  TookFrom (Live s) c found n = (found ≡ 0 → Won s c n) × (found ≢ 0 → (n ≡ (live s, c)) × ¬ Covers s)

  abbrev pub took : Step (Option (Held S C R)) → Me (Option (Held S C R)) (View O C R) → ℕ → Me (Option (Held S C R)) (View O C R) → Type 0
  took st m found n = TookFrom m.0 m.1 found n

module _ {O S C R : Type 0} where
  -- a give: the seat has seen the log that it gave back, and keeps no notes
  abbrev pub GaveThis : LiveSeat O C R → Option (Held S C R) → Me (Option (Held S C R)) (View O C R) → Type 0
  GaveThis s None n = Unit {0}
  GaveThis s (Some held) n = n ≡ (live (given s held.log.items), [])

  abbrev pub GaveFrom : View O C R → List (ℕ × Option (Held S C R)) → Me (Option (Held S C R)) (View O C R) → Type 0
  GaveFrom Spent c n = Unit {0}
  GaveFrom (Live s) [] n = Unit {0}
  GaveFrom (Live s) (x ∷ c) n = GaveThis s x.1 n

  abbrev pub gave : Step (Option (Held S C R)) → Me (Option (Held S C R)) (View O C R) → ℕ → Me (Option (Held S C R)) (View O C R) → Type 0
  gave st m r n = GaveFrom m.0 m.1 n

-- a seat that holds nothing, and is not a note
pub record IsIdle {O S C R : Type 0} (key : About O) (m : Me (Option (Held S C R)) (View O C R)) : Type 0 where
  pub seat : LiveSeat O C R
  pub is : m ≡ (live seat, [])
  pub rests : seat.holds ≡ false
  pub about : seat.about ≡ key
  pub numbered : 1 ≤ seat.own.number

-- the seat holds the empty slot, and may put this value into it and give it back
pub record MayGive {O S C R : Type 0} (opens : O → S → Type 0) (answers : O → S → ℕ → C → R → S → Type 0) (s : LiveSeat O C R) (held : Held S C R) : Type 0 where
  pub holds : s.holds ≡ true
  pub added : List (Entry C R)
  pub goes_on : held.log.items ≡ s.own.seen ++ added
  pub own : Each (λ e. e.who ≡ s.own.number) added
  pub notes : Each (λ p. p.number ≡ 0) s.kept
  pub legal : LeadsTo (answers s.about.object) (opens s.about.object) held.log.items held.state
  pub room : s.about.room ≤ vec_capacity held.log

module _ {O S C R : Type 0} (opens : O → S → Type 0) (answers : O → S → ℕ → C → R → S → Type 0) where
  -- the seat has taken the slot, and the value out of it
  abbrev pub Taken : Me (Option (Held S C R)) (View O C R) → Held S C R → Me (Option (Held S C R)) (View O C R) → Type 0
  Taken m held n = (s : LiveSeat O C R) → m ≡ (live s, []) → (log : List (Entry C R)) × (n ≡ (live (holding s log), (0, None) ∷ [])) × Opens opens answers s held log

  -- the seat has not taken the slot
  abbrev pub Lost : Me (Option (Held S C R)) (View O C R) → Me (Option (Held S C R)) (View O C R) → Type 0
  Lost m n = (n ≡ m) × ((s : LiveSeat O C R) → m ≡ (live s, []) → ¬ Covers s)

  -- the seat at the table holds the empty slot, and may give this value back
  abbrev pub MayGiveFrom : Me (Option (Held S C R)) (View O C R) → Held S C R → Type 0
  MayGiveFrom m held = (s : LiveSeat O C R) × (m ≡ (live s, (0, None) ∷ [])) × MayGive opens answers s held

module _ {O S C R : Type 0} where
  -- the seat has given back the slot with this value
  abbrev pub GivenFrom : Me (Option (Held S C R)) (View O C R) → Held S C R → Me (Option (Held S C R)) (View O C R) → Type 0
  GivenFrom m held n = (s : LiveSeat O C R) → m ≡ (live s, (0, None) ∷ []) → n ≡ (live (given s held.log.items), [])

module _ {O S C R : Type 0} (opens : O → S → Type 0) (answers : O → S → ℕ → C → R → S → Type 0) where
  -- there is a legal log that all the seat's accounts are true of
  abbrev pub Looks : View O C R → Type 0
  Looks Spent = Unit {0}
  Looks (Live s) = (log : List (Entry C R)) × IsLegal (answers s.about.object) (opens s.about.object) log × AreFrom s.about.seats log × Each (IsTrueOf log) (s.own ∷ s.kept)

  -- a look: the seat is unchanged, and its view meets the rule
  abbrev pub looked : Step (Option (Held S C R)) → Me (Option (Held S C R)) (View O C R) → ℕ → Me (Option (Held S C R)) (View O C R) → Type 0
  looked st m r n = (n ≡ m) × Looks m.0
