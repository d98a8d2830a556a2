-- What contracts see of a turn and of a seat. Profile.
use Rattle.std.specs.Prelude.{◌≡◌, ℕ, List, [], Contains}
use Rattle.atomic_table.specs.Seated.{TableId}
use Rattle.mrp_turn.specs.declared.log.Entry.{Entry}
use Rattle.mrp_turn.specs.declared.views.About.{About}

-- which turn it is: its table, and what it was made with
pub record TurnId (O : Type 0) : Type 0 where
  pub table : TableId
  pub about : About O

-- a seat: its turn, its number, what it has seen of the log, and its own entries
pub record Seated (O C R : Type 0) : Type 0 where
  pub turn : TurnId O
  pub number : ℕ
  pub seen : List (Entry C R)
  pub mine : List (Entry C R)

-- a seat that has seen and called nothing
abbrev pub newcomer : {O C R : Type 0} → TurnId O → ℕ → Seated O C R
newcomer turn n = record { turn = turn; number = n; seen = []; mine = [] }

-- one of the seats has this number
abbrev pub HasNumber : {O C R : Type 0} → List (Seated O C R) → ℕ → Type 0
HasNumber {O} {C} {R} seats n = (s : Seated O C R) × Contains seats s × (s.number ≡ n)
