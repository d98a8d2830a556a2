-- The standing bookings of an item in two snapshots.
use Rattle.std.proofs.Common.{◌≡◌, ◌≢◌, ◌∙◌, ℕ, Bool, true, false, List, ap, sym, subst}
use Rattle.std.specs.Prelude.{All, MatchBool}
use Rattle.std.specs.Int.{IsInRange}
use Rattle.mrp_master.specs.Supply.{supply_of}
use Rattle.mrp_book.specs.Booked.{AreBooked}
use Rattle.mrp_item.specs.declared.due.Due.{Due}
use Rattle.mrp_item.specs.Dues.{booking_dues, due_sum}
use Rattle.mrp_item.specs.Inputs.{Inputs, horizon}
use Rattle.mrp_item.specs.NetChange.{IsRebooked}
use Rattle.mrp_item.specs.Rows.{booked}
use Rattle.mrp_item.proofs.DueRows.{bookings-within, due_sum-bookings}

pub bookings-fit : (s : Inputs) (i : ℕ) (dues : List Due) (weeks : ℕ) → horizon s ≡ weeks → dues ≡ booking_dues s.standing i → AreBooked (supply_of s.tables) s.standing → All (λ (d : Due). IsInRange 1 weeks d.week) dues
bookings-fit s i dues weeks long are is =
    subst (λ (n : ℕ). All (λ (d : Due). IsInRange 1 n d.week) dues) long (subst (λ (xs : List Due). All (λ (d : Due). IsInRange 1 (horizon s) d.week) xs) (sym are) (bookings-within s i is))

-- what is due by the bookings of a week is booked in it
booked-is : (s : Inputs) (i : ℕ) (dues : List Due) (week : ℕ) → dues ≡ booking_dues s.standing i → due_sum dues week ≡ booked s i week
booked-is s i dues week are = ap (λ (xs : List Due). due_sum xs week) are ∙ due_sum-bookings s i week

abbrev Differs : ℕ → List Due → List Due → Bool → Type 0
Differs weeks one other b =
    MatchBool b ((week : ℕ) × IsInRange 1 weeks week × (due_sum one week ≢ due_sum other week)) ((week : ℕ) → IsInRange 1 weeks week → due_sum one week ≡ due_sum other week)

pub rebooked-from : (old new : Inputs) (i weeks : ℕ) (one other : List Due) → weeks ≡ horizon new → one ≡ booking_dues old.standing i → other ≡ booking_dues new.standing i
    → (b : Bool) → Differs weeks one other b → MatchBool b (IsRebooked old new i) ((week : ℕ) → IsInRange 1 (horizon new) week → booked old i week ≡ booked new i week)
rebooked-from old new i weeks one other long these those true (week, within, differ) =
    (week, subst (λ (n : ℕ). IsInRange 1 n week) long within, λ same. differ (booked-is old i one week these ∙ same ∙ sym (booked-is new i other week those)))
rebooked-from old new i weeks one other long these those false agree =
    λ week within. sym (booked-is old i one week these) ∙ agree week (subst (λ (n : ℕ). IsInRange 1 n week) (sym long) within) ∙ booked-is new i other week those
