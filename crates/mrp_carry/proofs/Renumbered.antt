-- The numbers that bookings get.
use Rattle.std.specs.Prelude.{flat_map, map}
use Rattle.std.specs.List.{enumerate_from}
use Rattle.std.proofs.Common.{◌≡◌, ℕ, ◌+◌, Bool, true, false, List, [], ◌∷◌, Option, ap, refl}
use Rattle.mrp_book.specs.declared.booking.Booking.{Booking}
use Rattle.mrp_carry.specs.Carried.{carried, is_due_from, renumbered}
use Rattle.mrp_carry.specs.Periods.{numbered}

-- each booking stands once
pub renumbered-all : (start next : ℕ) (bookings : List Booking) → map (λ (r : Booking × Option ℕ). r.0) (renumbered start next bookings) ≡ bookings
unfolding renumbered
renumbered-all start next [] = refl
renumbered-all start next (b ∷ bookings) = by (λ n. renumbered-all start n bookings) (is_due_from start b) refl
  where
    by : ((n : ℕ) → map (λ (r : Booking × Option ℕ). r.0) (renumbered start n bookings) ≡ bookings) → (due : Bool) → is_due_from start b ≡ due → map (λ (r : Booking × Option ℕ). r.0) (renumbered start next (b ∷ bookings)) ≡ b ∷ bookings
    by rest true is = rw is (ap (λ (x : List Booking). b ∷ x) (rest (next + 1)))
    by rest false is = rw is (ap (λ (x : List Booking). b ∷ x) (rest next))

-- those that get a number are those that are carried
pub renumbered-carried : (start next : ℕ) (bookings : List Booking) → flat_map numbered (renumbered start next bookings) ≡ enumerate_from next (carried start bookings)
unfolding renumbered
renumbered-carried start next [] = refl
renumbered-carried start next (b ∷ bookings) = by (λ n. renumbered-carried start n bookings) (is_due_from start b) refl
  where
    by : ((n : ℕ) → flat_map numbered (renumbered start n bookings) ≡ enumerate_from n (carried start bookings)) → (due : Bool) → is_due_from start b ≡ due → flat_map numbered (renumbered start next (b ∷ bookings)) ≡ enumerate_from next (carried start (b ∷ bookings))
    by rest true is = rw is (ap (λ (x : List (ℕ × Booking)). (next, b) ∷ x) (rest (next + 1)))
    by rest false is = rw is (rest next)
