-- The bookings made, as bookings and flags.
use Rattle.std.specs.Prelude.{filter}
use Rattle.std.proofs.Common.{◌≡◌, ℕ, zero, suc, ◌<◌, Bool, true, false, List, [], ◌∷◌, ◌++◌, length, get_or, set, replicate, refl, ap, arith}
use Rattle.mrp_book.specs.declared.booking.Booking.{Booking}
use Rattle.mrp_book.specs.declared.made.Made.{Made}
use Rattle.mrp_book.specs.Made.{made_of, standing_of}

pub length-made_of : (bs : List Booking) (ss : List Bool) → length ss ≡ length bs → length (made_of bs ss) ≡ length ss
length-made_of [] [] same = refl
length-made_of [] (s ∷ ss) same = absurd (omega arith)
length-made_of (b ∷ bs) [] same = absurd (omega arith)
length-made_of (b ∷ bs) (s ∷ ss) same = ap suc (length-made_of bs ss (omega arith))

-- the booking at a place
pub at_made : (bs : List Booking) (ss : List Bool) (i : ℕ) (d : Made) → length ss ≡ length bs → i < length ss
    → get_or (made_of bs ss) i d ≡ record { booking = get_or bs i d.booking; stands = get_or ss i d.stands }
at_made [] ss i d same within = absurd (omega arith)
at_made (b ∷ bs) [] i d same within = absurd (omega arith)
at_made (b ∷ bs) (s ∷ ss) zero d same within = refl
at_made (b ∷ bs) (s ∷ ss) (suc i) d same within = at_made bs ss i d (omega arith) (omega arith)

-- one more
pub made_of-push : (bs : List Booking) (ss : List Bool) (b : Booking) (s : Bool) → length ss ≡ length bs
    → made_of (bs ++ b ∷ []) (ss ++ s ∷ []) ≡ made_of bs ss ++ record { booking = b; stands = s } ∷ []
made_of-push [] [] b s same = refl
made_of-push [] (t ∷ ss) b s same = absurd (omega arith)
made_of-push (c ∷ bs) [] b s same = absurd (omega arith)
made_of-push (c ∷ bs) (t ∷ ss) b s same = ap (λ (ms : List Made). record { booking = c; stands = t } ∷ ms) (made_of-push bs ss b s (omega arith))

-- another flag
pub made_of-set : (bs : List Booking) (ss : List Bool) (i : ℕ) (s : Bool) (d : Booking) → length ss ≡ length bs → i < length ss
    → made_of bs (set ss i s) ≡ set (made_of bs ss) i (record { booking = get_or bs i d; stands = s })
made_of-set [] ss i s d same within = absurd (omega arith)
made_of-set (b ∷ bs) [] i s d same within = absurd (omega arith)
made_of-set (b ∷ bs) (t ∷ ss) zero s d same within = refl
made_of-set (b ∷ bs) (t ∷ ss) (suc i) s d same within = ap (λ (ms : List Made). record { booking = b; stands = t } ∷ ms) (made_of-set bs ss i s d (omega arith) (omega arith))

-- all stand
pub standing_of-all : (bs : List Booking) → standing_of (made_of bs (replicate (length bs) true)) ≡ bs
standing_of-all [] = refl
standing_of-all (b ∷ bs) = ap (λ (x : List Booking). b ∷ x) (standing_of-all bs)

-- as many stand as flags are set
pub length-standing : (bs : List Booking) (ss : List Bool) → length ss ≡ length bs → length (filter (λ (s : Bool). s) ss) ≡ length (standing_of (made_of bs ss))
length-standing [] [] same = refl
length-standing [] (s ∷ ss) same = absurd (omega arith)
length-standing (b ∷ bs) [] same = absurd (omega arith)
length-standing (b ∷ bs) (true ∷ ss) same = ap suc (length-standing bs ss (omega arith))
length-standing (b ∷ bs) (false ∷ ss) same = length-standing bs ss (omega arith)
