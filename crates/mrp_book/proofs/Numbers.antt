-- The bookings that were made, by their rising numbers.
use Rattle.std.specs.Prelude.{All, filter, find, not}
use Rattle.std.proofs.Common.{◌≡◌, ◌≢◌, ℕ, zero, suc, ◌+◌, ◌<◌, ◌≤◌, ◌==◌, inl, inr, Bool, true, false, if◌then◌else◌, List, [], ◌∷◌, ◌++◌, length, get_or, set, map, Option, Some, None, refl, sym, ap, subst, ◌∙◌, arith}
use Rattle.std.proofs.lemmas.Bool.{cases_lt, eq-eqb, ne_eqb}
use Rattle.std.proofs.lemmas.Bool.Decides.{nat_tests}
use Rattle.std.proofs.lemmas.List.{map-append}
use Rattle.std.proofs.lemmas.List.Elements.{filter-append, All-from_get_or, All-head, All-tail}
use Rattle.mrp_book.specs.declared.booking.Booking.{Booking}
use Rattle.mrp_book.specs.declared.made.Made.{Made}
use Rattle.mrp_book.specs.Made.{IsRising, standing_of}

-- a placeholder, beyond the end
abbrev pub nothing_made : Made
nothing_made = record { booking = record { number = 0; desk = 0; line = record { item = 0; week = 0; quantity = 0 } }; stands = false }

abbrev pub number_at : List Made → ℕ → ℕ
number_at made i = (get_or made i nothing_made).booking.number

-- no booking has the number
abbrev pub NoneHas : ℕ → List Made → Type 0
NoneHas n made = All (λ (m : Made). m.booking.number ≢ n) made

module _ (made : List Made) (rising : IsRising made) (n : ℕ) where
  -- numbers do not fall
  not_falling : (i j : ℕ) → i ≤ j → j < length made → number_at made i ≤ number_at made j
  not_falling i j le within = elim (cases_lt i j) [
    | inl before ↦ let h : number_at made i < number_at made j = rising i j nothing_made before within in omega arith
    | inr same ↦ let e : i ≡ j = omega arith in subst (λ (x : ℕ). number_at made i ≤ number_at made x) e (omega arith)
  ]

  -- all numbers up to a smaller one are smaller
  pub less_up_to : (place : ℕ) → place < length made → number_at made place < n → (i : ℕ) → i < place + 1 → number_at made i < n
  less_up_to place within less i before = omega (arith, not_falling i place (omega arith) within)

  -- all numbers from a greater one on are greater
  pub more_from : (place : ℕ) → n < number_at made place → (i : ℕ) → place ≤ i → i < length made → n < number_at made i
  more_from place more i after within = omega (arith, not_falling place i after within)

  -- at another place is another number
  pub others_differ : (i : ℕ) → i < length made → number_at made i ≡ n → (k : ℕ) → k < length made → k ≢ i → number_at made k ≢ n
  others_differ i inside here k within ne same = elim (cases_lt k i) [
    | inl before ↦ let h : number_at made k < number_at made i = rising k i nothing_made before inside in omega arith
    | inr after ↦ let h : number_at made i < number_at made k = rising i k nothing_made (omega arith) within in omega arith
  ]

-- where all numbers are smaller up to a place and greater from there on, none is the same
pub none_between : (made : List Made) (n place : ℕ) → ((i : ℕ) → i < place → number_at made i < n) → ((i : ℕ) → place ≤ i → i < length made → n < number_at made i) → NoneHas n made
none_between made n place less more = All-from_get_or (λ (m : Made). m.booking.number ≢ n) made nothing_made (λ i h same. elim (cases_lt i place) [
  | inl before ↦ let up : number_at made i < n = less i before in omega arith
  | inr after ↦ let up : n < number_at made i = more i (omega arith) h in omega arith
])

-- One more booking.

pub standing_of-push : (made : List Made) (b : Booking) → standing_of (made ++ record { booking = b; stands = true } ∷ []) ≡ standing_of made ++ b ∷ []
standing_of-push made b =
    ap (map (λ m. m.booking)) (filter-append (λ m. m.stands) made (record { booking = b; stands = true } ∷ []))
    ∙ map-append (λ m. m.booking) (filter (λ m. m.stands) made) (record { booking = b; stands = true } ∷ [])

pub standing_of-cons : (m : Made) (ms : List Made) (b : Bool) → m.stands ≡ b → standing_of (m ∷ ms) ≡ (if b then m.booking ∷ standing_of ms else standing_of ms)
standing_of-cons m ms b e = subst (λ (v : Bool). standing_of (m ∷ ms) ≡ (if v then m.booking ∷ standing_of ms else standing_of ms)) e (by m.stands)
  where
    by : (v : Bool) → map (λ (x : Made). x.booking) (if v then m ∷ filter (λ (x : Made). x.stands) ms else filter (λ (x : Made). x.stands) ms) ≡ (if v then m.booking ∷ standing_of ms else standing_of ms)
    by true = refl
    by false = refl

-- Bookings without a number.

abbrev pub has_number : ℕ → Booking → Bool
has_number n b = b.number == n

abbrev pub is_other : ℕ → Booking → Bool
is_other n b = not (n == b.number)

pub test_other : (a n : ℕ) → a ≢ n → not (n == a) ≡ true
test_other a n ne = grind (arith, nat_tests)

pub test_same : (a n : ℕ) → a ≡ n → not (n == a) ≡ false
test_same a n e = grind (arith, nat_tests)

find-cons : (b : Booking) (bs : List Booking) (n : ℕ) (v : Bool) → has_number n b ≡ v → find (has_number n) (b ∷ bs) ≡ (if v then Some b else find (has_number n) bs)
find-cons b bs n v e = ap (λ (x : Bool). if x then Some b else find (has_number n) bs) e

others-cons : (b : Booking) (bs : List Booking) (n : ℕ) (v : Bool) → is_other n b ≡ v → filter (is_other n) (b ∷ bs) ≡ (if v then b ∷ filter (is_other n) bs else filter (is_other n) bs)
others-cons b bs n v e = ap (λ (x : Bool). if x then b ∷ filter (is_other n) bs else filter (is_other n) bs) e

pub find-none : (made : List Made) (n : ℕ) → NoneHas n made → find (has_number n) (standing_of made) ≡ None
find-none [] n none = refl
find-none (m ∷ ms) n none = by (find-none ms n (All-tail (λ (m : Made). m.booking.number ≢ n) m ms none)) m.stands refl
  where
    by : find (has_number n) (standing_of ms) ≡ None → (v : Bool) → m.stands ≡ v → find (has_number n) (standing_of (m ∷ ms)) ≡ None
    by rest true e =
        ap (find (has_number n)) (standing_of-cons m ms true e)
        ∙ find-cons m.booking (standing_of ms) n false (ne_eqb m.booking.number n (All-head (λ (m : Made). m.booking.number ≢ n) m ms none)) ∙ rest
    by rest false e = ap (find (has_number n)) (standing_of-cons m ms false e) ∙ rest

others-none : (made : List Made) (n : ℕ) → NoneHas n made → filter (is_other n) (standing_of made) ≡ standing_of made
others-none [] n none = refl
others-none (m ∷ ms) n none = by (others-none ms n (All-tail (λ (m : Made). m.booking.number ≢ n) m ms none)) m.stands refl
  where
    by : filter (is_other n) (standing_of ms) ≡ standing_of ms → (v : Bool) → m.stands ≡ v → filter (is_other n) (standing_of (m ∷ ms)) ≡ standing_of (m ∷ ms)
    by rest true e =
        ap (filter (is_other n)) (standing_of-cons m ms true e)
        ∙ others-cons m.booking (standing_of ms) n true (test_other m.booking.number n (All-head (λ (m : Made). m.booking.number ≢ n) m ms none))
        ∙ ap (λ (x : List Booking). m.booking ∷ x) rest ∙ sym (standing_of-cons m ms true e)
    by rest false e = ap (filter (is_other n)) (standing_of-cons m ms false e) ∙ rest ∙ sym (standing_of-cons m ms false e)

-- The booking with a number, at its place.

abbrev pub OthersDiffer : ℕ → List Made → ℕ → Type 0
OthersDiffer n made i = (k : ℕ) → k < length made → k ≢ i → number_at made k ≢ n

tail-none : (m : Made) (ms : List Made) (n : ℕ) → OthersDiffer n (m ∷ ms) 0 → NoneHas n ms
tail-none m ms n others = All-from_get_or (λ (m : Made). m.booking.number ≢ n) ms nothing_made (λ i h. others (suc i) (omega arith) (omega arith))

abbrev pub standing_at : List Made → ℕ → Option Booking
standing_at made i = if (get_or made i nothing_made).stands then Some (get_or made i nothing_made).booking else None

pub find-at : (made : List Made) (n i : ℕ) → i < length made → number_at made i ≡ n → OthersDiffer n made i → find (has_number n) (standing_of made) ≡ standing_at made i
find-at [] n i inside here others = absurd (omega arith)
find-at (m ∷ ms) n zero inside here others = by m.stands refl
  where
    by : (v : Bool) → m.stands ≡ v → find (has_number n) (standing_of (m ∷ ms)) ≡ (if m.stands then Some m.booking else None)
    by true e =
        ap (find (has_number n)) (standing_of-cons m ms true e) ∙ find-cons m.booking (standing_of ms) n true (eq-eqb m.booking.number n here)
        ∙ sym (ap (λ (x : Bool). if x then Some m.booking else None) e)
    by false e =
        ap (find (has_number n)) (standing_of-cons m ms false e) ∙ find-none ms n (tail-none m ms n others)
        ∙ sym (ap (λ (x : Bool). if x then Some m.booking else None) e)
find-at (m ∷ ms) n (suc i) inside here others = by (find-at ms n i (omega arith) here (λ k h ne. others (suc k) (omega arith) (omega arith))) m.stands refl
  where
    by : find (has_number n) (standing_of ms) ≡ standing_at ms i → (v : Bool) → m.stands ≡ v → find (has_number n) (standing_of (m ∷ ms)) ≡ standing_at ms i
    by rest true e =
        ap (find (has_number n)) (standing_of-cons m ms true e) ∙ find-cons m.booking (standing_of ms) n false (ne_eqb m.booking.number n (others 0 (omega arith) (omega arith))) ∙ rest
    by rest false e = ap (find (has_number n)) (standing_of-cons m ms false e) ∙ rest

-- a booking that no longer stands
abbrev pub cancelled : Made → Made
cancelled m = record { booking = m.booking; stands = false }

pub others-at : (made : List Made) (n i : ℕ) → i < length made → number_at made i ≡ n → OthersDiffer n made i
    → filter (is_other n) (standing_of made) ≡ standing_of (set made i (cancelled (get_or made i nothing_made)))
others-at [] n i inside here others = absurd (omega arith)
others-at (m ∷ ms) n zero inside here others = by m.stands refl
  where
    by : (v : Bool) → m.stands ≡ v → filter (is_other n) (standing_of (m ∷ ms)) ≡ standing_of ms
    by true e =
        ap (filter (is_other n)) (standing_of-cons m ms true e) ∙ others-cons m.booking (standing_of ms) n false (test_same m.booking.number n here)
        ∙ others-none ms n (tail-none m ms n others)
    by false e = ap (filter (is_other n)) (standing_of-cons m ms false e) ∙ others-none ms n (tail-none m ms n others)
others-at (m ∷ ms) n (suc i) inside here others =
    by (set ms i (cancelled (get_or ms i nothing_made))) (others-at ms n i (omega arith) here (λ k h ne. others (suc k) (omega arith) (omega arith))) m.stands refl
  where
    by : (after : List Made) → filter (is_other n) (standing_of ms) ≡ standing_of after → (v : Bool) → m.stands ≡ v → filter (is_other n) (standing_of (m ∷ ms)) ≡ standing_of (m ∷ after)
    by after rest true e =
        ap (filter (is_other n)) (standing_of-cons m ms true e)
        ∙ others-cons m.booking (standing_of ms) n true (test_other m.booking.number n (others 0 (omega arith) (omega arith)))
        ∙ ap (λ (x : List Booking). m.booking ∷ x) rest ∙ sym (standing_of-cons m after true e)
    by after rest false e = ap (filter (is_other n)) (standing_of-cons m ms false e) ∙ rest ∙ sym (standing_of-cons m after false e)
