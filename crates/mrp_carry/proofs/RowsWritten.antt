-- Rows that are written booking by booking.
use Rattle.std.proofs.Common.{◌≡◌, ◌∙◌, ℕ, suc, ◌+◌, ◌<◌, ◌≤◌, Bool, true, false, if◌then◌else◌, List, [], ◌∷◌, ◌++◌, append_assoc, length, take, get_or, Option, Some, None, ap, arith, refl, subst, sym}
use Rattle.std.specs.Prelude.{flat_map}
use Rattle.std.specs.List.{AllZip}
use Rattle.std.specs.Io.KnownBytes.{Appends}
use Rattle.std.proofs.KnownBytes.{Appends-nil, Appends-trans}
use Rattle.std.proofs.lemmas.List.{append-nil, length-take, take_more}
use Rattle.std.proofs.lemmas.List.Concat.{flat_map-append}
use Rattle.std.proofs.lemmas.List.Elements.{filter-append}
use Rattle.std.proofs.lemmas.List.Sums.{count_by-le-length, length-filter}
use Rattle.csv.specs.Writing.{text_written}
use Rattle.csv.specs.declared.writer.Writer.{Writer}
use Rattle.mrp_book.specs.declared.booking.Booking.{Booking}
use Rattle.mrp_report.specs.page.Rows.{row}
use Rattle.mrp_script.proofs.Zipped.{zip-push}
use Rattle.mrp_carry.specs.Carried.{carried, is_due_from, renumbered}
use Rattle.mrp_carry.specs.Rows.{Row, Writes}

-- one more row
pub writes-more : {A W : Type 0} (contents : W → Option (List ℕ)) (start old new : Writer W) (Is : A → Row → Type 0) (xs : List A) (x : A) (cells : Row)
    → Writes contents start old (AllZip Is xs) → Is x cells → Appends (text_written contents old) (text_written contents new) (row cells) → Writes contents start new (AllZip Is (xs ++ x ∷ []))
writes-more contents start old new Is xs x cells (rows, are, text) is more = (
  rows ++ cells ∷ [],
  zip-push Is xs rows x cells are is,
  subst (Appends (text_written contents start) (text_written contents new)) (sym (flat_map-append row rows (cells ∷ []) ∙ ap (λ (t : List ℕ). flat_map row rows ++ t) (append-nil (row cells))))
      (Appends-trans (text_written contents start) (text_written contents old) (text_written contents new) (flat_map row rows) (row cells) text more),
)

-- a booking that is carried
pub carried-more : (start k : ℕ) (bookings : List Booking) (b : Booking) → k < length bookings → b ≡ get_or bookings k b → is_due_from start b ≡ true → carried start (take (k + 1) bookings) ≡ carried start (take k bookings) ++ b ∷ []
carried-more start k bookings b within is due =
    ap (carried start) (take_more bookings k b within ∙ ap (λ (x : Booking). take k bookings ++ x ∷ []) (sym is))
    ∙ filter-append (is_due_from start) (take k bookings) (b ∷ []) ∙ rw due refl

-- and one that is not
pub carried-same : (start k : ℕ) (bookings : List Booking) (b : Booking) → k < length bookings → b ≡ get_or bookings k b → is_due_from start b ≡ false → carried start (take (k + 1) bookings) ≡ carried start (take k bookings)
carried-same start k bookings b within is before =
    ap (carried start) (take_more bookings k b within ∙ ap (λ (x : Booking). take k bookings ++ x ∷ []) (sym is))
    ∙ filter-append (is_due_from start) (take k bookings) (b ∷ []) ∙ rw before (append-nil (carried start (take k bookings)))

-- the number that the booking behind some gets
abbrev pub number_behind : ℕ → ℕ → List Booking → Booking → Option ℕ
number_behind start next before b = if is_due_from start b then Some (next + length (carried start before)) else None

renumbered-push : (start next : ℕ) (bookings : List Booking) (b : Booking) → renumbered start next (bookings ++ b ∷ []) ≡ renumbered start next bookings ++ (b, number_behind start next bookings b) ∷ []
unfolding renumbered
renumbered-push start next [] b = last (is_due_from start b)
  where
    none : next + 0 ≡ next
    none = omega arith

    row_of : Option ℕ → List (Booking × Option ℕ)
    row_of number = (b, number) ∷ []

    last : (due : Bool) → (if due then row_of (Some next) else row_of None) ≡ row_of (if due then Some (next + 0) else None)
    last true = ap (λ (n : ℕ). row_of (Some n)) (sym none)
    last false = refl
renumbered-push start next (a ∷ bookings) b = by (λ n. renumbered-push start n bookings b) (is_due_from start a) refl
  where
    up : next + 1 + length (carried start bookings) ≡ next + suc (length (carried start bookings))
    up = omega arith

    by : ((n : ℕ) → renumbered start n (bookings ++ b ∷ []) ≡ renumbered start n bookings ++ (b, number_behind start n bookings b) ∷ []) → (due : Bool) → is_due_from start a ≡ due
        → renumbered start next ((a ∷ bookings) ++ b ∷ []) ≡ renumbered start next (a ∷ bookings) ++ (b, number_behind start next (a ∷ bookings) b) ∷ []
    by more true is =
        let rest : List (Booking × Option ℕ) = renumbered start (next + 1) bookings in
        let row_of : Option ℕ → List (Booking × Option ℕ) = λ number. (b, number) ∷ [] in
        let own = more (next + 1) ∙ ap (λ (n : ℕ). rest ++ row_of (if is_due_from start b then Some n else None)) up in
        rw is (ap (λ (r : List (Booking × Option ℕ)). (a, Some next) ∷ r) own)
    by more false is = rw is (ap (λ (r : List (Booking × Option ℕ)). (a, None) ∷ r) (more next))

-- one more row of the list
pub renumbered-more : (start k : ℕ) (bookings : List Booking) (b : Booking) → k < length bookings → b ≡ get_or bookings k b
    → renumbered start 1 (take (k + 1) bookings) ≡ renumbered start 1 (take k bookings) ++ (b, number_behind start 1 (take k bookings) b) ∷ []
renumbered-more start k bookings b within is =
    ap (renumbered start 1) (take_more bookings k b within ∙ ap (λ (x : Booking). take k bookings ++ x ∷ []) (sym is)) ∙ renumbered-push start 1 (take k bookings) b

-- three more cells
pub three-more : {A : Type 0} (old one two three : List A) (x y z : A) → one ≡ old ++ x ∷ [] → two ≡ one ++ y ∷ [] → three ≡ two ++ z ∷ [] → three ≡ old ++ x ∷ y ∷ z ∷ []
three-more {A} old one two three x y z first second third =
    let back : two ≡ (old ++ x ∷ []) ++ y ∷ [] = second ∙ ap (λ (t : List A). t ++ y ∷ []) first in
    third ∙ ap (λ (t : List A). t ++ z ∷ []) back ∙ append_assoc (old ++ x ∷ []) (y ∷ []) (z ∷ []) ∙ append_assoc old (x ∷ []) (y ∷ z ∷ [])

-- no row yet
pub writes-none : {A W : Type 0} (contents : W → Option (List ℕ)) (w : Writer W) (Is : A → Row → Type 0) → Writes contents w w (AllZip Is [])
writes-none contents w Is = ([], tt, Appends-nil (text_written contents w))

pub renumbered-none : (start next : ℕ) → renumbered start next [] ≡ []
unfolding renumbered
renumbered-none start next = refl

-- no more are carried than there are
pub carried-few : (start k : ℕ) (bookings : List Booking) → length (carried start (take k bookings)) ≤ k
carried-few start k bookings = omega (arith, length-filter (is_due_from start) (take k bookings), count_by-le-length (is_due_from start) (take k bookings), length-take k bookings)
