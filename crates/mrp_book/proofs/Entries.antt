-- What an entry changes in a state.
use Rattle.std.specs.Prelude.{All, filter, find, is_some}
use Rattle.std.specs.List.{HoldsAt}
use Rattle.std.specs.Option.{option_map}
use Rattle.std.proofs.Common.{◌≡◌, ◌≢◌, ℕ, zero, suc, ◌+◌, ◌<◌, ◌≤◌, inl, inr, Bool, true, false, if◌then◌else◌, List, [], ◌∷◌, ◌++◌, length, get_or, set, Option, Some, None, refl, sym, ap, subst, ◌∙◌, arith}
use Rattle.std.proofs.lemmas.Bool.{cases_eq, cases_lt}
use Rattle.std.proofs.lemmas.List.{append-nil, get_or_default, get_or_past, get_or_push, get_or_append_left, get_or-set_other, get_or-set_same, length-set, length_push, map-append}
use Rattle.std.proofs.lemmas.List.Elements.{All-filter, All-get_or, All-head, All-map, All-push, All-set, All-tail, All-weaker}
use Rattle.std.proofs.lemmas.List.Kept.{AllPairs-filter}
use Rattle.std.proofs.lemmas.List.Quantifiers.{all_pairs_push}
use Rattle.mrp_master.specs.declared.line.Line.{Line}
use Rattle.mrp_master.specs.Lines.{IsLine}
use Rattle.mrp_master.specs.Supply.{Supply, CanPromise, IsCovered, IsMaster, line}
use Rattle.mrp_master.specs.AtpRow.{AtpRow, IsCoveredRow, IsWeekOf, atp_row, due_in, with_booking, without_booking}
use Rattle.mrp_phase.specs.Weeks.{in_week}
use Rattle.mrp_book.specs.declared.booking.Booking.{Booking}
use Rattle.mrp_book.specs.declared.made.Made.{Made}
use Rattle.mrp_book.specs.Booked.{AreBooked}
use Rattle.mrp_book.specs.Bookings.{AreRising, lines_of}
use Rattle.mrp_book.specs.Made.{HasRows, IsRising, KeepsState, standing_of}
use Rattle.mrp_master.specs.AtpRow.{FromFirst}
use Rattle.mrp_master.proofs.ItemRows.{booked_at_least, due_in-cons, part, row_fits, row_same_with, row_same_without, row_with, row_without, week_of_row}
use Rattle.mrp_master.proofs.Promises.{promise_fits}
use Rattle.mrp_book.proofs.Numbers.{cancelled, find-at, has_number, is_other, nothing_made, others-at, others_differ, standing_of-cons, standing_of-push}
use Rattle.mrp_book.proofs.Standings.{covered-fewer}

abbrev pub IsBefore : Booking → Booking → Type 0
IsBefore a b = a.number < b.number

-- lines of the horizon are due from week 1 on
pub from_first : (s : Supply) (bs : List Booking) → AreBooked s bs → FromFirst (lines_of bs)
from_first s bs booked = All-map (λ l. 1 ≤ l.week) (λ (b : Booking). b.line) bs (All-weaker (λ (b : Booking). IsLine s b.line) (λ (b : Booking). 1 ≤ b.line.week) (λ b is_line. is_line.week.0) bs booked.lines)

-- what is found in a list holds of its elements
find-all : (P : Booking → Type 0) (p : Booking → Bool) (bs : List Booking) (b : Booking) → find p bs ≡ Some b → All P bs → P b
find-all P p [] b e all = cc
find-all P p (x ∷ bs) b e all = by (find-all P p bs b) (p x) refl
  where
    by : (find p bs ≡ Some b → All P bs → P b) → (v : Bool) → p x ≡ v → P b
    by rest true t =
        let same : Some x ≡ Some b = sym (ap (λ (v : Bool). if v then Some x else find p bs) t) ∙ e in
        let own : x ≡ b = cc in
        subst P own (All-head P x bs all)
    by rest false t = rest (sym (ap (λ (v : Bool). if v then Some x else find p bs) t) ∙ e) (All-tail P x bs all)

-- One booking fewer.

less_due : (item week : ℕ) (made : List Made) (i : ℕ) → i < length made → (get_or made i nothing_made).stands ≡ true
    → due_in item week (lines_of (standing_of made)) ≡ due_in item week (lines_of (standing_of (set made i (cancelled (get_or made i nothing_made))))) + part item week (get_or made i nothing_made).booking.line
less_due item week [] i inside stands = absurd (omega arith)
less_due item week (m ∷ ms) zero inside stands =
    ap (λ (x : List Booking). due_in item week (lines_of x)) (standing_of-cons m ms true stands)
    ∙ due_in-cons item week m.booking.line (lines_of (standing_of ms)) ∙ omega arith
less_due item week (m ∷ ms) (suc i) inside stands = by (set ms i (cancelled (get_or ms i nothing_made))) (less_due item week ms i (omega arith) stands) m.stands refl
  where
    by : (after : List Made) → due_in item week (lines_of (standing_of ms)) ≡ due_in item week (lines_of (standing_of after)) + part item week (get_or ms i nothing_made).booking.line
        → (v : Bool) → m.stands ≡ v
        → due_in item week (lines_of (standing_of (m ∷ ms))) ≡ due_in item week (lines_of (standing_of (m ∷ after))) + part item week (get_or ms i nothing_made).booking.line
    by after rest true e =
        let old : due_in item week (lines_of (standing_of (m ∷ ms))) ≡ part item week m.booking.line + due_in item week (lines_of (standing_of ms)) =
        ap (λ (x : List Booking). due_in item week (lines_of x)) (standing_of-cons m ms true e) ∙ due_in-cons item week m.booking.line (lines_of (standing_of ms)) in
        let new : due_in item week (lines_of (standing_of (m ∷ after))) ≡ part item week m.booking.line + due_in item week (lines_of (standing_of after)) =
        ap (λ (x : List Booking). due_in item week (lines_of x)) (standing_of-cons m after true e) ∙ due_in-cons item week m.booking.line (lines_of (standing_of after)) in
        omega arith
    by after rest false e =
        let old : due_in item week (lines_of (standing_of (m ∷ ms))) ≡ due_in item week (lines_of (standing_of ms)) = ap (λ (x : List Booking). due_in item week (lines_of x)) (standing_of-cons m ms false e) in
        let new : due_in item week (lines_of (standing_of (m ∷ after))) ≡ due_in item week (lines_of (standing_of after)) = ap (λ (x : List Booking). due_in item week (lines_of x)) (standing_of-cons m after false e) in
        omega arith

-- The state of a book.

module _ (s : Supply) (entries : ℕ) (rows : List (Option AtpRow)) (made : List Made) (k : KeepsState s entries rows made) where
  abbrev pub due : List Line
  due = lines_of (standing_of made)

  pub row_inside : (item : ℕ) → IsMaster s item → item < length rows
  row_inside item master = elim (cases_lt item (length rows)) [
    | inl inside ↦ inside
    | inr past ↦ let bad : None ≡ Some (atp_row s item due) = sym (get_or_past rows item None past) ∙ k.by_item item master in absurd cc
  ]

  pub row_found : (item : ℕ) (found : Option AtpRow) → IsMaster s item → found ≡ get_or rows item found → found ≡ Some (atp_row s item due)
  row_found item found master here = here ∙ get_or_default rows item found None (row_inside item master) ∙ k.by_item item master

  -- the rows after one has changed, and with it what is due
  changed_rows : (item : ℕ) (new : Option AtpRow) (later : List Booking) → IsMaster s item → new ≡ Some (atp_row s item (lines_of later))
      → ((other : ℕ) → other ≢ item → atp_row s other due ≡ atp_row s other (lines_of later)) → HasRows s (set rows item new) later
  changed_rows item new later master here others other is = elim (cases_eq other item) [
    | inl same ↦
        subst (λ (x : ℕ). get_or (set rows item new) x None ≡ Some (atp_row s x (lines_of later))) (sym same)
        (get_or-set_same rows item new None (row_inside item master) ∙ here)
    | inr ne ↦ get_or-set_other rows item other new None ne ∙ k.by_item other is ∙ ap Some (others other ne)
  ]

  rising-push : (m : Made) → m.booking.number ≡ entries + 1 → IsRising (made ++ m ∷ [])
  rising-push m numbered i j d before inside =
      let long : length (made ++ m ∷ []) ≡ length made + 1 = length_push made m in
      let first : get_or (made ++ m ∷ []) i d ≡ get_or made i d = get_or_append_left made (m ∷ []) d i (omega arith) in
      elim (cases_lt j (length made)) [
        | inl old ↦
            let second : get_or (made ++ m ∷ []) j d ≡ get_or made j d = get_or_append_left made (m ∷ []) d j old in
            let up : (get_or made i d).booking.number < (get_or made j d).booking.number = k.rising i j d before old in
            omega (arith, ap (λ (x : Made). x.booking.number) first, ap (λ (x : Made). x.booking.number) second)
        | inr last ↦
            let second : get_or (made ++ m ∷ []) j d ≡ m = get_or_push made m d j (omega arith) in
            let up : (get_or made i d).booking.number ≤ entries = All-get_or (λ (m : Made). m.booking.number ≤ entries) made i d (omega arith) k.by_entries in
            omega (arith, ap (λ (x : Made). x.booking.number) first, ap (λ (x : Made). x.booking.number) second)
      ]

  numbers_entered : All (λ (b : Booking). b.number ≤ entries) (standing_of made)
  numbers_entered =
      All-map (λ (b : Booking). b.number ≤ entries) (λ (m : Made). m.booking) (filter (λ (m : Made). m.stands) made)
      (All-filter (λ (m : Made). m.stands) (λ (m : Made). m.booking.number ≤ entries) made k.by_entries)

  rising-booked : (b : Booking) → b.number ≡ entries + 1 → AreRising (standing_of made ++ b ∷ [])
  rising-booked b numbered = all_pairs_push IsBefore (standing_of made) b k.booked.rising (λ i d inside.
      let old : (get_or (standing_of made) i d).number ≤ entries = All-get_or (λ (b : Booking). b.number ≤ entries) (standing_of made) i d inside numbers_entered in
      omega (arith, numbered))

  -- A booking.

  module _ (b : Booking) (is_line : IsLine s b.line) where
    lines-push : lines_of (standing_of made ++ b ∷ []) ≡ due ++ b.line ∷ []
    lines-push = map-append (λ (b : Booking). b.line) (standing_of made) (b ∷ [])

    pub take_week : (found : Option AtpRow) → found ≡ get_or rows b.line.item found → (r : AtpRow) → found ≡ Some r → IsWeekOf r b.line.week
    take_week found here r is =
        let same : Some (atp_row s b.line.item due) ≡ Some r = sym (row_found b.line.item found is_line.item here) ∙ is in
        let own : atp_row s b.line.item due ≡ r = cc in
        subst (λ (x : AtpRow). IsWeekOf x b.line.week) own (week_of_row s b.line.item due b.line.week is_line.week)

    pub take_fits : CanPromise s due b.line.item b.line.quantity b.line.week → (found : Option AtpRow) → found ≡ get_or rows b.line.item found → (r : AtpRow) → found ≡ Some r → IsCoveredRow (with_booking r b.line.week b.line.quantity)
    take_fits can found here r is =
        let same : Some (atp_row s b.line.item due) ≡ Some r = sym (row_found b.line.item found is_line.item here) ∙ is in
        let own : atp_row s b.line.item due ≡ r = cc in
        let all : FromFirst due = from_first s (standing_of made) k.booked in
        let fits : IsCovered s (due ++ line b.line.item b.line.week b.line.quantity ∷ []) = promise_fits s due b.line.item b.line.week b.line.quantity can in
        subst (λ (x : AtpRow). IsCoveredRow (with_booking x b.line.week b.line.quantity)) own (row_fits s k.supplied b.line.item is_line.item due all k.booked.covered b.line.week b.line.quantity is_line.week fits)

    pub keeps_booking : b.number ≡ entries + 1 → entries < 1000000 → CanPromise s due b.line.item b.line.quantity b.line.week
        → (found new : Option AtpRow) → found ≡ get_or rows b.line.item found → new ≡ option_map (λ (r : AtpRow). with_booking r b.line.week b.line.quantity) found
        → (longer : List Made) → longer ≡ made ++ record { booking = b; stands = true } ∷ [] → KeepsState s (entries + 1) (set rows b.line.item new) longer
    keeps_booking numbered few can found new here taken longer made_longer =
        let m : Made = record { booking = b; stands = true } in
        let later : List Booking = standing_of made ++ b ∷ [] in
        let all : FromFirst due = from_first s (standing_of made) k.booked in
        let fits : IsCovered s (due ++ b.line ∷ []) = promise_fits s due b.line.item b.line.week b.line.quantity can in
        let row : new ≡ Some (atp_row s b.line.item (lines_of later)) =
        taken ∙ ap (option_map (λ (r : AtpRow). with_booking r b.line.week b.line.quantity)) (row_found b.line.item found is_line.item here)
        ∙ ap Some (row_with s b.line.item due b.line.week b.line.quantity is_line.week ∙ ap (atp_row s b.line.item) (sym lines-push)) in
        let stand : standing_of (made ++ m ∷ []) ≡ later = standing_of-push made b in
        subst (λ (x : List Made). KeepsState s (entries + 1) (set rows b.line.item new) x) (sym made_longer) (record {
          supplied = k.supplied;
          by_item = subst (HasRows s (set rows b.line.item new)) (sym stand)
              (changed_rows b.line.item new later is_line.item row (λ other ne. sym (row_same_with s other due b.line ne) ∙ ap (atp_row s other) (sym lines-push)));
          booked = subst (AreBooked s) (sym stand) (record {
            lines = All-push (λ (b : Booking). IsLine s b.line) (standing_of made) b k.booked.lines is_line;
            covered = subst (IsCovered s) (sym lines-push) fits;
            rising = rising-booked b numbered;
          });
          rising = rising-push m numbered;
          by_entries = All-push (λ (m : Made). m.booking.number ≤ entries + 1) made m (All-weaker (λ (m : Made). m.booking.number ≤ entries) (λ (m : Made). m.booking.number ≤ entries + 1) (λ m h. omega arith) made k.by_entries) (omega (arith, numbered));
          few = omega arith;
        })

  -- One booking cancelled.

  module _ (place : ℕ) (m : Made) (inside : place < length made) (here : m ≡ get_or made place m) where
    m_is : m ≡ get_or made place nothing_made
    m_is = here ∙ get_or_default made place m nothing_made inside

    pub found_at : (n : ℕ) → HoldsAt (λ (m : Made). m.booking.number ≡ n) made place → find (has_number n) (standing_of made) ≡ (if m.stands then Some m.booking else None)
    found_at n holds =
        find-at made n place inside (holds nothing_made) (others_differ made k.rising n place inside (holds nothing_made))
        ∙ ap (λ (x : Made). if x.stands then Some x.booking else None) (sym m_is)

    at_place : (d : Made) → get_or made place d ≡ m
    at_place d = get_or_default made place d m inside ∙ sym here

    own_number : HoldsAt (λ (x : Made). x.booking.number ≡ m.booking.number) made place
    own_number d = ap (λ (x : Made). x.booking.number) (at_place d)

    -- it has the number that it was found by
    its_number : (n : ℕ) → HoldsAt (λ (x : Made). x.booking.number ≡ n) made place → m.booking.number ≡ n
    its_number n holds = ap (λ (x : Made). x.booking.number) (sym (at_place m)) ∙ holds m

    some_stands : (v : Bool) (b : Booking) → is_some (if v then Some b else None) ≡ true → v ≡ true
    some_stands true b h = refl
    some_stands false b h = cc

    pub stands_if_found : (n : ℕ) → HoldsAt (λ (x : Made). x.booking.number ≡ n) made place → is_some (find (has_number n) (standing_of made)) ≡ true → m.stands ≡ true
    stands_if_found n holds some = some_stands m.stands m.booking (sym (ap is_some (found_at n holds)) ∙ some)

    abbrev pub after : List Made
    after = set made place (cancelled m)

    -- the standing booking is of the shop
    pub cancel_lines : m.stands ≡ true → IsLine s m.booking.line
    cancel_lines stands =
        find-all (λ (b : Booking). IsLine s b.line) (has_number m.booking.number) (standing_of made) m.booking
        (found_at m.booking.number own_number ∙ ap (λ (v : Bool). if v then Some m.booking else None) stands) k.booked.lines

    parts : m.stands ≡ true → (item week : ℕ) → due_in item week due ≡ due_in item week (lines_of (standing_of after)) + part item week m.booking.line
    parts stands item week =
        subst (λ (x : Made). due_in item week due ≡ due_in item week (lines_of (standing_of (set made place (cancelled x)))) + part item week x.booking.line) (sym m_is)
        (less_due item week made place inside (ap (λ (x : Made). x.stands) (sym m_is) ∙ stands))

    -- the standing bookings after it
    pub standing_after_cancel : standing_of after ≡ filter (is_other m.booking.number) (standing_of made)
    standing_after_cancel =
        sym (others-at made m.booking.number place inside (own_number nothing_made) (others_differ made k.rising m.booking.number place inside (own_number nothing_made))
        ∙ ap (λ (x : Made). standing_of (set made place (cancelled x))) (sym m_is))

    pub cancel_leaves : (n : ℕ) → HoldsAt (λ (x : Made). x.booking.number ≡ n) made place → standing_of after ≡ filter (is_other n) (standing_of made)
    cancel_leaves n holds = standing_after_cancel ∙ ap (λ (x : ℕ). filter (is_other x) (standing_of made)) (its_number n holds)

    number_after : (j : ℕ) (d : Made) → (get_or after j d).booking.number ≡ (get_or made j d).booking.number
    number_after j d = elim (cases_eq j place) [
      | inl same ↦
          subst (λ (x : ℕ). (get_or after x d).booking.number ≡ (get_or made x d).booking.number) (sym same)
          (ap (λ (x : Made). x.booking.number) (get_or-set_same made place (cancelled m) d inside) ∙ ap (λ (x : Made). x.booking.number) (sym (at_place d)))
      | inr ne ↦ ap (λ (x : Made). x.booking.number) (get_or-set_other made place j (cancelled m) d ne)
    ]

    rising-after : IsRising after
    rising-after i j d before within =
        let up : (get_or made i d).booking.number < (get_or made j d).booking.number = k.rising i j d before (omega (arith, length-set made place (cancelled m))) in
        omega (arith, number_after i d, number_after j d)

    module _ (stands : m.stands ≡ true) where
      row_of_it : (found : Option AtpRow) → found ≡ get_or rows m.booking.line.item found → (r : AtpRow) → found ≡ Some r → atp_row s m.booking.line.item due ≡ r
      row_of_it found is r some =
          let same : Some (atp_row s m.booking.line.item due) ≡ Some r = sym (row_found m.booking.line.item found (cancel_lines stands).item is) ∙ some in
          cc

      pub give_week : (found : Option AtpRow) → found ≡ get_or rows m.booking.line.item found → (r : AtpRow) → found ≡ Some r → IsWeekOf r m.booking.line.week
      give_week found is r some =
          subst (λ (x : AtpRow). IsWeekOf x m.booking.line.week) (row_of_it found is r some) (week_of_row s m.booking.line.item due m.booking.line.week (cancel_lines stands).week)

      pub give_booked : (found : Option AtpRow) → found ≡ get_or rows m.booking.line.item found → (r : AtpRow) → found ≡ Some r → m.booking.line.quantity ≤ in_week r.booked m.booking.line.week
      give_booked found is r some =
          subst (λ (x : AtpRow). m.booking.line.quantity ≤ in_week x.booked m.booking.line.week) (row_of_it found is r some)
          (booked_at_least s m.booking.line.item due (lines_of (standing_of after)) m.booking.line (cancel_lines stands).week refl (parts stands m.booking.line.item))

      fewer_covered : IsCovered s (lines_of (filter (is_other m.booking.number) (standing_of made)))
      fewer_covered =
          subst (λ (x : List Booking). IsCovered s (lines_of x)) (append-nil (filter (is_other m.booking.number) (standing_of made)))
          (covered-fewer s (is_other m.booking.number) (standing_of made) [] (subst (λ (x : List Booking). IsCovered s (lines_of x)) (sym (append-nil (standing_of made))) k.booked.covered))

      pub keeps_cancel : entries < 1000000 → (found new : Option AtpRow) → found ≡ get_or rows m.booking.line.item found
          → new ≡ option_map (λ (r : AtpRow). without_booking r m.booking.line.week m.booking.line.quantity) found → KeepsState s (entries + 1) (set rows m.booking.line.item new) after
      keeps_cancel few found new is given =
          let l : Line = m.booking.line in
          let others : List Line = lines_of (standing_of after) in
          let row : new ≡ Some (atp_row s l.item others) =
          given ∙ ap (option_map (λ (r : AtpRow). without_booking r l.week l.quantity)) (row_found l.item found (cancel_lines stands).item is)
          ∙ ap Some (row_without s l.item due others l (cancel_lines stands).week refl (parts stands l.item)) in
          record {
            supplied = k.supplied;
            by_item = changed_rows l.item new (standing_of after) (cancel_lines stands).item row (λ other ne. row_same_without s other due others l ne (parts stands other));
            booked = subst (AreBooked s) (sym standing_after_cancel) (record {
              lines = All-filter (is_other m.booking.number) (λ (b : Booking). IsLine s b.line) (standing_of made) k.booked.lines;
              covered = fewer_covered;
              rising = AllPairs-filter IsBefore (is_other m.booking.number) (standing_of made) k.booked.rising;
            });
            rising = rising-after;
            by_entries = All-weaker (λ (m : Made). m.booking.number ≤ entries) (λ (m : Made). m.booking.number ≤ entries + 1) (λ m h. omega arith) after
                (All-set (λ (m : Made). m.booking.number ≤ entries) made place (cancelled m) (subst (λ (x : Made). x.booking.number ≤ entries) (at_place m) (All-get_or (λ (m : Made). m.booking.number ≤ entries) made place m inside k.by_entries)) k.by_entries);
            few = omega arith;
          }
