-- The booked quantity of an item, week by week.
use Rattle.std.specs.Prelude.{All, replicate, sum_by}
use Rattle.std.proofs.Common.{◌≡◌, ◌≢◌, ℕ, ◌+◌, ◌<◌, ◌≤◌, inl, inr, Bool, true, false, List, [], ◌∷◌, ◌++◌, length, get_or, take, drop, refl, sym, ap, subst, ◌∙◌, arith}
use Rattle.std.proofs.lemmas.Bool.{cases_eq}
use Rattle.std.proofs.lemmas.Bool.Decides.{nat_tests}
use Rattle.std.proofs.lemmas.List.{length-replicate, map-append, take_more, take-append-drop}
use Rattle.std.proofs.lemmas.List.Elements.{All-head, All-tail}
use Rattle.std.proofs.lemmas.List.Sums.{sum_by-cons, sum_by-append}
use Rattle.mrp_qty.specs.Quantity.{greatest_quantity}
use Rattle.mrp_phase.specs.Weeks.{in_week, row, with_week}
use Rattle.mrp_phase.proofs.WeekRows.{in_week_replicate, in_week_row, row_is, row_same, with_week-row}
use Rattle.mrp_master.specs.declared.line.Line.{Line}
use Rattle.mrp_master.specs.Lines.{IsLine}
use Rattle.mrp_master.specs.Supply.{Supply, IsMaster, IsSupply}
use Rattle.mrp_master.specs.AtpRow.{due_in}
use Rattle.mrp_book.specs.declared.booking.Booking.{Booking}
use Rattle.mrp_book.specs.Booked.{AreBooked}
use Rattle.mrp_book.specs.Bookings.{AreLittle, lines_of}
use Rattle.mrp_master.proofs.ItemRows.{due_in-cons, due_in-push, due_in-within, part, part_here, part_other_item, part_other_week}

part_within : (item week : ℕ) (l : Line) → part item week l ≤ l.quantity
part_within item week l = grind (arith, nat_tests)

-- no week has more of an item than all bookings together
pub due_in-le-all : (item week : ℕ) (bs : List Booking) → due_in item week (lines_of bs) ≤ sum_by (λ (b : Booking). b.line.quantity) bs
due_in-le-all item week [] = omega arith
due_in-le-all item week (b ∷ bs) =
    omega (arith, due_in-cons item week b.line (lines_of bs), sum_by-cons (λ (b : Booking). b.line.quantity) b bs, part_within item week b.line, due_in-le-all item week bs)

pub little_together : (weeks : ℕ) (bs : List Booking) → sum_by (λ (b : Booking). b.line.quantity) bs ≤ greatest_quantity → AreLittle weeks bs
little_together weeks bs h item week a b = omega (arith, due_in-le-all item week bs)

-- nothing is booked of an item that is not a master item
nothing_of : (s : Supply) (item week : ℕ) (bs : List Booking) → ¬ IsMaster s item → All (λ (b : Booking). IsLine s b.line) bs → due_in item week (lines_of bs) ≡ 0
nothing_of s item week [] fails all = refl
nothing_of s item week (b ∷ bs) fails all =
    let In : Booking → Type 0 = λ (b : Booking). IsLine s b.line in
    let inside : IsLine s b.line = All-head In b bs all in
    let apart : item ≢ b.line.item = λ (e : item ≡ b.line.item). fails (subst (IsMaster s) (sym e) inside.item) in
    omega (arith, due_in-cons item week b.line (lines_of bs), part_other_item item week b.line apart, nothing_of s item week bs fails (All-tail In b bs all))

-- what a book books is within the greatest quantity
pub little_booked : (s : Supply) (bs : List Booking) → IsSupply s → AreBooked s bs → AreLittle s.weeks bs
little_booked s bs supplied booked item week a b = by (get_or s.masters item false) refl
  where
    by : (v : Bool) → get_or s.masters item false ≡ v → due_in item week (lines_of bs) ≤ greatest_quantity
    by true e = omega (arith, due_in-within item week (lines_of bs) a, booked.covered item e week (a, b), supplied.little item week)
    by false e =
        let fails : ¬ IsMaster s item = λ (h : IsMaster s item). let bad : true ≡ false = sym h ∙ e in cc in
        omega (arith, nothing_of s item week bs fails booked.lines)

-- Booking by booking.

abbrev pub demand_of : List Booking → ℕ → ℕ → ℕ
demand_of bs item week = due_in item week (lines_of bs)

demand_of-more : (bs : List Booking) (k : ℕ) (d : Booking) (item week : ℕ) → k < length bs → demand_of (take (k + 1) bs) item week ≡ demand_of (take k bs) item week + part item week (get_or bs k d).line
demand_of-more bs k d item week h =
    ap (λ (x : List Booking). demand_of x item week) (take_more bs k d h)
    ∙ ap (due_in item week) (map-append (λ (b : Booking). b.line) (take k bs) (get_or bs k d ∷ []))
    ∙ due_in-push item week (lines_of (take k bs)) (get_or bs k d).line

demand_of-take : (bs : List Booking) (k item week : ℕ) → demand_of (take k bs) item week ≤ demand_of bs item week
demand_of-take bs k item week =
    let parts : demand_of (take k bs ++ drop k bs) item week ≡ demand_of (take k bs) item week + demand_of (drop k bs) item week =
    ap (due_in item week) (map-append (λ (b : Booking). b.line) (take k bs) (drop k bs)) ∙ sum_by-append (part item week) (lines_of (take k bs)) (lines_of (drop k bs)) in
    let whole : demand_of (take k bs ++ drop k bs) item week ≡ demand_of bs item week = ap (λ (x : List Booking). demand_of x item week) (take-append-drop k bs) in
    omega arith

pub demand_none : (weeks item : ℕ) (bs : List Booking) → bs ≡ [] → replicate weeks 0 ≡ row weeks (demand_of bs item)
demand_none weeks item bs none = row_is (replicate weeks 0) (demand_of bs item) weeks (simp length-replicate) (λ t a b. in_week_replicate weeks t ∙ sym (ap (λ (x : List Booking). demand_of x item t) none))

module _ (weeks item k : ℕ) (bs : List Booking) (b : Booking) (inside : k < length bs) (here : b ≡ get_or bs k b) where
  one_more : (week : ℕ) → demand_of (take (k + 1) bs) item week ≡ demand_of (take k bs) item week + part item week b.line
  one_more week = demand_of-more bs k b item week inside ∙ ap (λ (x : Booking). demand_of (take k bs) item week + part item week x.line) (sym here)

  -- a booking that is counted
  pub demand_counted : b.line.item ≡ item → 1 ≤ b.line.week → b.line.week ≤ weeks
      → with_week (row weeks (demand_of (take k bs) item)) b.line.week (in_week (row weeks (demand_of (take k bs) item)) b.line.week + b.line.quantity) ≡ row weeks (demand_of (take (k + 1) bs) item)
  demand_counted own first last =
      let f : ℕ → ℕ = demand_of (take k bs) item in
      let g : ℕ → ℕ = demand_of (take (k + 1) bs) item in
      let whole : part item b.line.week b.line ≡ b.line.quantity = subst (λ (x : ℕ). part x b.line.week b.line ≡ b.line.quantity) own (part_here b.line) in
      with_week-row f g weeks b.line.week (in_week (row weeks f) b.line.week + b.line.quantity) first last
      (omega (arith, in_week_row f weeks b.line.week first last, one_more b.line.week, whole))
      (λ other ne. omega (arith, one_more other, part_other_week item other b.line ne))

  -- and fits
  pub demand_fits : AreLittle weeks bs → b.line.item ≡ item → 1 ≤ b.line.week → b.line.week ≤ weeks
      → in_week (row weeks (demand_of (take k bs) item)) b.line.week + b.line.quantity ≤ greatest_quantity
  demand_fits little own first last =
      let f : ℕ → ℕ = demand_of (take k bs) item in
      let whole : part item b.line.week b.line ≡ b.line.quantity = subst (λ (x : ℕ). part x b.line.week b.line ≡ b.line.quantity) own (part_here b.line) in
      omega (arith, in_week_row f weeks b.line.week first last, one_more b.line.week, whole, demand_of-take bs (k + 1) item b.line.week, little item b.line.week first last)

  -- a booking that is not counted
  pub demand_uncounted : ¬ ((b.line.item ≡ item) × (1 ≤ b.line.week) × (b.line.week ≤ weeks)) → row weeks (demand_of (take k bs) item) ≡ row weeks (demand_of (take (k + 1) bs) item)
  demand_uncounted out = row_same (demand_of (take k bs) item) (demand_of (take (k + 1) bs) item) weeks (λ t a z.
      let nothing : part item t b.line ≡ 0 = elim (cases_eq item b.line.item) [
        | inl own ↦ elim (cases_eq t b.line.week) [
          | inl same ↦ absurd (out (sym own, omega arith, omega arith))
          | inr ne ↦ part_other_week item t b.line ne
        ]
        | inr ne ↦ part_other_item item t b.line ne
      ] in
      omega (arith, one_more t, nothing))
