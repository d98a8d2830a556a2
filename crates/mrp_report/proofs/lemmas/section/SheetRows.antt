-- The rows of a sheet, week by week.
use Rattle.std.proofs.Common.{◌≡◌, ◌∙◌, ℕ, ◌+◌, ◌-◌, ◌≤◌, ◌<◌, Bool, List, length, get_or, sym, ap, arith, refl}
use Rattle.std.proofs.lemmas.Grind.{get_or_default_zero}
use Rattle.std.specs.Prelude.{if◌then◌else◌}
use Rattle.mrp_phase.specs.Weeks.{in_week, sum_to}
use Rattle.mrp_phase.proofs.WeekRows.{in_week_next, sum_to_next}
use Rattle.mrp_report.specs.declared.section.sheet.Sheet.{Sheet}
use Rattle.mrp_report.specs.declared.section.sheet.Sums.{Sums}
use Rattle.mrp_report.specs.section.Sheet.{AreSums, sheet_row}

-- what is in the week after a place
pub record IsWeek (s : Sheet) (place gross scheduled received : ℕ) : Type 0 where
  pub gross_is : gross ≡ get_or s.gross.now place 0
  pub scheduled_is : scheduled ≡ get_or s.scheduled.now place 0
  pub received_is : received ≡ get_or s.received.now place 0

-- a read at a place
pub read-at : (xs : List ℕ) (value at place d : ℕ) → value ≡ get_or xs at d → at ≡ place → place < length xs → value ≡ get_or xs place 0
read-at xs value at place d read same within = read ∙ ap (λ k. get_or xs k d) same ∙ get_or_default_zero xs place d within

-- the row of the week after a place, from the sums up to the place
pub row_is : (s : Sheet) (place gross scheduled received start : ℕ) (sums : Sums) → AreSums s place sums → IsWeek s place gross scheduled received → start ≡ get_or s.started.now place 0 → (receipts firm planned balance : ℕ)
    → receipts ≡ (if s.is_master then 0 else scheduled) → firm ≡ (if s.is_master then scheduled else 0)
    → planned ≡ received - sums.received → balance ≡ (sums.supplied + scheduled + received) - (sums.required + gross)
    → record { week = place + 1; gross = gross; receipts = receipts; firm = firm; planned = planned; start = start; balance = balance } ≡ sheet_row s (place + 1)
row_is s place gross scheduled received start sums are of_week starts receipts firm planned balance r f p b =
    let back : place + 1 - 1 ≡ place = omega arith in
    let e0 : gross ≡ in_week s.gross.now (place + 1) = of_week.gross_is ∙ sym (in_week_next s.gross.now place) in
    let e1 : scheduled ≡ in_week s.scheduled.now (place + 1) = of_week.scheduled_is ∙ sym (in_week_next s.scheduled.now place) in
    let e2 : received ≡ in_week s.received.now (place + 1) = of_week.received_is ∙ sym (in_week_next s.received.now place) in
    let master : Bool → ℕ → ℕ = λ b n. if b then 0 else n in
    let other : Bool → ℕ → ℕ = λ b n. if b then n else 0 in
    let e3 = r ∙ ap (master s.is_master) e1 in
    let e4 = f ∙ ap (other s.is_master) e1 in
    let e5 : planned ≡ in_week s.received.now (place + 1) - in_week s.received.now (place + 1 - 1) = rw back (omega (arith, p, e2, are.received)) in
    let e6 : start ≡ in_week s.started.now (place + 1) = starts ∙ sym (in_week_next s.started.now place) in
    let e7 : balance ≡ (s.on_hand + sum_to s.scheduled.now (place + 1) + in_week s.received.now (place + 1)) - sum_to s.gross.now (place + 1) =
    omega (arith, b, are.supplied, are.required, sum_to_next s.scheduled.now place, sum_to_next s.gross.now place, e0, e1, e2) in
    λ i. record { week = place + 1; gross = e0 i; receipts = e3 i; firm = e4 i; planned = e5 i; start = e6 i; balance = e7 i }

-- the sums up to the next week
pub sums_are : (s : Sheet) (place gross scheduled received : ℕ) (sums : Sums) → AreSums s place sums → IsWeek s place gross scheduled received
    → gross ≤ 1000000000000000 → scheduled ≤ 1000000000000000 → received ≤ 1000000000000000
    → AreSums s (place + 1) (record { supplied = sums.supplied + scheduled; required = sums.required + gross; received = received })
sums_are s place gross scheduled received sums are of_week g k r = record {
  supplied = omega (arith, are.supplied, sum_to_next s.scheduled.now place, in_week_next s.scheduled.now place, of_week.scheduled_is);
  required = omega (arith, are.required, sum_to_next s.gross.now place, in_week_next s.gross.now place, of_week.gross_is);
  received = of_week.received_is ∙ sym (in_week_next s.received.now place);
  little = omega (arith, are.little, k);
  few = omega (arith, are.few, g);
  small = r;
}

-- nothing is summed up before the first week
pub no_sums : (s : Sheet) (supplied : ℕ) → supplied ≡ s.on_hand → supplied ≤ 1000000000000000 → AreSums s 0 (record { supplied = supplied; required = 0; received = 0 })
unfolding in_week
no_sums s supplied is within = record {
  supplied = omega (arith, is);
  required = refl;
  received = refl;
  little = omega (arith, within);
  few = omega arith;
  small = omega arith;
}
