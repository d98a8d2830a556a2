-- The gross requirements of a part, one week and one line at a time.
use Rattle.std.proofs.Common.{◌≡◌, ◌∙◌, ℕ, ◌+◌, ◌-◌, ◌*◌, ◌<◌, ◌≤◌, List, [], ◌∷◌, ◌++◌, length, take, map, get_or, refl, sym, ap, arith}
use Rattle.std.specs.Prelude.{All, sum, sum_by}
use Rattle.std.proofs.Math.Nat.{add-mul}
use Rattle.std.proofs.lemmas.List.{map_more}
use Rattle.std.proofs.lemmas.List.Elements.{All-map}
use Rattle.std.proofs.lemmas.List.Sums.{sum_by-cons}
use Rattle.mrp_qty.specs.Quantity.{greatest_quantity}
use Rattle.mrp_tables.specs.declared.rows.BillLine.{BillLine}
use Rattle.mrp_bill.specs.Bill.{line_at, lines_of}
use Rattle.mrp_phase.specs.Weeks.{row, in_week}
use Rattle.mrp_phase.proofs.WeekRows.{in_week_next, row_is, row_same, in_week_row, length-row, sum-row_above, in_week_at}
use Rattle.mrp_item.specs.declared.due.Due.{Due}
use Rattle.mrp_item.specs.declared.order.Order.{Order}
use Rattle.mrp_item.specs.Inputs.{Inputs, horizon}
use Rattle.mrp_item.specs.Orders.{released_in, started_in}
use Rattle.mrp_item.specs.Rows.{lines_to, service}
use Rattle.mrp_item.specs.Dues.{due_sum, service_dues}
use Rattle.mrp_item.specs.Plan.{Outcome, line_demand, part_gross, plan_in, outcome_of}
use Rattle.mrp_item.specs.DependentDemand.{LineStarts, line_starts, required_in, with_lines}
use Rattle.mrp_item.proofs.DueRows.{IsPast, dated-past, due_sum-service}
use Rattle.mrp_item.proofs.Parents.{lines-at}

-- too much in a week
pub required_past : (demand : List ℕ) (lines : List LineStarts) (before : ℕ) → before < length demand → greatest_quantity < get_or demand before 0 + sum_by (required_in (before + 1)) lines
    → (week : ℕ) × (0 < week) × (week ≤ length demand) × (greatest_quantity < with_lines demand lines week)
required_past demand lines before h past = (before + 1, omega arith, omega arith, omega (arith, past, in_week_next demand before))

-- each week has been added to
pub required_all : (old new : List ℕ) (lines : List LineStarts) → length new ≡ length old
    → ((k : ℕ) → k < length old → get_or new k 0 ≡ get_or old k 0 + sum_by (required_in (k + 1)) lines) → new ≡ row (length old) (with_lines old lines)
required_all old new lines size each =
    row_is new (with_lines old lines) (length old) size
    (λ t a b.
    let same : t - 1 + 1 ≡ t = omega arith in
    in_week_at new t a ∙ each (t - 1) (omega arith)
    ∙ ap (λ n. n + sum_by (required_in (t - 1 + 1)) lines) (sym (in_week_at old t a))
    ∙ ap (λ n. in_week old t + sum_by (required_in n) lines) same)

each_times : (per : ℕ) (orders : List Order) → sum_by (λ o. o.start * per) orders ≡ sum_by (λ o. o.start) orders * per
each_times per [] = omega arith
each_times per (o ∷ orders) =
    sum_by-cons (λ o. o.start * per) o orders ∙ ap (λ n. o.start * per + n) (each_times per orders)
    ∙ sym (add-mul o.start (sum_by (λ o. o.start) orders) per) ∙ ap (λ n. n * per) (sym (sum_by-cons (λ o. o.start) o orders))

-- a line requires the starts of its parent, times the quantity per
pub line_demand-started : (above : ℕ → Outcome) (week : ℕ) (line : BillLine) → line_demand above week line ≡ started_in (plan_in (above line.parent)).orders week * line.per
line_demand-started above week line = each_times line.per (released_in week (plan_in (above line.parent)).orders)

-- the starts of the parent of the line at a place
abbrev pub starts_at : Inputs → List BillLine → ℕ → LineStarts
starts_at s bills place = line_starts s (line_at bills place)

-- one more line
pub starts_more : (s : Inputs) (bills : List BillLine) (places : List ℕ) (k : ℕ) (line : BillLine) (lines : List LineStarts) (started : List ℕ) → k < length places
    → line ≡ line_at bills (get_or places k 0) → lines ≡ map (starts_at s bills) (take k places) → started ≡ row (horizon s) (started_in (plan_in (outcome_of s line.parent)).orders)
    → lines ++ record { started = started; per = line.per } ∷ [] ≡ map (starts_at s bills) (take (k + 1) places)
starts_more s bills places k line lines started h is so_far starts =
    let here : record { started = started; per = line.per } ≡ starts_at s bills (get_or places k 0) =
    ap (λ (xs : List ℕ). the_line xs line.per) starts ∙ ap (line_starts s) is in
    ap (λ (ls : List LineStarts). ls ++ the_line started line.per ∷ []) so_far
    ∙ ap (λ (x : LineStarts). map (starts_at s bills) (take k places) ++ x ∷ []) here
    ∙ sym (map_more (starts_at s bills) places k 0 h)
  where
    the_line : List ℕ → ℕ → LineStarts
    the_line xs per = record { started = xs; per = per }

-- all lines
mapped : (s : Inputs) (bills : List BillLine) (places : List ℕ) → map (starts_at s bills) places ≡ map (line_starts s) (map (line_at bills) places)
mapped s bills [] = refl
mapped s bills (place ∷ places) = ap (λ (ls : List LineStarts). starts_at s bills place ∷ ls) (mapped s bills places)

pub starts_all : (s : Inputs) (i : ℕ) → map (starts_at s s.tables.bills) (lines_of s.tables.bills i) ≡ map (line_starts s) (lines_to s i)
starts_all s i = mapped s s.tables.bills (lines_of s.tables.bills i) ∙ ap (map (line_starts s)) (lines-at s.tables.bills i)

-- each has the starts in all weeks
pub starts_whole : (s : Inputs) (lines : List BillLine) (n : ℕ) → n ≡ horizon s → All (λ line. length line.started ≡ n) (map (line_starts s) lines)
starts_whole s lines n size =
    All-map (λ (line : LineStarts). length line.started ≡ n) (line_starts s) lines
    (λ k d h. length-row (started_in (plan_in (outcome_of s (get_or lines k d).parent)).orders) (horizon s) ∙ sym size)

-- what lines require in a week is the dependent demand
lines_required : (s : Inputs) (week : ℕ) → 0 < week → week ≤ horizon s → (lines : List BillLine)
    → sum_by (required_in week) (map (line_starts s) lines) ≡ sum_by (line_demand (outcome_of s) week) lines
lines_required s week a b [] = refl
lines_required s week a b (line ∷ lines) =
    let here : required_in week (line_starts s line) ≡ line_demand (outcome_of s) week line =
    ap (λ n. n * line.per) (in_week_row (started_in (plan_in (outcome_of s line.parent)).orders) (horizon s) week a b) ∙ sym (line_demand-started (outcome_of s) week line) in
    omega (
      arith,
      here,
      lines_required s week a b lines,
      sum_by-cons (required_in week) (line_starts s line) (map (line_starts s) lines),
      sum_by-cons (line_demand (outcome_of s) week) line lines,
    )

-- what is due in a week by service rows is the service parts demand
service_due : (s : Inputs) (i week : ℕ) (dues : List Due) → dues ≡ service_dues s.tables.master i → due_sum dues week ≡ service s i week
service_due s i week dues are = ap (λ (ds : List Due). due_sum ds week) are ∙ due_sum-service s i week

-- service rows and all lines require the item's gross requirement
pub gross_in_week : (s : Inputs) (i week n : ℕ) (dues : List Due) (demand : List ℕ) (lines : List LineStarts) → n ≡ horizon s → dues ≡ service_dues s.tables.master i → demand ≡ row n (due_sum dues)
    → lines ≡ map (line_starts s) (lines_to s i) → 0 < week → week ≤ n → with_lines demand lines week ≡ part_gross s i (outcome_of s) week
gross_in_week s i week n dues demand lines size are so_far told a b =
    omega (
      arith,
      ap (λ (xs : List ℕ). in_week xs week) so_far,
      in_week_row (due_sum dues) n week a b,
      service_due s i week dues are,
      ap (sum_by (required_in week)) told,
      lines_required s week a (omega arith) (lines_to s i),
    )

pub gross_row : (s : Inputs) (i n : ℕ) (dues : List Due) (demand : List ℕ) (lines : List LineStarts) → n ≡ horizon s → dues ≡ service_dues s.tables.master i → demand ≡ row n (due_sum dues)
    → lines ≡ map (line_starts s) (lines_to s i) → row (length demand) (with_lines demand lines) ≡ row (horizon s) (part_gross s i (outcome_of s))
gross_row s i n dues demand lines size are so_far told =
    ap (λ m. row m (with_lines demand lines)) (ap length so_far ∙ length-row (due_sum dues) n ∙ size)
    ∙ row_same (with_lines demand lines) (part_gross s i (outcome_of s)) (horizon s)
    (λ week a b. gross_in_week s i week n dues demand lines size are so_far told a (omega arith))

-- too much in service rows is too much in all
pub service_over : (s : Inputs) (i : ℕ) (dues : List Due) → dues ≡ service_dues s.tables.master i → IsPast dues (horizon s)
    → greatest_quantity < sum (row (horizon s) (part_gross s i (outcome_of s)))
service_over s i dues are past =
    dated-past dues (part_gross s i (outcome_of s)) (horizon s) (λ week. let due = service_due s i week dues are in omega arith) past

-- too much in service rows and lines is too much in all
pub gross_over : (s : Inputs) (i week n : ℕ) (dues : List Due) (demand : List ℕ) (lines : List LineStarts) → n ≡ horizon s → dues ≡ service_dues s.tables.master i → demand ≡ row n (due_sum dues)
    → lines ≡ map (line_starts s) (lines_to s i) → 0 < week → week ≤ length demand → greatest_quantity < with_lines demand lines week
    → greatest_quantity < sum (row (horizon s) (part_gross s i (outcome_of s)))
gross_over s i week n dues demand lines size are so_far told a b past =
    let within : week ≤ n = omega (arith, b, ap length so_far, length-row (due_sum dues) n) in
    omega (
      arith,
      past,
      gross_in_week s i week n dues demand lines size are so_far told a within,
      sum-row_above (part_gross s i (outcome_of s)) (horizon s) week a (omega arith),
    )
