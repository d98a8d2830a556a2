-- One more step of the loops that list requirements and supplies.
use Rattle.std.proofs.Common.{◌≡◌, ◌∙◌, ℕ, zero, suc, ◌+◌, ◌-◌, ◌<◌, Bool, List, [], ◌∷◌, ◌++◌, cond, length, map, take, set, get_or, refl, sym, ap, arith, append_assoc}
use Rattle.std.specs.Prelude.{filter, flat_map}
use Rattle.std.specs.Int.{IsInRange}
use Rattle.std.specs.List.{enumerate_from}
use Rattle.std.proofs.lemmas.Bool.{eq-eqb, ne_eqb}
use Rattle.std.proofs.lemmas.List.{append-nil, map-append, take_more}
use Rattle.std.proofs.lemmas.List.Elements.{filter-append}
use Rattle.std.proofs.lemmas.List.Concat.{flat_map-append}
use Rattle.mrp_phase.specs.Weeks.{in_week, row, weeks, with_week}
use Rattle.mrp_phase.proofs.WeekRows.{flat_map-weeks_next, in_week_at, in_week_next, in_week_row, length-row, row_is, with_week-row, with_week_at}
use Rattle.mrp_item.specs.declared.due.Due.{Due}
use Rattle.mrp_item.specs.declared.order.Order.{Order}
use Rattle.mrp_item.specs.Dues.{due_sum}
use Rattle.mrp_item.proofs.DueLemmas.{due_sum_more, one_due}
use Rattle.mrp_peg.specs.Rows.{beyond}

-- one more order has the next number
pub numbered_more : (n k : ℕ) (orders : List Order) (d : Order) → k < length orders → enumerate_from n (take (k + 1) orders) ≡ enumerate_from n (take k orders) ++ (k + n, get_or orders k d) ∷ []
numbered_more n k [] d h = absurd (omega (arith, h))
numbered_more n zero (o ∷ orders) d h =
    let none : n ≡ 0 + n = omega arith in
    ap (λ j. (j, o) ∷ []) none
numbered_more n (suc k) (o ∷ orders) d h =
    let next : suc k + 1 ≡ suc (k + 1) = omega arith in
    let number : k + (n + 1) ≡ suc k + n = omega arith in
    ap (λ j. enumerate_from n (take j (o ∷ orders))) next
    ∙ ap (λ l. (n, o) ∷ l) (numbered_more (n + 1) k orders d (omega (arith, h)))
    ∙ ap (λ j. (n, o) ∷ (enumerate_from (n + 1) (take k orders) ++ (j, get_or orders k d) ∷ [])) number

-- the rows of one more line
pub one_line : {Y : Type 0} (f : ℕ → List Y) (old : List Y) (places : List ℕ) (k : ℕ) (so_far now : List Y) → k < length places → so_far ≡ old ++ flat_map f (take k places) → now ≡ so_far ++ f (get_or places k 0) → now ≡ old ++ flat_map f (take (k + 1) places)
one_line f old places k so_far now h is told =
    told ∙ ap (λ l. l ++ f (get_or places k 0)) is
    ∙ append_assoc old (flat_map f (take k places)) (f (get_or places k 0))
    ∙ ap (λ l. old ++ (flat_map f (take k places) ++ l)) (sym (append-nil (f (get_or places k 0))))
    ∙ ap (λ l. old ++ l) (sym (flat_map-append f (take k places) (get_or places k 0 ∷ [])))
    ∙ ap (λ l. old ++ flat_map f l) (sym (take_more places k 0 h))

-- what is made of one more element, if it is kept
pub one_kept : {X Y : Type 0} (f : X → Y) (keep : Y → Bool) (old so_far now : List Y) (xs : List X) (k : ℕ) (x : X) → k < length xs → x ≡ get_or xs k x
    → so_far ≡ old ++ filter keep (map f (take k xs)) → now ≡ so_far ++ cond (keep (f x)) (f x ∷ []) [] → now ≡ old ++ filter keep (map f (take (k + 1) xs))
one_kept f keep old so_far now xs k x h at is told =
    told ∙ ap (λ l. l ++ cond (keep (f x)) (f x ∷ []) []) is
    ∙ append_assoc old (filter keep (map f (take k xs))) (cond (keep (f x)) (f x ∷ []) [])
    ∙ ap (λ l. old ++ l) (sym (filter-append keep (map f (take k xs)) (f x ∷ [])))
    ∙ ap (λ l. old ++ filter keep l) (sym (map-append f (take k xs) (x ∷ [])))
    ∙ ap (λ y. old ++ filter keep (map f (take k xs ++ y ∷ []))) at
    ∙ ap (λ l. old ++ filter keep (map f l)) (sym (take_more xs k x h))

-- the rows of one more week
pub pushed_week : {Y : Type 0} (f : ℕ → List Y) (old so_far now : List Y) (k : ℕ) → so_far ≡ old ++ flat_map f (weeks k) → now ≡ so_far ++ f (k + 1) → now ≡ old ++ flat_map f (weeks (k + 1))
pushed_week f old so_far now k is told =
    told ∙ ap (λ l. l ++ f (k + 1)) is ∙ append_assoc old (flat_map f (weeks k)) (f (k + 1)) ∙ ap (λ l. old ++ l) (sym (flat_map-weeks_next f k))

pub default_any : (xs : List ℕ) (k d e : ℕ) → k < length xs → get_or xs k d ≡ get_or xs k e
default_any [] k d e h = absurd (omega (arith, h))
default_any (x ∷ xs) zero d e h = refl
default_any (x ∷ xs) (suc k) d e h = default_any xs k d e (omega (arith, h))

-- what a week has at a place
pub week_next : (xs : List ℕ) (at place x : ℕ) → at ≡ place → place < length xs → x ≡ get_or xs at x → x ≡ in_week xs (place + 1)
week_next xs at place x e h is = is ∙ ap (λ j. get_or xs j x) e ∙ default_any xs place x 0 h ∙ sym (in_week_next xs place)

pub no_bookings : (demand : List ℕ) → demand ≡ row (length demand) (beyond demand [])
no_bookings demand = row_is demand (beyond demand []) (length demand) refl (λ t a b. plain (in_week demand t))
  where
    plain : (n : ℕ) → n ≡ n - 0
    plain n = omega arith

-- one more booking leaves its week less
pub less_booked : (demand left : List ℕ) (bookings : List Due) (k : ℕ) (b : Due) (at here less : ℕ) → k < length bookings → b ≡ get_or bookings k b → IsInRange 1 (length demand) b.week → at ≡ b.week
    → left ≡ row (length demand) (beyond demand (take k bookings)) → here ≡ get_or left (at - 1) here → less ≡ here - b.quantity
    → set left (at - 1) less ≡ row (length demand) (beyond demand (take (k + 1) bookings))
less_booked demand left bookings k b at here less h is within on so_far there told =
    let was : in_week left b.week ≡ beyond demand (take k bookings) b.week = ap (λ l. in_week l b.week) so_far ∙ in_week_row (beyond demand (take k bookings)) (length demand) b.week (omega (arith, within.0)) within.1 in
    let size : length left ≡ length demand = ap length so_far ∙ length-row (beyond demand (take k bookings)) (length demand) in
    let own : here ≡ in_week left b.week = there ∙ ap (λ j. get_or left (j - 1) here) on ∙ default_any left (b.week - 1) here 0 (omega (arith, within.0, within.1, size)) ∙ sym (in_week_at left b.week (omega (arith, within.0))) in
    let more : (t : ℕ) → due_sum (take (k + 1) bookings) t ≡ due_sum (take k bookings) t + one_due t b = λ t. due_sum_more bookings k b t h ∙ ap (λ x. due_sum (take k bookings) t + one_due t x) (sym is) in
    let whole : one_due b.week b ≡ b.quantity = ap (λ t. cond t b.quantity 0) (eq-eqb b.week b.week refl) in
    ap (λ j. set left (j - 1) less) on
    ∙ sym (with_week_at left b.week less (omega (arith, within.0)))
    ∙ ap (λ l. with_week l b.week less) so_far
    ∙ with_week-row (beyond demand (take k bookings)) (beyond demand (take (k + 1) bookings)) (length demand) b.week less (omega (arith, within.0)) within.1
    (omega (arith, told, own, was, more b.week, whole))
    (λ other no. let none : one_due other b ≡ 0 = ap (λ t. cond t b.quantity 0) (ne_eqb b.week other (λ e. no (sym e))) in omega (arith, more other, none))
