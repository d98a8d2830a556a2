-- The numbers of the weeks' first shop days, and the week of a shop day.
use Rattle.std.proofs.Common.{◌≡◌, ℕ, zero, suc, ◌+◌, ◌-◌, ◌<◌, ◌≤◌, inl, inr, Bool, true, false, cond, nat_le, List, [], ◌∷◌, length, map, get_or, take, refl, ap, sym, subst, ◌∙◌, arith}
use Rattle.std.specs.Prelude.{sum, count_by}
use Rattle.std.specs.List.{range_with_len}
use Rattle.std.specs.Int.{IsInRange}
use Rattle.std.specs.List.Sorted.{IsNonDecreasingBy, IsPartitionPoint}
use Rattle.std.proofs.lemmas.Bool.{cases_Bool, le-leb, leb-true}
use Rattle.std.proofs.lemmas.List.Sums.{sum_by-cons}
use Rattle.std.proofs.lemmas.List.{get_or-take, take-take}
use Rattle.std.proofs.lemmas.List.FromFn.{get_or-map-range_with_len, length-map-range_with_len, sum_by-map-range_with_len_more, take-map-range_with_len}
use Rattle.mrp_cal.specs.Calendar.{ShopCalendar}
use Rattle.mrp_cal.specs.ShopDays.{shop_days_in}
use Rattle.mrp_cal.specs.Releases.{IsOfWeek, first_days, first_shop_day, week_of_shop_day}

-- the first week's is 1
pub first_shop_day-first : (c : ShopCalendar) → first_shop_day c 1 ≡ 1
unfolding first_shop_day
first_shop_day-first c = refl

-- and so is that of no week
pub first_shop_day-none : (c : ShopCalendar) → first_shop_day c 0 ≡ 1
unfolding first_shop_day
first_shop_day-none c = refl

-- the next week's comes after a week's shop days
pub first_shop_day-next : (c : ShopCalendar) (week : ℕ) → 1 ≤ week → first_shop_day c (week + 1) ≡ first_shop_day c week + shop_days_in c week
unfolding first_shop_day
first_shop_day-next c week from =
    let before : (week + 1) - 1 ≡ (week - 1) + 1 = omega (arith, from) in
    let more = sum_by-map-range_with_len_more (λ (n : ℕ). n) (shop_days_in c) 1 (week - 1) week (omega (arith, from)) in
    let sums : sum (map (shop_days_in c) (range_with_len 1 ((week - 1) + 1))) ≡ sum (map (shop_days_in c) (range_with_len 1 (week - 1))) + shop_days_in c week = more in
    rw before (omega (arith, sums))

-- they never fall
pub first_shop_day-rises : (c : ShopCalendar) (week more : ℕ) → 1 ≤ week → first_shop_day c week ≤ first_shop_day c (week + more)
first_shop_day-rises c week zero from = let same : week + zero ≡ week = omega arith in rw same (omega arith)
first_shop_day-rises c week (suc more) from =
    let before = first_shop_day-rises c week more from in
    let next = first_shop_day-next c (week + more) (omega (arith, from)) in
    let same : week + suc more ≡ (week + more) + 1 = omega arith in
    rw same (omega (arith, before, next))

pub first_shop_day-le : (c : ShopCalendar) (week later : ℕ) → 1 ≤ week → week ≤ later → first_shop_day c week ≤ first_shop_day c later
first_shop_day-le c week later from le =
    let same : later ≡ week + (later - week) = omega (arith, le) in
    rw same (first_shop_day-rises c week (later - week) from)

-- one week more
week_of_shop_day-more : (c : ShopCalendar) (last day : ℕ) → week_of_shop_day c (last + 1) day ≡ week_of_shop_day c last day + cond (nat_le (first_shop_day c (last + 1)) day) 1 0
unfolding week_of_shop_day
week_of_shop_day-more c last day = sum_by-map-range_with_len_more (λ (first : ℕ). cond (nat_le first day) 1 0) (first_shop_day c) 1 last (last + 1) (omega arith)

week_of_shop_day-none : (c : ShopCalendar) (day : ℕ) → week_of_shop_day c 0 day ≡ 0
unfolding week_of_shop_day
week_of_shop_day-none c day = refl

-- all weeks that have begun by a day
begun : (c : ShopCalendar) (last day : ℕ) → (1 ≤ last → first_shop_day c last ≤ day) → week_of_shop_day c last day ≡ last
begun c zero day h = week_of_shop_day-none c day
begun c (suc last) day h =
    let on : suc last ≡ last + 1 = omega arith in
    let own : first_shop_day c (last + 1) ≤ day = rw on at (h (omega arith)) in
    let before = begun c last day (λ from. omega (arith, own, first_shop_day-le c last (last + 1) from (omega arith))) in
    rw on (rw (week_of_shop_day-more c last day, before, le-leb (first_shop_day c (last + 1)) day own) refl)

-- a day before the next week's first is of the week that has begun by it
pub week_of_shop_day-is : (c : ShopCalendar) (week more day : ℕ) → 1 ≤ week → first_shop_day c week ≤ day → day < first_shop_day c (week + 1) → week_of_shop_day c (week + more) day ≡ week
week_of_shop_day-is c week zero day from own next =
    let same : week + zero ≡ week = omega arith in rw same (begun c week day (λ some. own))
week_of_shop_day-is c week (suc more) day from own next =
    let same : week + suc more ≡ (week + more) + 1 = omega arith in
    let past : day < first_shop_day c ((week + more) + 1) = omega (arith, next, first_shop_day-le c (week + 1) ((week + more) + 1) (omega arith) (omega arith)) in
    let not_begun : nat_le (first_shop_day c ((week + more) + 1)) day ≡ false = grind arith in
    rw same (rw (week_of_shop_day-more c (week + more) day, not_begun) (omega (arith, week_of_shop_day-is c week more day from own next)))

-- a day before a week's first shop day is of an earlier week
pub earlier_week : (c : ShopCalendar) (last day : ℕ) → 1 ≤ day → day < first_shop_day c (last + 1) → (week : ℕ) × (week ≤ last) × IsOfWeek c day week
earlier_week c zero day some before = absurd (omega (arith, some, before, first_shop_day-first c))
earlier_week c (suc last) day some before =
    elim (cases_Bool (nat_le (first_shop_day c (suc last)) day)) [
      | inl begun ↦ (suc last, omega arith, record { from = omega arith; own = leb-true _ _ begun; next = before })
      | inr not_begun ↦
          let on : suc last ≡ last + 1 = omega arith in
          let past : day < first_shop_day c (last + 1) = rw on at (leb-false _ _ not_begun) in
          let found = earlier_week c last day some past in
          (found.0, omega (arith, found.1), found.2)
    ]
  where
    leb-false : (a b : ℕ) → nat_le a b ≡ false → b < a
    leb-false a b h = grind arith

-- the week that is told is that week
pub of_its_week : (c : ShopCalendar) (due day : ℕ) → 1 ≤ due → 1 ≤ day → day < first_shop_day c due → IsOfWeek c day (week_of_shop_day c due day) × (week_of_shop_day c due day < due)
of_its_week c due day from some before =
    let same : due ≡ (due - 1) + 1 = omega (arith, from) in
    let found = earlier_week c (due - 1) day some (rw same at before) in
    let is : week_of_shop_day c due day ≡ found.0 =
    subst (λ last. week_of_shop_day c last day ≡ found.0) (omega (arith, found.1, from)) (week_of_shop_day-is c found.0 (due - found.0) day found.2.from found.2.own found.2.next) in
    rw is (found.2, omega (arith, found.1, from))

-- a slice is parted where as many pass as are before that place
pub count_by-parted : {X : Type 0} (p : X → Bool) (xs : List X) (i : ℕ) → i ≤ length xs → IsPartitionPoint (λ y. p y ≡ true) (λ y. p y ≡ false) xs i → count_by p xs ≡ i
count_by-parted p [] zero le parted = refl
count_by-parted p [] (suc i) le parted = absurd (omega arith)
count_by-parted p (x ∷ xs) zero le parted =
    let own : p x ≡ false = parted.1 0 x (omega arith) (omega arith) in
    let rest = count_by-parted p xs 0 (omega arith) (λ k d from lt. absurd (omega arith), λ k d from lt. parted.1 (suc k) d (omega arith) (omega arith)) in
    rw (sum_by-cons, own) (omega (arith, rest))
count_by-parted p (x ∷ xs) (suc i) le parted =
    let own : p x ≡ true = parted.0 0 x (omega arith) (omega arith) in
    let rest = count_by-parted p xs i (omega arith) (λ k d from lt. parted.0 (suc k) d (omega arith) (omega arith), λ k d from lt. parted.1 (suc k) d (omega arith) (omega arith)) in
    rw (sum_by-cons, own) (omega (arith, rest))

-- the numbers of the weeks up to one rise
pub first_days-rise : (c : ShopCalendar) (last : ℕ) → IsNonDecreasingBy (λ first. first) (first_days c last)
first_days-rise c last i j d le lt =
    let long = length-map-range_with_len (first_shop_day c) 1 last in
    let below : j < last = omega (arith, lt, long) in
    rw (
      get_or-map-range_with_len (first_shop_day c) 1 last i (i + 1) d (omega (arith, le, below)) (omega arith),
      get_or-map-range_with_len (first_shop_day c) 1 last j (j + 1) d below (omega arith),
    )
    (first_shop_day-le c (i + 1) (j + 1) (omega arith) (omega (arith, le)))

-- the first weeks of those that are numbered
pub first_days-taken : (c : ShopCalendar) (days : List ℕ) (weeks last : ℕ) → take weeks days ≡ first_days c weeks → last ≤ weeks → take last days ≡ first_days c last
first_days-taken c days weeks last are le =
    sym (take-take last weeks days le) ∙ ap (take last) are ∙ take-map-range_with_len (first_shop_day c) 1 weeks last le

-- one of them
pub first_days-at : (c : ShopCalendar) (days : List ℕ) (weeks week : ℕ) → take weeks days ≡ first_days c weeks → IsInRange 1 weeks week → get_or days (week - 1) 0 ≡ first_shop_day c week
first_days-at c days weeks week are within =
    sym (get_or-take weeks days (week - 1) 0 (omega (arith, within.0, within.1))) ∙ ap (λ xs. get_or xs (week - 1) 0) are
    ∙ get_or-map-range_with_len (first_shop_day c) 1 weeks (week - 1) week 0 (omega (arith, within.0, within.1)) (omega (arith, within.0))
