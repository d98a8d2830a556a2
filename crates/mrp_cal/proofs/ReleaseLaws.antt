-- What holds of every release by shop days.
use Rattle.std.proofs.Common.{◌≡◌, ℕ, zero, suc, ◌+◌, ◌-◌, ◌*◌, ◌<◌, ◌≤◌, inl, inr, refl, subst, arith, max}
use Rattle.std.specs.Prelude.{nat_lt}
use Rattle.std.specs.Int.{IsInRange}
use Rattle.std.proofs.lemmas.Bool.{cases_Bool, le-ltb, lt-ltb, ltb-true, ltb-false, ne_eqb}
use Rattle.mrp_cal.specs.Calendar.{ShopCalendar}
use Rattle.mrp_cal.specs.ShopDays.{shop_days_in}
use Rattle.mrp_cal.specs.Releases.{IsOfWeek, first_shop_day, release_of, week_of_shop_day}
use Rattle.mrp_cal.proofs.FirstDays.{first_shop_day-first, first_shop_day-le, first_shop_day-none, first_shop_day-next, of_its_week, week_of_shop_day-is}

-- the horizon has the shop day
released-in : (c : ShopCalendar) (due lead : ℕ) → 0 < lead → lead < first_shop_day c due → release_of c due lead ≡ (week_of_shop_day c due (first_shop_day c due - lead), 0)
released-in c due lead some before = rw (ne_eqb lead 0 (λ e. omega arith), lt-ltb lead (first_shop_day c due) before) refl

-- the horizon has no such day
released-late : (c : ShopCalendar) (due lead : ℕ) → 0 < lead → first_shop_day c due ≤ lead → release_of c due lead ≡ (1, (1 + lead) - first_shop_day c due)
released-late c due lead some past = rw (ne_eqb lead 0 (λ e. omega arith), le-ltb lead (first_shop_day c due) past) refl

-- a week has a first shop day
some_day : (c : ShopCalendar) (due : ℕ) → 1 ≤ due → 1 ≤ first_shop_day c due
some_day c due from = omega (arith, first_shop_day-first c, first_shop_day-le c 1 due (omega arith) from)

pub released-within : (c : ShopCalendar) (due lead : ℕ) → 1 ≤ due → IsInRange 1 due (release_of c due lead).0
released-within c due zero from = (from, omega arith)
released-within c due (suc less) from =
    let lead : ℕ = suc less in
    elim (cases_Bool (nat_lt lead (first_shop_day c due))) [
      | inl before ↦
          let day = first_shop_day c due - lead in
          let h : lead < first_shop_day c due = ltb-true _ _ before in
          let found = of_its_week c due day from (omega (arith, h)) (omega (arith, some_day c due from)) in
          rw (released-in c due lead (omega arith) h) (found.0.from, omega (arith, found.1))
      | inr past ↦ rw (released-late c due lead (omega arith) (ltb-false _ _ past)) (omega arith, from)
    ]

-- an order that is not late starts on a shop day of its week, so many shop days before the due week's first
pub released-on : (c : ShopCalendar) (due lead : ℕ) → 1 ≤ due → 0 < lead → lead < first_shop_day c due → IsOfWeek c (first_shop_day c due - lead) (release_of c due lead).0
released-on c due lead from some before =
    let found = of_its_week c due (first_shop_day c due - lead) from (omega (arith, before)) (omega (arith, some, some_day c due from)) in
    rw (released-in c due lead some before) found.0

-- of two shop days the later one is of no earlier week
in_order : (c : ShopCalendar) (day later week next : ℕ) → day ≤ later → IsOfWeek c day week → IsOfWeek c later next → week ≤ next
in_order c day later week next le one other =
    elim (cases_Bool (nat_lt next week)) [
      | inl less ↦
          let h : next < week = ltb-true _ _ less in
          let past = first_shop_day-le c (next + 1) week (omega arith) (omega (arith, h)) in
          absurd (omega (arith, le, past, one.own, other.next))
      | inr not_less ↦ ltb-false _ _ not_less
    ]

rises_from : (c : ShopCalendar) (lead due later : ℕ) → 1 ≤ due → due ≤ later → (release_of c due lead).0 ≤ (release_of c later lead).0
rises_from c zero due later from le = le
rises_from c (suc less) due later from le =
    let lead : ℕ = suc less in
    let firsts = first_shop_day-le c due later from le in
    elim (cases_Bool (nat_lt lead (first_shop_day c due))) [
      | inl before ↦
          let h : lead < first_shop_day c due = ltb-true _ _ before in
          in_order c (first_shop_day c due - lead) (first_shop_day c later - lead) (release_of c due lead).0 (release_of c later lead).0 (omega (arith, firsts))
          (released-on c due lead from (omega arith) h) (released-on c later lead (omega (arith, from, le)) (omega arith) (omega (arith, h, firsts)))
      | inr past ↦
          let within = released-within c later lead (omega (arith, from, le)) in
          rw (released-late c due lead (omega arith) (ltb-false _ _ past)) within.0
    ]

pub released-rises : (c : ShopCalendar) (lead due later : ℕ) → due ≤ later → (release_of c due lead).0 ≤ (release_of c later lead).0
released-rises c zero due later le = le
released-rises c (suc less) zero zero le = omega arith
released-rises c (suc less) zero (suc later) le =
    rw (released-late c 0 (suc less) (omega arith) (omega (arith, first_shop_day-none c))) (released-within c (suc later) (suc less) (omega arith)).0
released-rises c (suc less) (suc due) later le = rises_from c (suc less) (suc due) later (omega arith) le

-- weeks of equally many shop days
record AreEven (c : ShopCalendar) (days last : ℕ) : Type 0 where
  each : (week : ℕ) → IsInRange 1 last week → shop_days_in c week ≡ days

even_first : (c : ShopCalendar) (days before : ℕ) → AreEven c days before → first_shop_day c (before + 1) ≡ 1 + days * before
even_first c days zero even = omega (arith, first_shop_day-first c)
even_first c days (suc before) even =
    let own = even.each (before + 1) (omega arith, omega arith) in
    let rest = even_first c days before (record { each = λ week within. even.each week (within.0, omega (arith, within.1)) }) in
    let next = first_shop_day-next c (before + 1) (omega arith) in
    let on : suc before + 1 ≡ (before + 1) + 1 = omega arith in
    let product : days * suc before ≡ days * before + days = omega arith in
    rw (on, product) (omega (arith, own, rest, next))

-- the week is there
even_in : (c : ShopCalendar) (days m w : ℕ) → 0 < days → AreEven c days (m + suc w) → release_of c ((m + suc w) + 1) (days * suc w) ≡ (m + 1, 0)
even_in c days m w some even =
    let due = even_first c days (m + suc w) even in
    let own = even_first c days m (record { each = λ week within. even.each week (within.0, omega (arith, within.1)) }) in
    let next = even_first c days (m + 1) (record { each = λ week within. even.each week (within.0, omega (arith, within.1)) }) in
    let lead : 0 < days * suc w = omega (arith, some) in
    let before : days * suc w < first_shop_day c ((m + suc w) + 1) = omega (arith, due) in
    let day : first_shop_day c ((m + suc w) + 1) - days * suc w ≡ 1 + days * m = omega (arith, due) in
    let last : (m + 1) + suc w ≡ (m + suc w) + 1 = omega arith in
    let is : week_of_shop_day c ((m + suc w) + 1) (1 + days * m) ≡ m + 1 =
    rw last at (week_of_shop_day-is c (m + 1) (suc w) (1 + days * m) (omega arith) (omega (arith, own)) (omega (arith, next, some))) in
    rw (released-in c ((m + suc w) + 1) (days * suc w) lead before, day, is) refl

-- the week is not there
even_late : (c : ShopCalendar) (days p q : ℕ) → 0 < days → AreEven c days p → release_of c (p + 1) (days * ((p + 1) + q)) ≡ (1, days * (q + 1))
even_late c days p q some even =
    let due = even_first c days p even in
    let lead : 0 < days * ((p + 1) + q) = omega (arith, some) in
    let past : first_shop_day c (p + 1) ≤ days * ((p + 1) + q) = omega (arith, due, some) in
    let late : (1 + days * ((p + 1) + q)) - first_shop_day c (p + 1) ≡ days * (q + 1) = omega (arith, due) in
    rw (released-late c (p + 1) (days * ((p + 1) + q)) lead past, late) refl

-- where each week before the due week has as many shop days, a lead time of whole weeks counts weeks, and a week late as many days
pub released-even : (c : ShopCalendar) (days due weeks : ℕ) → 1 ≤ due → 0 < days → ((week : ℕ) → 1 ≤ week → week < due → shop_days_in c week ≡ days)
    → release_of c due (days * weeks) ≡ (max 1 (due - weeks), days * ((1 + weeks) - due))
released-even c days due zero from some each =
    let none : days * zero ≡ 0 = omega arith in
    let week : max 1 (due - zero) ≡ due = omega (arith, from) in
    let late : (1 + zero) - due ≡ 0 = omega (arith, from) in
    rw (none, week, late, none) refl
released-even c days due (suc w) from some each =
    elim (cases_Bool (nat_lt (suc w) due)) [
      | inl less ↦
          let h : suc w < due = ltb-true _ _ less in
          let m : ℕ = (due - suc w) - 1 in
          let is : (m + suc w) + 1 ≡ due = omega (arith, h) in
          let week : max 1 (due - suc w) ≡ m + 1 = omega (arith, h) in
          let late : (1 + suc w) - due ≡ 0 = omega (arith, h) in
          let none : days * 0 ≡ 0 = omega arith in
          let even = even_in c days m w some (record { each = λ k within. each k within.0 (omega (arith, is, within.1)) }) in
          rw (week, late, none) (subst (λ d. release_of c d (days * suc w) ≡ (m + 1, 0)) is even)
      | inr other ↦
          let h : due ≤ suc w = ltb-false _ _ other in
          let p : ℕ = due - 1 in
          let q : ℕ = suc w - due in
          let is : p + 1 ≡ due = omega (arith, from) in
          let weeks : (p + 1) + q ≡ suc w = omega (arith, from, h) in
          let week : max 1 (due - suc w) ≡ 1 = omega (arith, h) in
          let late : (1 + suc w) - due ≡ q + 1 = omega (arith, h) in
          let even = even_late c days p q some (record { each = λ k within. each k within.0 (omega (arith, is, within.1)) }) in
          rw (week, late) (subst (λ d. release_of c d (days * suc w) ≡ (1, days * (q + 1))) is (subst (λ n. release_of c (p + 1) (days * n) ≡ (1, days * (q + 1))) weeks even))
    ]
