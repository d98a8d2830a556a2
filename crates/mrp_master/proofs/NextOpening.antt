-- The buckets of the weeks that open one: what is due before the next one opens, and what that one lacks.
use Rattle.std.proofs.Common.{ℕ, zero, suc, ◌≡◌, ◌≤◌, ◌<◌, ◌+◌, ◌-◌, length, arith, refl, subst, ap}
use Rattle.mrp_phase.specs.Weeks.{in_week, sum_to}
use Rattle.mrp_phase.proofs.WeekRows.{sum_to_rises, sum_to_suc}
use Rattle.mrp_master.specs.AtpRow.{AtpRow, IsNextOpening, IsWeekOf, booked_until, bucket, lacking, lacking_from}

module _ (r : AtpRow) where
  -- a week lacks what is due in it and what the later ones lack, less its supply
  lacking-week : (t : ℕ) → suc t ≤ length r.supply → lacking_from r (suc t) ≡ in_week r.booked (suc t) + lacking_from r (suc (suc t)) - in_week r.supply (suc t)
  unfolding lacking
  lacking-week t h =
      let here : length r.supply + 1 - suc t ≡ suc (length r.supply + 1 - suc (suc t)) = omega arith in
      ap (λ n. lacking r n (suc t)) here

  -- what weeks without supply lack, up to the next that opens a bucket
  lacking-until : (more t next : ℕ) → t + more ≡ next → next ≤ length r.supply + 1 → 1 ≤ t → ((w : ℕ) → t ≤ w → w < next → in_week r.supply w ≡ 0) → lacking_from r t ≡ booked_until r t next + lacking_from r next
  lacking-until zero t next e last first none =
      let same : t ≡ next = omega arith in
      omega (arith, ap (lacking_from r) same, ap (λ w. sum_to r.booked (w - 1)) same)
  lacking-until (suc more) zero next e last first none = absurd (omega arith)
  lacking-until (suc more) (suc t) next e last first none =
      let rest = lacking-until more (suc (suc t)) next (omega arith) last (omega arith) (λ w a b. none w (omega arith) b) in
      let back : suc (suc t) - 1 ≡ suc t = omega arith in
      let before : suc t - 1 ≡ t = omega arith in
      omega (
        arith,
        rest,
        lacking-week t (omega arith),
        none (suc t) (omega arith) (omega arith),
        sum_to_suc r.booked t,
        sum_to_rises r.booked (suc t) (next - 1) (omega arith),
        ap (sum_to r.booked) back,
        ap (sum_to r.booked) before,
      )

  module _ (week next : ℕ) (w : IsWeekOf r week) (n : IsNextOpening r week next) where
    -- what is lacking after a week that opens a bucket
    after : lacking_from r (suc week) ≡ booked_until r (suc week) next + lacking_from r next
    after = lacking-until (next - suc week) (suc week) next (omega (arith, n.0)) n.1 (omega arith) (λ t a b. n.2 t (omega arith) b)

    -- with what is due in it
    due : in_week r.booked week + lacking_from r (suc week) ≡ booked_until r week next + lacking_from r next
    due = by week refl
      where
        by : (v : ℕ) → v ≡ week → in_week r.booked week + lacking_from r (suc week) ≡ booked_until r week next + lacking_from r next
        by zero e = absurd (omega (arith, w.0))
        by (suc t) e =
            let one : sum_to r.booked week ≡ sum_to r.booked (week - 1) + in_week r.booked week = omega (arith, sum_to_suc r.booked t, ap (sum_to r.booked) e, ap (in_week r.booked) e, ap (λ x. sum_to r.booked (x - 1)) e, ap (sum_to r.booked) (let x : suc t - 1 ≡ t = omega arith in x)) in
            let back : suc week - 1 ≡ week = omega arith in
            omega (arith, one, after, ap (sum_to r.booked) back, sum_to_rises r.booked week (next - 1) (omega (arith, n.0)))

    pub opening-bucket : bucket r week ≡ in_week r.supply week - (booked_until r week next + lacking_from r next)
    opening-bucket =
        let rest : length r.supply + 1 - suc week ≡ length r.supply - week = omega arith in
        omega (arith, due, ap (λ x. lacking r x (suc week)) rest)

    pub overdrawn-bucket : lacking_from r week ≡ (booked_until r week next + lacking_from r next) - in_week r.supply week
    overdrawn-bucket = by week refl
      where
        by : (v : ℕ) → v ≡ week → lacking_from r week ≡ (booked_until r week next + lacking_from r next) - in_week r.supply week
        by zero e = absurd (omega (arith, w.0))
        by (suc t) e =
            let here : lacking_from r week ≡ in_week r.booked week + lacking_from r (suc week) - in_week r.supply week =
            subst (λ x. lacking_from r x ≡ in_week r.booked x + lacking_from r (suc x) - in_week r.supply x) e (lacking-week t (omega (arith, w.1))) in
            omega (arith, here, due)

  -- after the last week nothing is lacking
  pub none-lacking : lacking_from r (length r.supply + 1) ≡ 0
  unfolding lacking
  none-lacking =
      let none : length r.supply + 1 - (length r.supply + 1) ≡ 0 = omega arith in
      ap (λ n. lacking r n (length r.supply + 1)) none
