use Rattle.std.proofs.Common.{◌≡◌, ℕ, ◌+◌, ◌-◌, ◌*◌, cond, sym, ap, ◌∙◌, arith, add-zero}
use Rattle.std.proofs.lemmas.List.FromFn.{sum_by-map-range_with_len_more}
use Rattle.mrp_cal.specs.ShopDays.{is_shop_day}
use Rattle.mrp_cal.proofs.horizon.Horizon.shop_days.Goals as goal
use Rattle.mrp_cal.proofs.horizon.Horizon.shop_days.Goals.{then-is_shop_day, else-is_shop_day}

pub loop-weekday-preserved : goal.loop-weekday-preserved
loop-weekday-preserved c =
    let worked = is_shop_day c.args.self.now in
    let day = λ (weekday : ℕ). c.from-first.result * 7 + weekday in
    let weekday = c.loop-weekday.weekday in
    let more = sum_by-map-range_with_len_more (λ (d : ℕ). cond (worked d) 1 0) day 0 weekday weekday (omega arith) in
    elim c.if-is_shop_day.branch [
      | then-is_shop_day w ↦ record {
        counted = w.shop_days-is ∙ ap (λ n. n + 1) c.loop-weekday.invariant.counted ∙ sym (rw (sym c.is_shop_day.ensures ∙ w.if-is_shop_day.true) at more);
        within = omega arith;
      }
      | else-is_shop_day w ↦ record {
        counted = w.shop_days-is ∙ c.loop-weekday.invariant.counted ∙ sym (rw (sym c.is_shop_day.ensures ∙ w.if-is_shop_day.false, add-zero) at more);
        within = omega arith;
      }
    ]

pub returns-clause-value : goal.returns-clause-value
returns-clause-value c =
    let end : c.loop-weekday.weekday ≡ 7 = omega arith in
    let first : c.from-first.result * 7 ≡ 7 * (c.args.week - 1) = omega arith in
    rw (end, first) at c.loop-weekday.invariant.counted
