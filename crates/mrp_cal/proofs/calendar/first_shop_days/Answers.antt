use Rattle.std.proofs.Common.{◌≡◌, ◌+◌, ◌<◌, ◌≤◌, ◌≢◌, length, take, refl, sym, ◌∙◌, arith, below_more, get_or-set_other, get_or-set_same}
use Rattle.std.proofs.lemmas.List.{ext_get_or, get_or-take, length-set, length-take-le}
use Rattle.std.proofs.lemmas.List.FromFn.{get_or-map-range_with_len, length-map-range_with_len}
use Rattle.mrp_cal.specs.Releases.{first_days, first_shop_day}
use Rattle.mrp_cal.proofs.FirstDays.{first_shop_day-first, first_shop_day-next}
use Rattle.mrp_cal.proofs.calendar.first_shop_days.Goals as goal

pub loop-week-init : goal.loop-week-init
loop-week-init c = record {
  long = refl;
  next = sym (first_shop_day-first c.args.horizon.now);
  small = omega arith;
  set = λ k h. absurd (omega arith);
}

pub loop-week-preserved : goal.loop-week-preserved
loop-week-preserved c =
    let so_far = c.loop-week.invariant in
    let days = c.loop-week.first_shop_days in
    let week = c.loop-week.week in
    let own = first_shop_day-next c.args.horizon.now (week + 1) (omega arith) in
    let at : c.from.result ≡ week = c.from.ensures in
    let room : week < length days = omega (arith, c.weeks-week-end.ensures.bound) in
    record {
      long = rw length-set so_far.long;
      next = omega (arith, own, so_far.next, c.shop_days.ensures.value);
      small = omega (arith, c.shop_days.ensures.bound);
      set = rw at (below_more _ _
          (λ k h. let ne : k ≢ week = omega arith in rw get_or-set_other (so_far.set k h))
          (rw get_or-set_same so_far.next));
    }

pub returns : goal.returns
returns c =
    let weeks = c.args.horizon.now.weeks in
    let days = c.loop-week.first_shop_days in
    let end : c.loop-week.week ≡ weeks = omega (arith, c.weeks-week-end.ensures.value) in
    let long : weeks ≤ length days = omega (arith, c.weeks-week-end.ensures.bound, c.weeks-week-end.ensures.value) in
    let shown = length-take-le weeks days long in
    ext_get_or 0 (take weeks days) (first_days c.args.horizon.now weeks)
    (shown ∙ sym (length-map-range_with_len (first_shop_day c.args.horizon.now) 1 weeks))
    (λ k lt.
    let below : k < weeks = omega (arith, shown) in
    get_or-take weeks days k 0 below ∙ c.loop-week.invariant.set k (omega arith)
    ∙ sym (get_or-map-range_with_len (first_shop_day c.args.horizon.now) 1 weeks k (k + 1) 0 below (omega arith)))
