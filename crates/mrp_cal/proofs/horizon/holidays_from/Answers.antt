use Rattle.std.proofs.Common.{◌≡◌, ◌<◌, ap, sym, ◌∙◌, arith, false, Some, None, length, get_or}
use Rattle.std.proofs.Math.Bool.{or-false}
use Rattle.std.proofs.lemmas.List.{get_or-replicate, get_or-take, length-replicate, length-take-le, length-set}
use Rattle.std.proofs.lemmas.List.FromFn.{fill_by_all}
use Rattle.std.proofs.Math.Seq.{take-length}
use Rattle.mrp_cal.specs.Calendar.{days_in}
use Rattle.mrp_cal.proofs.HolidayMarks.{list_any-day_more, get_or-marked, horizon_day-below}
use Rattle.mrp_cal.proofs.horizon.holidays_from.Goals as goal
use Rattle.mrp_cal.proofs.horizon.holidays_from.Goals.{in-Some, in_default}

pub loop-holiday-init : goal.loop-holiday-init
loop-holiday-init c = record {
  long = length-replicate 728 false;
  marked = λ k h. get_or-replicate 728 k false false (omega arith);
}

pub loop-holiday-preserved : goal.loop-holiday-preserved
loop-holiday-preserved c =
    elim c.match-horizon_day.branch [
      | in-Some w ↦
          let is = ap Some w.from.ensures ∙ sym w.in-Some.is ∙ c.horizon_day.ensures in
          let below = horizon_day-below c.args.weeks w.from.result _ is in
          let room : w.from.result < length c.loop-holiday.days = omega (arith, below, c.loop-holiday.invariant.long) in
          record {
            long = rw (w.days-is, length-set) c.loop-holiday.invariant.long;
            marked = λ k h. rw (w.days-is, get_or-marked c.loop-holiday.days w.from.result k room)
                (list_any-day_more c.args.start c.args.weeks c.args.holidays.now c.loop-holiday.holiday-index k c.holiday-item.result (Some w.from.result) _ c.loop-holiday-test.true c.holiday-item.is is h (c.loop-holiday.invariant.marked k h));
          }
      | in_default w ↦ record {
        long = rw w.days-is c.loop-holiday.invariant.long;
        marked = λ k h. rw (w.days-is, ← or-false (get_or c.loop-holiday.days k false))
            (list_any-day_more c.args.start c.args.weeks c.args.holidays.now c.loop-holiday.holiday-index k c.holiday-item.result None _ c.loop-holiday-test.true c.holiday-item.is (sym w.in_default.is ∙ c.horizon_day.ensures) h (c.loop-holiday.invariant.marked k h));
      }
    ]

pub returns : goal.returns
returns c =
    let end : c.loop-holiday.holiday-index ≡ length c.args.holidays.now = omega arith in
    let marked = rw (end, take-length c.args.holidays.now) at c.loop-holiday.invariant.marked in
    fill_by_all _ _ _ false (length-take-le (days_in c.args.weeks) c.loop-holiday.days (omega (arith, c.loop-holiday.invariant.long)))
    (λ k h. get_or-take (days_in c.args.weeks) c.loop-holiday.days k false h ∙ marked k h)
