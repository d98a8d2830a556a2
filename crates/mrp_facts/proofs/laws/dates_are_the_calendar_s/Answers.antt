use Rattle.mrp_cal.proofs.Weekdays.{week_of-first_day}
use Rattle.mrp_facts.proofs.laws.dates_are_the_calendar_s.Goals as goal

pub returns : goal.returns
returns c = λ calendar texts week are within.
    let is = are.each week within in
    (is.date, week_of-first_day calendar is.date week within is.day, is.shown)
