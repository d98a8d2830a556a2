use Rattle.std.proofs.Common.{◌≡◌, ◌∙◌, ◌≤◌, ◌-◌, ◌*◌, arith, pos, ◌+ℤ◌}
use Rattle.std.proofs.lemmas.Int.{ints}
use Rattle.jiff.specs.Words.{epoch_day}
use Rattle.jiff.proofs.Family.{same_date}
use Rattle.mrp_advice.specs.Dates.{last_day}
use Rattle.mrp_advice.proofs.Days.{last_day-is}
use Rattle.mrp_advice.proofs.date.ends_of.Goals as goal

pub returns : goal.returns
returns c =
    let calendar = c.args.calendar.now in
    let first : c.first_day-first.result ≡ calendar.start = same_date c.first_day-first.result calendar.start (omega (arith, ints, c.first_day-first.ensures.day)) in
    let some : 1 ≤ calendar.weeks = omega (arith, c.weeks-weeks.ensures.value, c.weeks-weeks.ensures.bound.0) in
    let monday : epoch_day c.first_day-last_monday.result ≡ epoch_day calendar.start +ℤ pos (7 * (calendar.weeks - 1)) = omega (arith, ints, c.first_day-last_monday.ensures.day, c.weeks-weeks.ensures.value) in
    let last : c.six_days_after.result ≡ last_day calendar = c.six_days_after.ensures ∙ last_day-is calendar.start c.first_day-last_monday.result calendar.weeks some monday in
    cc
