use Rattle.std.proofs.Common.{◌≡◌, ◌∙◌, ◌≤◌, arith, pos, ◌+ℤ◌, ◌-ℤ◌, FitsSigned, w64}
use Rattle.std.proofs.lemmas.Int.{ints, to_z-of_z}
use Rattle.jiff.specs.Words.{IsEpochDay, epoch_day, weekday_of}
use Rattle.jiff.proofs.Family.{epoch_day_range}
use Rattle.jiff.proofs.SpanFacts.{can_add-days, date_add-days}
use Rattle.mrp_advice.proofs.Days.{days_before-is, has_week_before}
use Rattle.mrp_advice.proofs.date.monday_before.Goals as goal

pub add-requires : goal.add-requires
add-requires c =
    let d = c.args.date in
    let number : c.from.result ≡ pos (weekday_of d) = omega (arith, ints, c.from.ensures, c.to_monday_zero_offset.ensures.value, c.to_monday_zero_offset.ensures.bound.0, c.to_monday_zero_offset.ensures.bound.1, c.weekday.ensures) in
    let few : weekday_of d ≤ 6 = omega (arith, ints, c.to_monday_zero_offset.ensures.value, c.to_monday_zero_offset.ensures.bound.1, c.weekday.ensures) in
    let fits : FitsSigned w64 c.from.result = omega (arith, ints, number, few) in
    let back : FitsSigned w64 (pos 0 -ℤ c.from.result) = omega (arith, ints, number, few) in
    let only = simp to_z-of_z at c.days.ensures in
    let within : IsEpochDay (epoch_day d +ℤ (pos 0 -ℤ c.from.result)) =
    (omega (arith, ints, number, has_week_before d (weekday_of d) c.requires few), omega (arith, ints, number, (epoch_day_range d).1)) in
    (can_add-days d (pos 0 -ℤ c.from.result) c.days.result only).1 within

pub returns : goal.returns
returns c =
    let d = c.args.date in
    let number : c.from.result ≡ pos (weekday_of d) = omega (arith, ints, c.from.ensures, c.to_monday_zero_offset.ensures.value, c.to_monday_zero_offset.ensures.bound.0, c.to_monday_zero_offset.ensures.bound.1, c.weekday.ensures) in
    let few : weekday_of d ≤ 6 = omega (arith, ints, c.to_monday_zero_offset.ensures.value, c.to_monday_zero_offset.ensures.bound.1, c.weekday.ensures) in
    let fits : FitsSigned w64 c.from.result = omega (arith, ints, number, few) in
    let back : FitsSigned w64 (pos 0 -ℤ c.from.result) = omega (arith, ints, number, few) in
    let only = simp to_z-of_z at c.days.ensures in
    let moved = c.add.ensures ∙ date_add-days d (pos 0 -ℤ c.from.result) c.days.result only in
    days_before-is (weekday_of d) d c.add.result (omega (arith, ints, moved, number))
