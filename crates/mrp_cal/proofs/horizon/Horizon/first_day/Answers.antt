use Rattle.std.proofs.Common.{◌≡◌, ◌-◌, ◌*◌, ◌∙◌, refl, ap, arith, pos, FitsSigned, w64}
use Rattle.std.proofs.lemmas.Int.{ints, to_z-of_z}
use Rattle.jiff.specs.Words.{epoch_day}
use Rattle.jiff.proofs.SpanFacts.{can_add-days, date_add-days}
use Rattle.mrp_cal.specs.ShopDays.{first_day_of}
use Rattle.mrp_cal.proofs.Weekdays.{has_days, week_of-first_day}
use Rattle.mrp_cal.proofs.horizon.Horizon.first_day.Goals as goal

pub add-requires : goal.add-requires
add-requires c =
    let number : c.from.result ≡ pos (7 * (c.args.week - 1)) = omega (arith, ints) in
    let fits : FitsSigned w64 c.from.result = omega (arith, ints) in
    let only = simp to_z-of_z at c.days.ensures in
    (can_add-days c.self.inside.start c.from.result c.days.result only).1
    (rw number (has_days c.self.inside.start (7 * (c.args.week - 1)) c.self.invariant.start_year (omega (arith, c.self.invariant.weeks_in, ap (λ s. s.weeks) c.self.view_is))))

pub returns : goal.returns
returns c =
    let number : c.from.result ≡ pos (7 * (c.args.week - 1)) = omega (arith, ints) in
    let fits : FitsSigned w64 c.from.result = omega (arith, ints) in
    let only = simp to_z-of_z at c.days.ensures in
    let day : epoch_day c.add.result ≡ first_day_of c.args.self.now c.args.week = c.add.ensures ∙ date_add-days c.self.inside.start c.from.result c.days.result only ∙ rw (number, ← c.self.view_is) refl in
    record { day = day; within = week_of-first_day c.args.self.now c.add.result c.args.week c.requires day }
