use Rattle.std.proofs.Common.{◌≡◌, ◌<◌, get_or, refl, ap, ◌∙◌, arith}
use Rattle.std.proofs.lemmas.Bool.{le-ltb, lt-ltb, ne_eqb}
use Rattle.mrp_cal.specs.Releases.{first_shop_day}
use Rattle.mrp_cal.proofs.FirstDays.{first_days-at}
use Rattle.mrp_cal.proofs.calendar.Calendar.release.Goals as goal

pub returns-then-lead-first : goal.returns-then-lead-first
returns-then-lead-first c =
    let own = c.self.inside.horizon in
    let first : get_or c.self.inside.first_shop_days c.from.result 0 ≡ first_shop_day c.args.self.now c.args.due =
    rw c.from.ensures (first_days-at own c.self.inside.first_shop_days own.weeks c.args.due c.self.invariant.numbered (rw (← c.self.view_is) at c.requires.due) ∙ ap (λ k. first_shop_day k c.args.due) c.self.view_is) in
    let below : c.args.lead < first_shop_day c.args.self.now c.args.due = rw first at c.if-lead-first.true in
    rw (ne_eqb _ _ c.if-lead-eq0.false, lt-ltb _ _ below, c.week_of_shop_day.ensures, first) refl

pub returns-else-lead-first : goal.returns-else-lead-first
returns-else-lead-first c =
    let own = c.self.inside.horizon in
    let first : get_or c.self.inside.first_shop_days c.from.result 0 ≡ first_shop_day c.args.self.now c.args.due =
    rw c.from.ensures (first_days-at own c.self.inside.first_shop_days own.weeks c.args.due c.self.invariant.numbered (rw (← c.self.view_is) at c.requires.due) ∙ ap (λ k. first_shop_day k c.args.due) c.self.view_is) in
    rw (ne_eqb _ _ c.if-lead-eq0.false, le-ltb _ _ (rw first at c.if-lead-first.false), first) (ap (λ late. (1, late)) (omega arith))
