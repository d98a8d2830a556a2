use Rattle.std.proofs.Common.{◌≢◌, ◌∙◌, ◌+◌, refl, sym}
use Rattle.std.proofs.lemmas.Bool.{ne_eqb}
use Rattle.mrp_cal.specs.ShopDays.{shop_days_in}
use Rattle.mrp_warn.proofs.Weeks.{weeks-closed, weeks-open}
use Rattle.mrp_warn.proofs.calendar.week_warnings.Goals as goal
use Rattle.mrp_warn.proofs.calendar.week_warnings.Goals.{then-shop_days-eq0+in_ok-push, else-shop_days-eq0}

pub loop-before-preserved : goal.loop-before-preserved
loop-before-preserved c =
    let calendar = c.args.calendar.now in
    let n = c.loop-before.before in
    let ws = c.loop-before.own.items in
    elim c.if-shop_days-eq0.branch [
      | then-shop_days-eq0+in_ok-push w ↦
          let monday = w.first_day-monday.result in
          rw (w.own-is, w.in_ok-push.ensures.items) (weeks-closed calendar c.args.place n ws _ c.loop-before.invariant (sym c.shop_days.ensures.value ∙ w.if-shop_days-eq0.true) (monday, w.first_day-monday.ensures.day, refl))
      | else-shop_days-eq0 w ↦
          let some : shop_days_in calendar (n + 1) ≢ 0 = λ e. w.if-shop_days-eq0.false (c.shop_days.ensures.value ∙ e) in
          rw w.own-is (weeks-open calendar c.args.place n ws c.loop-before.invariant (ne_eqb (shop_days_in calendar (n + 1)) 0 some))
    ]
