use Rattle.std.proofs.Common.{◌≡◌, ◌∙◌, ℕ, ap, length, refl, subst}
use Rattle.std.specs.Int.{IsInRange}
use Rattle.mrp_cal.specs.Calendar.{ShopCalendar}
use Rattle.mrp_master.proofs.Supplied.{rows_are_supply}
use Rattle.mrp_audit.proofs.audit.keep_limits.Goals as goal

pub returns : goal.returns
returns c =
    let t = c.args.tables.now in
    let kept = c.keep_limits.ensures in
    let same : c.weeks-weeks.result ≡ t.calendar.weeks = c.weeks-weeks.ensures.value ∙ ap (λ (x : ShopCalendar). x.weeks) c.calendar.ensures in
    let bound : IsInRange 1 104 t.calendar.weeks = subst (λ (n : ℕ). IsInRange 1 104 n) same c.weeks-weeks.ensures.bound in
    record {
      names = kept.names;
      weeks = bound.1;
      script = kept.script;
      few = kept.script_count;
      supply = rows_are_supply t.items t.stock t.master t.calendar.weeks (length t.items) t.calendar.weeks _ _ _ bound refl kept.stock kept.stocked kept.master kept.master_count refl refl;
    }
