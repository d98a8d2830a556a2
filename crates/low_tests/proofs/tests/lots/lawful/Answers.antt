use Rattle.std.proofs.Common.{◌≡◌, ◌∙◌, ◌≤◌, ◌<◌, ◌+◌, ℕ, zero, suc, length, refl, ap, sym, arith}
use Rattle.mrp_phase.specs.Weeks.{in_week, row}
use Rattle.mrp_phase.proofs.WeekRows.{in_week_row}
use Rattle.mrp_net.specs.Need.{IsNeed}
use Rattle.mrp_lots.specs.Lots.{receipts}
use Rattle.mrp_lots.specs.LotLaws.{covers, idle, receipts_none}
use Rattle.low_tests.proofs.tests.lots.lawful.Goals as goal

-- a row of receipts in a week, and in week 0
in_week_receipts : (f : ℕ → ℕ) (horizon t : ℕ) → f 0 ≡ 0 → t ≤ horizon → in_week (row horizon f) t ≡ f t
unfolding in_week
in_week_receipts f horizon zero none h = sym none
in_week_receipts f horizon (suc t) none h = in_week_row f horizon (suc t) (omega arith) h

pub returns-clause-covers : goal.returns-clause-covers
returns-clause-covers g c =
    let needs = c.args.needs.now in
    let rule = g.L.Lot.rule c.args.lot.now in
    let rises : IsNeed (length needs) (in_week needs) = rw (← c.as_slice-rises.ensures.value) c.as_slice-rises.ensures.rises in
    λ t a h. rw (c.in_ok-received.ensures.value, in_week_row (receipts rule (length needs) (in_week needs)) (length needs) t a h)
    (covers rule (g.met.L.Lot.kept c.args.lot.now) (length needs) (in_week needs) rises t a h)

pub returns-clause-idle : goal.returns-clause-idle
returns-clause-idle g c =
    let needs = c.args.needs.now in
    let rule = g.L.Lot.rule c.args.lot.now in
    let f = receipts rule (length needs) (in_week needs) in
    let rises : IsNeed (length needs) (in_week needs) = rw (← c.as_slice-rises.ensures.value) c.as_slice-rises.ensures.rises in
    λ t h. rw (c.in_ok-received.ensures.value, in_week_row f (length needs) (t + 1) (omega arith) h, in_week_receipts f (length needs) t (receipts_none rule (length needs) (in_week needs)) (omega arith))
    (idle rule (g.met.L.Lot.kept c.args.lot.now) (length needs) (in_week needs) rises t h)
