use Rattle.std.proofs.Common.{◌≡◌, ◌∙◌, ℕ, List, ap, length, subst, sym}
use Rattle.mrp_page.specs.Numbering.{lateness_of, numbered_pegs}
use Rattle.mrp_page.proofs.RiskRows.{bookings-within, pegs-within}
use Rattle.mrp_risk.specs.Chains.{AreBookedWithin, AreWithin}
use Rattle.mrp_page.proofs.numbering.answers.Goals as goal

pub at_risk-requires-clause-orders : goal.at_risk-requires-clause-orders
at_risk-requires-clause-orders c =
    let orders = c.args.orders.now in
    let pegs = c.args.pegs.now in
    let late : c.deref.result.now ≡ lateness_of c.args.orders.now = c.deref.ensures.value ∙ c.in_ok-lateness.ensures ∙ ap lateness_of c.rows.ensures in
    let numbered : c.deref-2.result.now ≡ numbered_pegs c.args.orders.now c.args.pegs.now = c.deref-2.ensures.value ∙ c.in_ok-numbered.ensures in
    subst (λ (lateness : List ℕ). AreWithin (length lateness) c.deref-2.result.now) (sym late) (subst (AreWithin (length (lateness_of orders))) (sym numbered) (pegs-within orders pegs))

pub at_risk-requires-clause-bookings : goal.at_risk-requires-clause-bookings
at_risk-requires-clause-bookings c =
    let orders = c.args.orders.now in
    let pegs = c.args.pegs.now in
    let numbered : c.deref-2.result.now ≡ numbered_pegs c.args.orders.now c.args.pegs.now = c.deref-2.ensures.value ∙ c.in_ok-numbered.ensures in
    subst (AreBookedWithin (length pegs)) (sym numbered) (bookings-within orders pegs)
