use Rattle.std.proofs.Common.{◌≡◌, ◌∙◌, ◌+◌, ◌<◌, length, refl, ap, arith}
use Rattle.std.proofs.lemmas.Grind.{get_or_default_zero}
use Rattle.mrp_phase.specs.Weeks.{in_week}
use Rattle.mrp_phase.proofs.WeekRows.{in_week_next}
use Rattle.mrp_net.proofs.NetLaws.{rises_more}
use Rattle.mrp_net.proofs.balances.never_fall.Goals as goal

pub loop-quantity-init : goal.loop-quantity-init
unfolding in_week
loop-quantity-init c = record {
  before = refl;
  rises = λ s t h within. let same : s ≡ t = omega arith in omega (arith, ap (in_week c.args.receipts.now) same);
}

pub loop-quantity-preserved : goal.loop-quantity-preserved
loop-quantity-preserved c =
    let row = c.args.receipts.now in
    let i = c.loop-quantity.quantity-index in
    let inside : i < length row = c.loop-quantity-test.true in
    let here : c.quantity-item.result ≡ in_week row (i + 1) = omega (arith, c.quantity-item.is, in_week_next row i, get_or_default_zero row i c.quantity-item.result inside) in
    record {
      before = c.value-before.ensures.pieces ∙ here;
      rises = rises_more row i c.loop-quantity.invariant.rises (omega (arith, here, c.loop-quantity.invariant.before, c.value.ensures.pieces, c.if-value-before.false));
    }

pub returns-then-value-before : goal.returns-then-value-before
returns-then-value-before c =
    let row = c.args.receipts.now in
    let i = c.loop-quantity.quantity-index in
    let inside : i < length row = c.loop-quantity-test.true in
    let here : c.quantity-item.result ≡ in_week row (i + 1) = omega (arith, c.quantity-item.is, in_week_next row i, get_or_default_zero row i c.quantity-item.result inside) in (
      λ never. absurd (cc),
      λ rises. absurd (omega (arith, rises i (i + 1) (omega arith) (omega arith), here, c.loop-quantity.invariant.before, c.value.ensures.pieces, c.if-value-before.true)),
    )
