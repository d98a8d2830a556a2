use Rattle.std.proofs.Common.{◌≡◌, ◌-◌, ◌+◌, ◌∙◌, ℕ, arith, ap, get_or, set, subst, sym}
use Rattle.std.proofs.lemmas.Grind.{get_or_default_zero}
use Rattle.mrp_audit.specs.NextPlaces.{AreNext}
use Rattle.mrp_audit.proofs.NextPlaces.{none-more, one-more}
use Rattle.mrp_audit.proofs.following.next_places.Goals as goal

pub loop-place-preserved-then-desk-le-MOST_DESKS : goal.loop-place-preserved-then-desk-le-MOST_DESKS
loop-place-preserved-then-desk-le-MOST_DESKS c =
    let script = c.args.script.now in
    let heads = c.loop-place.of_desk.items in
    let behind = c.loop-place.behind.items in
    let p = c.loop-place.place - 1 in
    let q = get_or script p c.index-script-place.result in
    let at : q ≡ get_or script p q = ap (get_or script p) c.index-script-place.is in
    let size : p + 1 ≡ c.loop-place.place = omega (arith, c.loop-place-test.true) in
    let before : AreNext script (p + 1) heads behind = subst (λ (k : ℕ). AreNext script k heads behind) (sym size) c.loop-place.invariant.1 in
    let inside = c.loop-place.invariant.0 in
    let low = c.if-desk-le-MOST_DESKS.true in
    let desks = before.desks in
    let head = c.index.ensures ∙ get_or_default_zero heads q.0 c.index.result.now (omega (arith, low, desks)) in (
      omega (arith, inside),
      subst (λ (h : ℕ). AreNext script p (set heads q.0 p) (set behind p h)) (sym head) (one-more script p heads behind q before (omega (arith, inside, size)) at (omega (arith, low))),
    )

pub loop-place-preserved : goal.loop-place-preserved
loop-place-preserved c =
    let script = c.args.script.now in
    let heads = c.loop-place.of_desk.items in
    let behind = c.loop-place.behind.items in
    let p = c.loop-place.place - 1 in
    let q = get_or script p c.index-script-place.result in
    let at : q ≡ get_or script p q = ap (get_or script p) c.index-script-place.is in
    let size : p + 1 ≡ c.loop-place.place = omega (arith, c.loop-place-test.true) in
    let before : AreNext script (p + 1) heads behind = subst (λ (k : ℕ). AreNext script k heads behind) (sym size) c.loop-place.invariant.1 in
    let inside = c.loop-place.invariant.0 in (
      omega (arith, inside),
      none-more script p heads behind q before (omega (arith, inside, size)) at (omega (arith, c.if-desk-le-MOST_DESKS.false)),
    )

pub returns : goal.returns
returns c =
    subst (λ (k : ℕ). AreNext c.args.script.now k c.loop-place.of_desk.items c.loop-place.behind.items) (omega (arith, c.loop-place-test.false)) c.loop-place.invariant.1
