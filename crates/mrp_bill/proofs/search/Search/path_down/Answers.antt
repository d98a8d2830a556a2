use Rattle.std.proofs.Common.{◌≡◌, ◌<◌, ◌∷◌, ◌++◌, [], sym, ap, ◌∙◌, arith}
use Rattle.mrp_bill.specs.Search.{IsBelow, met_at, item_at}
use Rattle.mrp_bill.proofs.Linked.{trail-push}
use Rattle.mrp_bill.proofs.Searches.{met-is, path-push}
use Rattle.mrp_bill.proofs.search.Search.path_down.Goals as goal

pub loop-at-preserved : goal.loop-at-preserved
loop-at-preserved c =
    let met = c.args.self.now.met.items in
    let at = c.loop-at.at in
    let next = c.index-in-loop-at.result.now.below in
    let is : met_at met at ≡ c.index-in-loop-at.result.now = met-is met at c.index-in-loop-at.result.now c.loop-at.invariant.within c.index-in-loop-at.ensures in
    let below : next ≡ (met_at met at).below = ap (λ m. m.below) (sym is) in
    let less : next < at = omega (arith, c.requires.below at c.loop-at-test.true c.loop-at.invariant.within, below) in
    let item : item_at met next ≡ c.index-in-loop-at-2.result.now.item = ap (λ m. m.item) (met-is met next c.index-in-loop-at-2.result.now (omega (arith, c.loop-at.invariant.within)) c.index-in-loop-at-2.ensures) in
    let (places, trail, path) = c.loop-at.invariant.path in
    record {
      within = omega (arith, c.loop-at.invariant.within);
      path = (
        places ++ next ∷ [],
        trail-push (IsBelow met) c.args.from places at next trail (c.loop-at-test.true, below),
        path-push met c.args.from at next places c.loop-at.path.items _ trail c.loop-at-test.true below path (c.in_ok-push.ensures.items ∙ ap (λ x. c.loop-at.path.items ++ x ∷ []) (sym item)),
      );
    }
