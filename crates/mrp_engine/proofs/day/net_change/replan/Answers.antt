use Rattle.std.proofs.Common.{◌≡◌, ◌∙◌, ◌<◌, List, Option, Some, None, ap, arith, get_or, length, length-set, refl, subst, sym}
use Rattle.std.specs.Prelude.{All, IsSome, slice_index}
use Rattle.std.proofs.lemmas.List.{get_or_default, length-replicate}
use Rattle.std.proofs.lemmas.Result.{IfOk-weaker}
use Rattle.mrp_tables.specs.Tables.{Tables}
use Rattle.mrp_bill.specs.Bill.{IsOrder, parents_of}
use Rattle.mrp_item.specs.Inputs.{Inputs, count}
use Rattle.mrp_item.proofs.Untouched.{ready-unless-over}
use Rattle.mrp_explode.proofs.PlanOrder.{all-done, one-more-done, parents-ready}
use Rattle.mrp_engine.specs.day.NetChange.{IsMade}
use Rattle.mrp_engine.proofs.lemmas.day.Remade.{all-own, made-here, made-set, marked-none, marked-set, not-risen, on-ok, own-none, own-set, risen-all, risen-next}
use Rattle.mrp_engine.proofs.day.net_change.replan.Goals as goal

pub loop-item-init : goal.loop-item-init
loop-item-init g c =
    let s = c.args.inputs.now.value in
    let read = c.tables.ensures.value ∙ c.shop.ensures.tables ∙ ap (λ (x : Inputs). x.tables) c.deref.ensures in
    let size : length c.items-count.result.now ≡ count s = ap length (c.items-count.ensures.rows ∙ ap (λ (t : Tables). t.items) read) in
    record {
      places = ap length c.in_ok-made.ensures ∙ length-replicate (length c.items-count.result.now) None ∙ size;
      marks = ap length c.in_ok-kept.ensures ∙ length-replicate (length c.items-count.result.now) _ ∙ size;
      own = own-none g.P.Planner.item_of s c.in_ok-made.made.items (length c.items-count.result.now) c.in_ok-made.ensures;
      kept = marked-none c.args.old.now.inputs s c.in_ok-kept.kept.items (length c.items-count.result.now) c.in_ok-kept.ensures;
      done = λ k low. absurd (omega arith);
      risen = λ none. not-risen c.args.old.now.inputs s c.order-item-items.result.now _;
    }

pub remake-requires-clause-ready : goal.remake-requires-clause-ready
remake-requires-clause-ready g c =
    let s = c.args.inputs.now.value in
    let order = c.order-item-items.result.now in
    let tables : c.shop-2.result.now.tables ≡ s.tables = c.shop-2.ensures.tables ∙ ap (λ (x : Inputs). x.tables) c.deref-2.ensures in
    let is : IsOrder s.tables.bills (count s) order = subst (λ (t : Tables). IsOrder t.bills (length t.items) order) tables c.order-item-items.ensures in
    let Ready : List (Option g.row.P-Made.Denot) → Type 0 = λ made. All (IsMade made) (parents_of s.tables.bills (count s) (get_or order c.loop-item.item-index 0)) in
    subst Ready (sym c.deref-in-loop-item.ensures.value) (parents-ready s.tables.bills (count s) order c.loop-item.item-index (IsMade c.loop-item.made.items) is c.loop-item-test.true c.loop-item.invariant.done)

pub loop-item-preserved : goal.loop-item-preserved
loop-item-preserved g c =
    let s = c.args.inputs.now.value in
    let old = c.args.old.now.inputs in
    let order = c.order-item-items.result.now in
    let k = c.loop-item.item-index in
    let i = get_or order k 0 in
    let made = c.loop-item.made.items in
    let outcome = c.in_ok-outcome.outcome in
    let remade = c.in_ok-outcome.ensures in
    let tables : c.shop-2.result.now.tables ≡ s.tables = c.shop-2.ensures.tables ∙ ap (λ (x : Inputs). x.tables) c.deref-2.ensures in
    let is : IsOrder s.tables.bills (count s) order = subst (λ (t : Tables). IsOrder t.bills (length t.items) order) tables c.order-item-items.ensures in
    let ranked = rw c.deref-2.ensures at c.shop-2.ensures.ranked in
    let has = rw c.deref-2.ensures at c.shop-2.ensures.parents in
    let item : i < count s = is.all.items k 0 c.loop-item-test.true in
    let place : i < length made = omega (arith, item, c.loop-item.invariant.places) in
    let mark : i < length c.loop-item.kept.items = omega (arith, item, c.loop-item.invariant.marks) in
    record {
      places = length-set made i (Some outcome) ∙ c.loop-item.invariant.places;
      marks = length-set c.loop-item.kept.items i c.in_ok-outcome.is_kept ∙ c.loop-item.invariant.marks;
      own = own-set g.P.Planner.item_of s made i outcome place remade.own c.loop-item.invariant.own;
      kept = marked-set old s c.loop-item.kept.items i c.in_ok-outcome.is_kept mark remade.keeps c.loop-item.invariant.kept;
      done = one-more-done order k i (IsMade made) _ refl c.loop-item.invariant.done (made-here made i outcome place) (λ j there. made-set made i j outcome place there);
      risen = λ none. risen-next s.tables.bills (count s) old s order k _ _ _ i _ _ is c.loop-item-test.true refl
          (ready-unless-over s (slice_index c.shop-2.result.now.codes) ranked has none i) remade (c.loop-item.invariant.risen none);
    }

pub out_of_places-requires : goal.out_of_places-requires
out_of_places-requires g c =
    let s = c.args.inputs.now.value in
    let order = c.order-item-items.result.now in
    let made = c.loop-item.made.items in
    let tables : c.shop-2.result.now.tables ≡ s.tables = c.shop-2.ensures.tables ∙ ap (λ (x : Inputs). x.tables) c.deref-2.ensures in
    let is : IsOrder s.tables.bills (count s) order = subst (λ (t : Tables). IsOrder t.bills (length t.items) order) tables c.order-item-items.ensures in
    let done = all-done s.tables.bills (count s) order (IsMade made) is (λ j h. c.loop-item.invariant.done j (omega (arith, h, c.loop-item-test.false))) in
    λ k d h. subst (λ (x : Option g.row.P-Made.Denot). IsSome x) (get_or_default made k None d h) (done k (omega (arith, h, c.loop-item.invariant.places)))

pub returns-clause-outcomes : goal.returns-clause-outcomes
returns-clause-outcomes g c =
    IfOk-weaker c.out_of_places.result _ _ (λ all are. all-own g.P.Planner.item_of c.args.inputs.now.value c.loop-item.made.items all.items c.loop-item.invariant.places c.loop-item.invariant.own are) c.out_of_places.ensures

pub returns-clause-touched : goal.returns-clause-touched
returns-clause-touched g c = λ none.
    let s = c.args.inputs.now.value in
    let order = c.order-item-items.result.now in
    let tables : c.shop-2.result.now.tables ≡ s.tables = c.shop-2.ensures.tables ∙ ap (λ (x : Inputs). x.tables) c.deref-2.ensures in
    let is : IsOrder s.tables.bills (count s) order = subst (λ (t : Tables). IsOrder t.bills (length t.items) order) tables c.order-item-items.ensures in
    on-ok c.out_of_places.result _ (risen-all s.tables.bills c.args.old.now.inputs s order c.loop-item.item-index _ _ is c.loop-item.auto.item-index-end (c.loop-item.invariant.risen none))
