use Rattle.std.proofs.Common.{◌≡◌, ◌∙◌, ◌<◌, ◌+◌, ◌-◌, ℕ, List, Option, Some, None, inl, inr, length, ap, sym, subst, arith}
use Rattle.std.specs.Prelude.{All, Contains, slice_index}
use Rattle.mrp_tables.specs.declared.rows.BillLine.{BillLine}
use Rattle.mrp_tables.specs.declared.rows.MasterRow.{MasterRow}
use Rattle.mrp_tables.specs.Tables.{Tables}
use Rattle.mrp_bill.specs.Bill.{IsOrder}
use Rattle.mrp_item.specs.Inputs.{Inputs, count}
use Rattle.mrp_item.specs.Plan.{HasParents, IsRanked}
use Rattle.mrp_peg.specs.declared.peg.Need.{Need}
use Rattle.mrp_peg.specs.declared.peg.Cause.{Cause}
use Rattle.mrp_peg.specs.Causes.{order_for, own_cause, IsCause}
use Rattle.mrp_peg.specs.Ends.{AreEnds}
use Rattle.mrp_peg.proofs.Caused.{caused, HasPieces}
use Rattle.mrp_peg.specs.Walk.{followed, same_order, with_any}
use Rattle.mrp_peg.proofs.Served.{place_in}
use Rattle.mrp_peg.proofs.Walked.{IsWalked}
use Rattle.mrp_peg.proofs.Ends.{begun_with, finished, visited, walked_on}
use Rattle.mrp_peg.proofs.Skipped.{marked_first, marked_on}
use Rattle.mrp_peg.proofs.walking.ends_of.Goals as goal

pub loop-left-init : goal.loop-left-init
loop-left-init c =
    let s = c.args.plan.now.inputs in
    let n = c.args.need.now in
    let order = c.order-order.result.now in
    let e : c.deref.result.now ≡ s = c.deref.ensures ∙ c.inputs.ensures.inputs in
    let tables : c.shop-shop.result.now.tables ≡ s.tables = c.shop-shop.ensures.tables ∙ ap (λ (x : Inputs). x.tables) e in
    let is : IsOrder s.tables.bills (count s) order = subst (λ (t : Tables). IsOrder t.bills (length t.items) order) tables c.order-order.ensures in
    let parents : HasParents s = subst (λ (x : Inputs). HasParents x) e c.shop-shop.ensures.parents in
    let bills : c.bills-bills.result.now ≡ s.tables.bills = c.bills-bills.ensures.rows ∙ ap (λ (t : Tables). t.bills) (c.tables-tables.ensures.value ∙ tables) in
    let whose : c.order_for.result ≡ order_for s.tables.bills n.kind = c.order_for.ensures ∙ ap (λ (b : List BillLine). order_for b n.kind) bills in
    record {
      within = omega arith;
      walked = begun_with s n order is parents c.requires c.new-orders.result.keys c.add_order.new.orders.keys c.new-causes.result.keys c.new-orders.ensures.empty (c.in_ok-add_order.ensures.orders ∙ ap (with_any same_order c.new-orders.result.keys) whose) c.new-causes.ensures.empty;
      marked = marked_first c.order_for.result c.new-orders.result.keys c.add_order.new.orders.keys c.new-items.result.keys c.add_order.new.items.keys c.new-orders.ensures.empty c.in_ok-add_order.ensures.orders c.new-items.ensures.empty c.in_ok-add_order.ensures.items;
    }

pub follow-requires-clause-item : goal.follow-requires-clause-item
follow-requires-clause-item c =
    let s = c.args.plan.now.inputs in
    let order = c.order-order.result.now in
    let e : c.deref.result.now ≡ s = c.deref.ensures ∙ c.inputs.ensures.inputs in
    let tables : c.shop-shop.result.now.tables ≡ s.tables = c.shop-shop.ensures.tables ∙ ap (λ (x : Inputs). x.tables) e in
    let is : IsOrder s.tables.bills (count s) order = subst (λ (t : Tables). IsOrder t.bills (length t.items) order) tables c.order-order.ensures in
    is.all.items (c.loop-left.left - 1) 0 (omega (arith, c.loop-left-test.true, c.loop-left.invariant.within))

pub loop-left-preserved : goal.loop-left-preserved
loop-left-preserved c =
    let s = c.args.plan.now.inputs in
    let n = c.args.need.now in
    let order = c.order-order.result.now in
    let e : c.deref.result.now ≡ s = c.deref.ensures ∙ c.inputs.ensures.inputs in
    let tables : c.shop-shop.result.now.tables ≡ s.tables = c.shop-shop.ensures.tables ∙ ap (λ (x : Inputs). x.tables) e in
    let is : IsOrder s.tables.bills (count s) order = subst (λ (t : Tables). IsOrder t.bills (length t.items) order) tables c.order-order.ensures in
    let parents : HasParents s = subst (λ (x : Inputs). HasParents x) e c.shop-shop.ensures.parents in
    let so = c.loop-left.invariant in
    record {
      within = omega (arith, so.within);
      walked = walked_on s n order is parents c.loop-left.left c.loop-left.orders.keys c.follow.new.orders.keys c.loop-left.causes.keys c.follow.new.causes.keys c.loop-left-test.true so.within so.walked c.in_ok-follow.ensures.orders c.in_ok-follow.ensures.causes;
      marked = marked_on s.tables.bills c.loop-left.orders.keys c.follow.new.orders.keys c.loop-left.items.keys c.follow.new.items.keys (followed s c.loop-left.orders.keys (slice_index order (c.loop-left.left - 1))) so.marked c.in_ok-follow.ensures.orders c.in_ok-follow.ensures.items;
    }

pub returns-clause-ends : goal.returns-clause-ends
returns-clause-ends c =
    let s = c.args.plan.now.inputs in
    let n = c.args.need.now in
    let order = c.order-order.result.now in
    let e : c.deref.result.now ≡ s = c.deref.ensures ∙ c.inputs.ensures.inputs in
    let tables : c.shop-shop.result.now.tables ≡ s.tables = c.shop-shop.ensures.tables ∙ ap (λ (x : Inputs). x.tables) e in
    let is : IsOrder s.tables.bills (count s) order = subst (λ (t : Tables). IsOrder t.bills (length t.items) order) tables c.order-order.ensures in
    let none : c.loop-left.left ≡ 0 = omega (arith, c.loop-left-test.false) in
    finished s n order is c.loop-left.orders.keys c.loop-left.causes.keys (subst (λ (k : ℕ). IsWalked s n (place_in order) k c.loop-left.orders.keys c.loop-left.causes.keys) none c.loop-left.invariant.walked)

pub returns-clause-among : goal.returns-clause-among
returns-clause-among c =
    let s = c.args.plan.now.inputs in
    let n = c.args.need.now in
    let order = c.order-order.result.now in
    let e : c.deref.result.now ≡ s = c.deref.ensures ∙ c.inputs.ensures.inputs in
    let tables : c.shop-shop.result.now.tables ≡ s.tables = c.shop-shop.ensures.tables ∙ ap (λ (x : Inputs). x.tables) e in
    let is : IsOrder s.tables.bills (count s) order = subst (λ (t : Tables). IsOrder t.bills (length t.items) order) tables c.order-order.ensures in
    let none : c.loop-left.left ≡ 0 = omega (arith, c.loop-left-test.false) in
    visited s n order is c.loop-left.orders.keys c.loop-left.causes.keys c.loop-left.items.keys (subst (λ (k : ℕ). IsWalked s n (place_in order) k c.loop-left.orders.keys c.loop-left.causes.keys) none c.loop-left.invariant.walked) c.loop-left.invariant.marked

-- what a requirement that is not its own cause goes back to is among what it ends in
some_end : (s : Inputs) (n : Need) (causes : List Cause) → AreEnds s n causes → own_cause n n.kind ≡ None → (c : Cause) × IsCause s n c → (c : Cause) × Contains causes c
some_end s n causes ends alone (c, (has, inl own)) = let none : Option Cause = None in let f : none ≡ Some c = sym alone ∙ own in absurd (cc)
some_end s n causes ends alone (c, (has, inr end)) = (c, (ends.all c end).0)

pub returns-clause-some : goal.returns-clause-some
returns-clause-some c = λ alone.
    let s = c.args.plan.now.inputs in
    let n = c.args.need.now in
    let order = c.order-order.result.now in
    let e : c.deref.result.now ≡ s = c.deref.ensures ∙ c.inputs.ensures.inputs in
    let tables : c.shop-shop.result.now.tables ≡ s.tables = c.shop-shop.ensures.tables ∙ ap (λ (x : Inputs). x.tables) e in
    let is : IsOrder s.tables.bills (count s) order = subst (λ (t : Tables). IsOrder t.bills (length t.items) order) tables c.order-order.ensures in
    let parents : HasParents s = subst (λ (x : Inputs). HasParents x) e c.shop-shop.ensures.parents in
    let code = slice_index c.shop-shop.result.now.codes in
    let ranked : IsRanked s code = subst (λ (x : Inputs). IsRanked x code) e c.shop-shop.ensures.ranked in
    let rows_are : c.master-rows.result.now ≡ s.tables.master = c.master-rows.ensures.rows ∙ ap (λ (t : Tables). t.master) (c.tables-tables.ensures.value ∙ tables) in
    let rows : HasPieces s = subst (λ (l : List MasterRow). All (λ (r : MasterRow). 0 < r.quantity) l) rows_are (λ k d h. let row = c.master-rows.ensures.within k d h in omega (arith, row.quantity.0)) in
    let none : c.loop-left.left ≡ 0 = omega (arith, c.loop-left-test.false) in
    let ends : AreEnds s n c.loop-left.causes.keys = finished s n order is c.loop-left.orders.keys c.loop-left.causes.keys (subst (λ (k : ℕ). IsWalked s n (place_in order) k c.loop-left.orders.keys c.loop-left.causes.keys) none c.loop-left.invariant.walked) in
    some_end s n c.loop-left.causes.keys ends alone (caused s order is code ranked rows parents (place_in order n.item + 1) n (omega arith) c.requires)
