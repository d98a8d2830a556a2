use Rattle.std.proofs.Common.{◌≡◌, ℕ, length, slice_index, subst, ◌∙◌}
use Rattle.mrp_bill.specs.Bill.{AreWithin, HoldsEachOnce}
use Rattle.mrp_bill.specs.BillLists.{AreLists}
use Rattle.mrp_bill.specs.Shop.{IsShop}
use Rattle.mrp_bill.proofs.Accepted.{are-within, parents-within, children-within, loop-refusal, are-codes, is-order, no-loop}
use Rattle.mrp_bill.proofs.shop.Bill.of.Goals as goal

pub order_of-requires : goal.order_of-requires
order_of-requires c = parents-within _ _ c.in_ok-lists.lists c.in_ok-lists.ensures

pub first_loop-path-requires-clause-parents : goal.first_loop-path-requires-clause-parents
first_loop-path-requires-clause-parents c = parents-within _ _ c.in_ok-lists.lists c.in_ok-lists.ensures

pub first_loop-path-requires-clause-children : goal.first_loop-path-requires-clause-children
first_loop-path-requires-clause-children c = children-within _ _ c.in_ok-lists.lists c.in_ok-lists.ensures

pub returns-then-order-clause-refused : goal.returns-then-order-clause-refused
returns-then-order-clause-refused c =
    let lists : AreLists c.args.tables.bills (length c.args.tables.items) c.in_ok-lists.lists = rw (c.bills.ensures.rows, c.items.ensures.rows) at c.in_ok-lists.ensures in
    let within : AreWithin (length c.args.tables.items) c.args.tables.bills = are-within c.args.tables.items c.args.tables.bills (rw c.bills.ensures.rows at c.bills.ensures.within) in
    rw c.loop_fault.ensures (loop-refusal c.args.tables.bills (length c.args.tables.items) c.in_ok-lists.lists c.first_loop-path.result within lists c.first_loop-path.ensures)

pub codes_of-requires-clause-within : goal.codes_of-requires-clause-within
codes_of-requires-clause-within c = parents-within _ _ c.in_ok-lists.lists c.in_ok-lists.ensures

pub codes_of-requires-clause-settled : goal.codes_of-requires-clause-settled
codes_of-requires-clause-settled c = rw c.deref-2.ensures.value (c.in_ok-order.ensures.settled c.if-order.false)

-- the shop's codes
accepted : (c : goal.In_ok-codes) → IsShop (record { tables = c.args.tables; codes = c.in_ok-codes.codes.items })
accepted c =
    let lists : AreLists c.args.tables.bills (length c.args.tables.items) c.in_ok-lists.lists = rw (c.bills.ensures.rows, c.items.ensures.rows) at c.in_ok-lists.ensures in
    let within : AreWithin (length c.args.tables.items) c.args.tables.bills = are-within c.args.tables.items c.args.tables.bills (rw c.bills.ensures.rows at c.bills.ensures.within) in
    let same : length c.in_ok-lists.lists.parents ≡ length c.args.tables.items = lists.parents_size in
    record {
      size = c.in_ok-codes.ensures.size ∙ same;
      codes = are-codes c.args.tables.bills (length c.args.tables.items) c.in_ok-lists.lists (slice_index c.in_ok-codes.codes.items) within lists c.in_ok-codes.ensures.codes;
      low = rw (← same) c.in_ok-codes.ensures.low;
    }

pub invariant_of-result : goal.invariant_of-result
invariant_of-result c =
    let lists : AreLists c.args.tables.bills (length c.args.tables.items) c.in_ok-lists.lists = rw (c.bills.ensures.rows, c.items.ensures.rows) at c.in_ok-lists.ensures in
    let within : AreWithin (length c.args.tables.items) c.args.tables.bills = are-within c.args.tables.items c.args.tables.bills (rw c.bills.ensures.rows at c.bills.ensures.within) in
    let same : length c.in_ok-lists.lists.parents ≡ length c.args.tables.items = lists.parents_size in
    let all : HoldsEachOnce (length c.args.tables.items) c.in_ok-order.order.items.items = subst (λ (n : ℕ). HoldsEachOnce n c.in_ok-order.order.items.items) same c.in_ok-order.ensures.all in
    (accepted c, is-order c.args.tables.bills (length c.args.tables.items) c.in_ok-lists.lists c.in_ok-order.order.items.items within lists all (c.in_ok-order.ensures.settled c.if-order.false), lists)

pub returns-clause-accepted : goal.returns-clause-accepted
returns-clause-accepted c = accepted c

pub returns-clause-no_loop : goal.returns-clause-no_loop
returns-clause-no_loop c = no-loop c.args.tables.bills (slice_index c.in_ok-codes.codes.items) (accepted c).codes

pub first_loop-path-requires-clause-some : goal.first_loop-path-requires-clause-some
first_loop-path-requires-clause-some c = c.in_ok-order.ensures.loops c.if-order.true
