use Rattle.std.proofs.Common.{◌≡◌, ◌∙◌, ◌+◌, ℕ, List, get_or, length, map, refl, subst, sym, ap, arith}
use Rattle.std.specs.List.{enumerate_from}
use Rattle.std.specs.List.Sorted.{IsNonDecreasingBy}
use Rattle.mrp_tables.specs.declared.rows.BillLine.{BillLine}
use Rattle.mrp_bill.specs.Bill.{line_at, lines_of}
use Rattle.mrp_item.specs.declared.order.Order.{Order}
use Rattle.mrp_item.specs.Plan.{outcome_of, plan_in}
use Rattle.mrp_item.proofs.Parents.{line-parent, to_item}
use Rattle.mrp_peg.specs.Rows.{line_to, order_requirement, place_to}
use Rattle.mrp_peg.proofs.where_used.WhereUsed.line.Goals as goal

pub place_at-place-requires : goal.place_at-place-requires
place_at-place-requires c = rw (c.args.self.now.lines) c.requires

pub line_of-line-requires : goal.line_of-line-requires
line_of-line-requires c =
    let used = c.args.self.now in
    let bills = used.plan.now.inputs.tables.bills in
    let place : c.place_at-place.result ≡ place_to used.plan.now.inputs used.item c.args.at = c.place_at-place.ensures ∙ ap (λ (ps : List ℕ). get_or ps c.args.at 0) used.lines in
    rw (place, used.table) (to_item bills used.item c.args.at (lines_of bills used.item) refl c.requires).0

pub orders-orders-requires : goal.orders-orders-requires
orders-orders-requires c =
    let used = c.args.self.now in
    let s = used.plan.now.inputs in
    let place : c.place_at-place.result ≡ place_to s used.item c.args.at = c.place_at-place.ensures ∙ ap (λ (ps : List ℕ). get_or ps c.args.at 0) used.lines in
    let line : c.line_of-line.result ≡ line_to s used.item c.args.at = c.line_of-line.ensures ∙ ap (λ (ls : List BillLine). line_at ls c.place_at-place.result) used.table ∙ ap (line_at s.tables.bills) place in
    let at = to_item s.tables.bills used.item c.args.at (lines_of s.tables.bills used.item) refl c.requires in
    rw line (used.parents (line_to s used.item c.args.at).parent used.item (line-parent s.tables.bills (place_to s used.item c.args.at) used.item (record { parent = 0; component = 0; per = 0 }) at.0 at.1))

pub overflow_add-result : goal.overflow_add-result
overflow_add-result c =
    let used = c.args.self.now in
    let s = used.plan.now.inputs in
    let place : c.place_at-place.result ≡ place_to s used.item c.args.at = c.place_at-place.ensures ∙ ap (λ (ps : List ℕ). get_or ps c.args.at 0) used.lines in
    omega (arith, place, (to_item s.tables.bills used.item c.args.at (lines_of s.tables.bills used.item) refl c.requires).0, ap length used.table, used.few)

pub returns : goal.returns
returns c =
    let used = c.args.self.now in
    let s = used.plan.now.inputs in
    let i = used.item in
    let k = c.args.at in
    let place : c.place_at-place.result ≡ place_to s i k = c.place_at-place.ensures ∙ ap (λ (ps : List ℕ). get_or ps k 0) used.lines in
    let line : c.line_of-line.result ≡ line_to s i k = c.line_of-line.ensures ∙ ap (λ (ls : List BillLine). line_at ls c.place_at-place.result) used.table ∙ ap (line_at s.tables.bills) place in
    let orders : c.orders-orders.result.now ≡ (plan_in (outcome_of s (line_to s i k).parent)).orders = c.orders-orders.ensures ∙ ap (λ (l : BillLine). (plan_in (outcome_of s l.parent)).orders) line in
    let Rising : List Order → Type 0 = λ os. IsNonDecreasingBy (λ (o : Order). o.release) os in
    record {
      line = ap (λ (p : ℕ). p + 1) place;
      per = ap (λ (l : BillLine). l.per) line;
      orders = orders;
      required =
          ap (λ (p : ℕ). map (order_requirement i (p + 1) (line_to s i k).per) (enumerate_from 1 (plan_in (outcome_of s (line_to s i k).parent)).orders)) (sym place)
          ∙ ap (λ (l : BillLine). map (order_requirement i (c.place_at-place.result + 1) l.per) (enumerate_from 1 (plan_in (outcome_of s (line_to s i k).parent)).orders)) (sym line)
          ∙ ap (λ (os : List Order). map (order_requirement i (c.place_at-place.result + 1) c.line_of-line.result.per) (enumerate_from 1 os)) (sym orders);
      rising = subst Rising (sym orders) (used.rising (line_to s i k).parent);
    }
