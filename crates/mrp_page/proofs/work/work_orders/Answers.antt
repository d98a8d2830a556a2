use Rattle.std.proofs.Common.{◌≡◌, ◌∙◌, ◌<◌, ◌++◌, [], ℕ, List, ap, arith, length, sym}
use Rattle.std.specs.List.{flat_map, range_with_len}
use Rattle.std.specs.Option.{option_to_list}
use Rattle.std.proofs.lemmas.List.{get_or_read}
use Rattle.mrp_day.specs.declared.section.Section.TheVariants as s
use Rattle.mrp_work.specs.declared.order.WorkOrder.{WorkOrder}
use Rattle.mrp_page.specs.Numbering.{row_at}
use Rattle.mrp_page.specs.Row.{RowView}
use Rattle.mrp_page.specs.Work.{order_of_row}
use Rattle.mrp_page.proofs.RiskRows.{flat-more}
use Rattle.mrp_page.proofs.work.work_orders.Goals as goal

pub loop-place-preserved : goal.loop-place-preserved
loop-place-preserved c =
    let t = c.args.facts.now.tables in
    let orders = c.args.orders.now in
    let k = c.loop-place.place in
    let inside : c.loop-place.place < length c.args.orders.now = omega arith in
    let read : c.index-orders-place.result ≡ row_at c.args.orders.now c.loop-place.place = get_or_read orders k c.index-orders-place.result inside c.index-orders-place.is (record { section = s.Run; cells = [] }) in
    let lines : ℕ → List WorkOrder = λ place. option_to_list (order_of_row t place (row_at orders place)) in
    record {
      orders =
          c.in_ok-add_order.ensures.orders
          ∙ ap (λ (found : List WorkOrder). found ++ option_to_list (order_of_row t k c.index-orders-place.result)) c.loop-place.invariant.orders
          ∙ ap (λ (r : RowView). flat_map lines (range_with_len 0 k) ++ option_to_list (order_of_row t k r)) read
          ∙ sym (flat-more lines k);
      within = c.in_ok-add_order.ensures.within;
    }
