use Rattle.std.proofs.Common.{◌≡◌, ◌<◌, length}
use Rattle.std.specs.List.{All, flat_map, range_with_len}
use Rattle.std.specs.Option.{option_to_list}
use Rattle.mrp_page.specs.Numbering.{row_at}
use Rattle.mrp_page.specs.Work.{order_of_row}
use Rattle.mrp_page.proofs.work.work_orders.Given as goal

abbrev pub invariant-loop-place : goal.invariant-loop-place
invariant-loop-place l = record {
  orders : l.found.items ≡ flat_map (λ place. option_to_list (order_of_row l.facts.tables place (row_at l.orders place))) (range_with_len 0 l.place);
  within : All (λ order. order.item < length l.facts.tables.items) l.found.items;
}
