use Rattle.std.proofs.Common.{◌≡◌, map, take}
use Rattle.mrp_report.proofs.section.shop_names.item_names.Given as goal

abbrev pub invariant-loop-item : goal.invariant-loop-item
invariant-loop-item l = l.names.items ≡ map (λ item. item.name) (take l.item-index l.items)
