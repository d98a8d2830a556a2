use Rattle.std.proofs.Common.{◌≡◌}
use Rattle.std.specs.List.{enumerate_from}
use Rattle.mrp_report.specs.section.OrderText.{order_text}
use Rattle.mrp_report.proofs.lemmas.section.ListTexts.{so_far}
use Rattle.mrp_report.proofs.section.orders.order_rows.Given as goal

abbrev pub invariant-loop-place : goal.invariant-loop-place
invariant-loop-place l = l.page ≡ so_far l.fn.page (order_text l.name) (enumerate_from 1 l.orders) l.place
