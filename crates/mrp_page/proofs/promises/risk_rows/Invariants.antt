use Rattle.std.proofs.Common.{◌≡◌}
use Rattle.std.specs.List.{flat_map, range_with_len}
use Rattle.mrp_page.specs.Numbering.{row_at}
use Rattle.mrp_page.specs.Promises.{rows_at_risk}
use Rattle.mrp_risk.specs.Risks.{risk_at}
use Rattle.mrp_page.proofs.promises.risk_rows.Given as goal

abbrev pub invariant-loop-place : goal.invariant-loop-place
invariant-loop-place l = l.rows.items ≡ flat_map (λ place. rows_at_risk l.orders (row_at l.pegs place) (risk_at l.risks place)) (range_with_len 0 l.place)
