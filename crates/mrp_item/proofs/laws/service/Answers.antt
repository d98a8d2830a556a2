use Rattle.std.proofs.Common.{arith}
use Rattle.mrp_phase.specs.Weeks.{in_week}
use Rattle.mrp_phase.proofs.WeekRows.{in_week_row, greatest_above}
use Rattle.mrp_net.specs.Need.{need, shortage}
use Rattle.mrp_net.proofs.NetLaws.{need_rises, row_rises}
use Rattle.mrp_lots.specs.Lots.{receipts}
use Rattle.mrp_lots.specs.LotLaws.{covers}
use Rattle.mrp_item.specs.Inputs.{horizon, item_at}
use Rattle.mrp_item.specs.Rows.{stock_of}
use Rattle.mrp_item.specs.Lot.{rule_of}
use Rattle.mrp_item.specs.Plan.{needs_of}
use Rattle.mrp_item.proofs.Rules.{rule_of-kept}
use Rattle.mrp_item.proofs.laws.service.Goals as goal

pub returns : goal.returns
returns c = λ s i gross t sized a b.
    let needs = in_week (needs_of s i gross) in
    let rises = row_rises (need (stock_of s i) gross) (horizon s) (need_rises (stock_of s i) gross (horizon s)) in
    omega (
      arith,
      greatest_above (shortage (stock_of s i) gross) t a,
      in_week_row (need (stock_of s i) gross) (horizon s) t a b,
      in_week_row (receipts (rule_of (item_at s i)) (horizon s) needs) (horizon s) t a b,
      covers (rule_of (item_at s i)) (rule_of-kept (item_at s i) sized) (horizon s) needs rises t a b,
    )
