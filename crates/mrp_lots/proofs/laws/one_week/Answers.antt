use Rattle.mrp_lots.specs.LotLaws.{period_is_lot_for_lot}
use Rattle.mrp_lots.proofs.laws.one_week.Goals as goal

pub returns : goal.returns
returns c = period_is_lot_for_lot
