use Rattle.mrp_lots.specs.LotLaws.{stepped_is_period, stepped_is_lot_for_lot}
use Rattle.mrp_lots.proofs.laws.single_pieces.Goals as goal

pub returns-clause-period : goal.returns-clause-period
returns-clause-period c = stepped_is_period

pub returns-clause-lot_for_lot : goal.returns-clause-lot_for_lot
returns-clause-lot_for_lot c = stepped_is_lot_for_lot
