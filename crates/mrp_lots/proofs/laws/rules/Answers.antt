use Rattle.mrp_lots.specs.LotLaws.{lot_for_lot_rule, fixed_rule, period_rule, stepped_rule}
use Rattle.mrp_lots.proofs.laws.rules.Goals as goal

pub returns-clause-lot_for_lot : goal.returns-clause-lot_for_lot
returns-clause-lot_for_lot c = lot_for_lot_rule

pub returns-clause-fixed : goal.returns-clause-fixed
returns-clause-fixed c = fixed_rule

pub returns-clause-period : goal.returns-clause-period
returns-clause-period c = period_rule

pub returns-clause-stepped : goal.returns-clause-stepped
returns-clause-stepped c = stepped_rule
