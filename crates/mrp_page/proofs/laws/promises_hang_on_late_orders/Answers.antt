use Rattle.mrp_page.proofs.RiskRows.{one-list, pieces-most, stands, told-latest}
use Rattle.mrp_page.proofs.laws.promises_hang_on_late_orders.Goals as goal

pub returns-clause-stands : goal.returns-clause-stands
returns-clause-stands c = stands

pub returns-clause-latest : goal.returns-clause-latest
returns-clause-latest c = told-latest

pub returns-clause-pieces : goal.returns-clause-pieces
returns-clause-pieces c = pieces-most

pub returns-clause-one : goal.returns-clause-one
returns-clause-one c = one-list
