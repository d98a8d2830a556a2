use Rattle.mrp_page.proofs.PegLinks.{booking-is, down-is, goes-are, linked-is, up-is, waits-are}
use Rattle.mrp_page.proofs.laws.pegs_lead_both_ways.Goals as goal

pub returns-clause-goes : goal.returns-clause-goes
returns-clause-goes c = goes-are

pub returns-clause-up : goal.returns-clause-up
returns-clause-up c = up-is

pub returns-clause-booking : goal.returns-clause-booking
returns-clause-booking c = booking-is

pub returns-clause-waits : goal.returns-clause-waits
returns-clause-waits c = waits-are

pub returns-clause-down : goal.returns-clause-down
returns-clause-down c = down-is

pub returns-clause-linked : goal.returns-clause-linked
returns-clause-linked c = linked-is
