use Rattle.mrp_bill.proofs.Accepted.{no-loop, codes-are, one-code}
use Rattle.mrp_bill.proofs.laws.codes.Goals as goal

pub returns-clause-no_loop : goal.returns-clause-no_loop
returns-clause-no_loop c = no-loop

pub returns-clause-greatest : goal.returns-clause-greatest
returns-clause-greatest c = codes-are

pub returns-clause-one : goal.returns-clause-one
returns-clause-one c = one-code
