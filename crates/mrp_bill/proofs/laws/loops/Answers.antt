use Rattle.mrp_bill.proofs.Accepted.{loop-or-codes, loop-or-shop}
use Rattle.mrp_bill.proofs.laws.loops.Goals as goal

pub returns-clause-first : goal.returns-clause-first
returns-clause-first c = loop-or-codes

pub returns-clause-shop : goal.returns-clause-shop
returns-clause-shop c = loop-or-shop
