use Rattle.mrp_book.proofs.States.{state_none, state_more}
use Rattle.mrp_book.proofs.laws.states.Goals as goal

pub returns-clause-none : goal.returns-clause-none
returns-clause-none c = state_none

pub returns-clause-more : goal.returns-clause-more
returns-clause-more c = state_more
