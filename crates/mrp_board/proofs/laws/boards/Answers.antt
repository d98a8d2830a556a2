use Rattle.mrp_board.proofs.BoardStates.{reply-is, state-more, state-none}
use Rattle.mrp_board.proofs.Waits.{can-not-take}
use Rattle.mrp_board.proofs.laws.boards.Goals as goal

pub returns-clause-reply : goal.returns-clause-reply
returns-clause-reply c = λ s log who call legal. reply-is s log legal who call

pub returns-clause-none : goal.returns-clause-none
returns-clause-none c = λ s. state-none s

pub returns-clause-more : goal.returns-clause-more
returns-clause-more c = λ s log who call reply is. state-more s log who call reply is

pub returns-clause-waits : goal.returns-clause-waits
returns-clause-waits c = λ s log who. can-not-take s log who
