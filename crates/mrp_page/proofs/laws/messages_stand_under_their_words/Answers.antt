use Rattle.mrp_page.proofs.Todo.{said-cancel, said-in, said-late, said-other, said-out, said-release}
use Rattle.mrp_page.proofs.laws.messages_stand_under_their_words.Goals as goal

pub returns-clause-past_due : goal.returns-clause-past_due
returns-clause-past_due c = said-late

pub returns-clause-release : goal.returns-clause-release
returns-clause-release c = said-release

pub returns-clause-earlier : goal.returns-clause-earlier
returns-clause-earlier c = said-in

pub returns-clause-later : goal.returns-clause-later
returns-clause-later c = said-out

pub returns-clause-cancel : goal.returns-clause-cancel
returns-clause-cancel c = said-cancel

pub returns-clause-another : goal.returns-clause-another
returns-clause-another c = said-other
