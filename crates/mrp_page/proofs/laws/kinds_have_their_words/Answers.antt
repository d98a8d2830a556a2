use Rattle.mrp_page.proofs.TodoKinds.{head-cancel, head-in, head-late, head-out, head-release}
use Rattle.mrp_page.proofs.laws.kinds_have_their_words.Goals as goal

pub returns-clause-past_due : goal.returns-clause-past_due
returns-clause-past_due c = head-late

pub returns-clause-release : goal.returns-clause-release
returns-clause-release c = head-release

pub returns-clause-earlier : goal.returns-clause-earlier
returns-clause-earlier c = head-in

pub returns-clause-later : goal.returns-clause-later
returns-clause-later c = head-out

pub returns-clause-cancel : goal.returns-clause-cancel
returns-clause-cancel c = head-cancel
