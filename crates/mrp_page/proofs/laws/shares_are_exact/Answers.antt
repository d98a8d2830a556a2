use Rattle.mrp_page.proofs.ShareOf.{above, below, columns-are, exact, minutes-read, none-is}
use Rattle.mrp_page.proofs.laws.shares_are_exact.Goals as goal

pub returns-clause-columns : goal.returns-clause-columns
returns-clause-columns c = columns-are

pub returns-clause-minutes : goal.returns-clause-minutes
returns-clause-minutes c = minutes-read

pub returns-clause-exact : goal.returns-clause-exact
returns-clause-exact c = exact

pub returns-clause-above : goal.returns-clause-above
returns-clause-above c = above

pub returns-clause-within : goal.returns-clause-within
returns-clause-within c = below

pub returns-clause-none : goal.returns-clause-none
returns-clause-none c = none-is
