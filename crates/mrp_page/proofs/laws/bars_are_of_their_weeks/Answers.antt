use Rattle.mrp_page.proofs.Bars.{bars-stand, blue-is, none-above, none-cut, none-hot, none-low, over-is, red-is, week-is, within-is}
use Rattle.mrp_page.proofs.laws.bars_are_of_their_weeks.Goals as goal

pub returns-clause-centre : goal.returns-clause-centre
returns-clause-centre c = bars-stand

pub returns-clause-week : goal.returns-clause-week
returns-clause-week c = week-is

pub returns-clause-full : goal.returns-clause-full
returns-clause-full c = λ load is. (none-low load is, (none-hot load is, (none-above load is, none-cut load is)))

pub returns-clause-over : goal.returns-clause-over
returns-clause-over c = over-is

pub returns-clause-within : goal.returns-clause-within
returns-clause-within c = within-is

pub returns-clause-red : goal.returns-clause-red
returns-clause-red c = red-is

pub returns-clause-blue : goal.returns-clause-blue
returns-clause-blue c = blue-is
