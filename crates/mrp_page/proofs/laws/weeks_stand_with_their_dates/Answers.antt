use Rattle.mrp_page.proofs.Dated.{dated-is, undated-is, weeks-stand}
use Rattle.mrp_page.proofs.laws.weeks_stand_with_their_dates.Goals as goal

pub returns-clause-weeks : goal.returns-clause-weeks
returns-clause-weeks c = weeks-stand

pub returns-clause-undated : goal.returns-clause-undated
returns-clause-undated c = undated-is

pub returns-clause-dated : goal.returns-clause-dated
returns-clause-dated c = λ facts row week are dated within is. dated-is facts row week dated within are.weeks_in.1 is
