use Rattle.std.proofs.Common.{refl}
use Rattle.mrp_page.proofs.OverloadedCentres.{drawn-are, weeks-counted, worst-falls, worst-is}
use Rattle.mrp_page.proofs.laws.overloaded_centres_have_their_shares.Goals as goal

pub returns-clause-weeks : goal.returns-clause-weeks
returns-clause-weeks c = weeks-counted

pub returns-clause-worst : goal.returns-clause-worst
returns-clause-worst c = worst-is

pub returns-clause-greatest : goal.returns-clause-greatest
returns-clause-greatest c = worst-falls

pub returns-clause-all : goal.returns-clause-all
returns-clause-all c = λ rows. refl

pub returns-clause-picture : goal.returns-clause-picture
returns-clause-picture c = drawn-are
