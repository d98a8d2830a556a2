use Rattle.mrp_page.proofs.Columns.{balances-are, bars-are}
use Rattle.mrp_page.proofs.ShareOf.{cut-is, high-is, hot-is, low-is, uncut-is}
use Rattle.mrp_page.proofs.Safety.{scale-is}
use Rattle.mrp_page.proofs.laws.pictures_are_drawn_from_their_columns.Goals as goal

pub returns-clause-loads : goal.returns-clause-loads
returns-clause-loads c = bars-are

pub returns-clause-low : goal.returns-clause-low
returns-clause-low c = low-is

pub returns-clause-hot : goal.returns-clause-hot
returns-clause-hot c = hot-is

pub returns-clause-above : goal.returns-clause-above
returns-clause-above c = high-is

pub returns-clause-cut : goal.returns-clause-cut
returns-clause-cut c = cut-is

pub returns-clause-uncut : goal.returns-clause-uncut
returns-clause-uncut c = uncut-is

pub returns-clause-balances : goal.returns-clause-balances
returns-clause-balances c = balances-are

pub returns-clause-safety : goal.returns-clause-safety
returns-clause-safety c = scale-is
