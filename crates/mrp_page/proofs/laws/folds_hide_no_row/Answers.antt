use Rattle.mrp_page.proofs.Folds.{counted-is, folded-is}
use Rattle.mrp_page.proofs.laws.folds_hide_no_row.Goals as goal

pub returns-clause-drawn : goal.returns-clause-drawn
returns-clause-drawn c = folded-is

pub returns-clause-counted : goal.returns-clause-counted
returns-clause-counted c = counted-is
