use Rattle.mrp_page.proofs.CountedEntries.{entries-kept-or-counted}
use Rattle.mrp_page.proofs.CountedRows.{all-kept, kept-in-order, kept-or-counted}
use Rattle.mrp_page.proofs.OrderedRows.{stand-together}
use Rattle.mrp_page.proofs.laws.rows_are_kept_or_counted.Goals as goal

pub returns-clause-history : goal.returns-clause-history
returns-clause-history c = entries-kept-or-counted

pub returns-clause-report : goal.returns-clause-report
returns-clause-report c = kept-or-counted

pub returns-clause-some : goal.returns-clause-some
returns-clause-some c = kept-in-order

pub returns-clause-all : goal.returns-clause-all
returns-clause-all c = all-kept

pub returns-clause-together : goal.returns-clause-together
returns-clause-together c = stand-together
