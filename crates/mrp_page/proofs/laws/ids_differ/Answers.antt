use Rattle.mrp_page.proofs.Ids.{ids-apart, items-apart}
use Rattle.mrp_page.proofs.laws.ids_differ.Goals as goal

pub returns-clause-ids : goal.returns-clause-ids
returns-clause-ids c = ids-apart

pub returns-clause-items : goal.returns-clause-items
returns-clause-items c = items-apart
