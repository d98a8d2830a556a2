use Rattle.mrp_page.proofs.Links.{items-stand}
use Rattle.mrp_page.proofs.NamesOnce.{shows-full, shows-most}
use Rattle.mrp_page.proofs.ShownItems.{counts-all, shows-first}
use Rattle.mrp_page.proofs.laws.first_items_with_messages.Goals as goal

pub returns-clause-shown : goal.returns-clause-shown
returns-clause-shown c = shows-first

pub returns-clause-most : goal.returns-clause-most
returns-clause-most c = shows-most

pub returns-clause-full : goal.returns-clause-full
returns-clause-full c = shows-full

pub returns-clause-count : goal.returns-clause-count
returns-clause-count c = counts-all

pub returns-clause-page : goal.returns-clause-page
returns-clause-page c = items-stand
