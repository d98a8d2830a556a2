use Rattle.mrp_page.proofs.IdLinks.{cancel-id, centre-leads, entry-leads, in-id, item-leads, kind-leads, late-id, load-leads, none-leads, order-leads, out-id, release-id, sections-stand, some-lead}
use Rattle.mrp_page.proofs.laws.links_lead_to_ids.Goals as goal

pub returns-clause-sections : goal.returns-clause-sections
returns-clause-sections c = sections-stand

pub returns-clause-item : goal.returns-clause-item
returns-clause-item c = item-leads

pub returns-clause-order : goal.returns-clause-order
returns-clause-order c = order-leads

pub returns-clause-entry : goal.returns-clause-entry
returns-clause-entry c = entry-leads

pub returns-clause-centre : goal.returns-clause-centre
returns-clause-centre c = centre-leads

pub returns-clause-load : goal.returns-clause-load
returns-clause-load c = load-leads

pub returns-clause-kind : goal.returns-clause-kind
returns-clause-kind c = kind-leads

pub returns-clause-past_due : goal.returns-clause-past_due
returns-clause-past_due c = late-id

pub returns-clause-release : goal.returns-clause-release
returns-clause-release c = release-id

pub returns-clause-earlier : goal.returns-clause-earlier
returns-clause-earlier c = in-id

pub returns-clause-later : goal.returns-clause-later
returns-clause-later c = out-id

pub returns-clause-cancel : goal.returns-clause-cancel
returns-clause-cancel c = cancel-id

pub returns-clause-none : goal.returns-clause-none
returns-clause-none c = none-leads

pub returns-clause-some : goal.returns-clause-some
returns-clause-some c = some-lead
