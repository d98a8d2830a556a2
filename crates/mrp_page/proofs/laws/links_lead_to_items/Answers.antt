use Rattle.mrp_page.proofs.Links.{item-begins, link-is, lists-have-orders, order-begins, order-link-is, orders-are}
use Rattle.mrp_page.proofs.laws.links_lead_to_items.Goals as goal

pub returns-clause-link : goal.returns-clause-link
returns-clause-link c = link-is

pub returns-clause-item : goal.returns-clause-item
returns-clause-item c = item-begins

pub returns-clause-order_link : goal.returns-clause-order_link
returns-clause-order_link c = order-link-is

pub returns-clause-order : goal.returns-clause-order
returns-clause-order c = order-begins

pub returns-clause-orders : goal.returns-clause-orders
returns-clause-orders c = orders-are

pub returns-clause-lists : goal.returns-clause-lists
returns-clause-lists c = lists-have-orders
