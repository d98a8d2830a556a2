use Rattle.mrp_page.proofs.Todo.{moved-is, open-said, pieces-are, received-said, released-is, sentence-is}
use Rattle.mrp_page.proofs.laws.sentences_have_their_orders.Goals as goal

pub returns-clause-sentence : goal.returns-clause-sentence
returns-clause-sentence c = sentence-is

pub returns-clause-released : goal.returns-clause-released
returns-clause-released c = released-is

pub returns-clause-moved : goal.returns-clause-moved
returns-clause-moved c = moved-is

pub returns-clause-open_order : goal.returns-clause-open_order
returns-clause-open_order c = open-said

pub returns-clause-pieces : goal.returns-clause-pieces
returns-clause-pieces c = pieces-are

pub returns-clause-received : goal.returns-clause-received
returns-clause-received c = received-said
