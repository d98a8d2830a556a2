use Rattle.std.proofs.Common.{refl}
use Rattle.mrp_page.proofs.Todo.{item-sentences, stand-once}
use Rattle.mrp_page.proofs.TodoKinds.{kind-lines, kinds-are, kinds-once, page-kinds}
use Rattle.mrp_page.proofs.laws.messages_stand_once.Goals as goal

pub returns-clause-once : goal.returns-clause-once
returns-clause-once c = kinds-once

pub returns-clause-todo : goal.returns-clause-todo
returns-clause-todo c = page-kinds

pub returns-clause-kinds : goal.returns-clause-kinds
returns-clause-kinds c = kinds-are

pub returns-clause-kind : goal.returns-clause-kind
returns-clause-kind c = kind-lines

pub returns-clause-urgency : goal.returns-clause-urgency
returns-clause-urgency c = stand-once

pub returns-clause-item : goal.returns-clause-item
returns-clause-item c = item-sentences

pub returns-clause-of_item : goal.returns-clause-of_item
returns-clause-of_item c = λ rows leader. refl
