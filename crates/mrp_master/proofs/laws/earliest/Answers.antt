-- The lemmas state the clauses.
use Rattle.mrp_master.proofs.Promises.{earliest_is, earliest_unique}
use Rattle.mrp_master.proofs.laws.earliest.Goals as goal

pub returns : goal.returns
returns c = record {
  some = λ s lines item quantity m covered. earliest_is s lines item m covered quantity;
  one = earliest_unique;
}
