-- The lemmas state the clauses.
use Rattle.mrp_master.proofs.Available.{least_is_available, available_is_least, available_unique}
use Rattle.mrp_master.proofs.Promises.{available_is, fits_promise, promise_fits}
use Rattle.mrp_master.proofs.laws.promising.Goals as goal

pub returns : goal.returns
returns c = record {
  least = least_is_available;
  is_least = available_is_least;
  some = λ s lines item week m w covered. available_is s lines item m covered week w;
  one = available_unique;
  fits = λ s lines item week quantity m w covered. (promise_fits s lines item week quantity, fits_promise s lines item m covered week quantity w);
}
