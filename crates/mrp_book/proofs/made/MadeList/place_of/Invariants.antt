use Rattle.std.proofs.Common.{ℕ, ◌-◌, ◌<◌, ◌≤◌, length}
use Rattle.mrp_book.proofs.Numbers.{number_at}
use Rattle.mrp_book.proofs.made.MadeList.place_of.Given as goal

abbrev pub invariant-loop-first : goal.invariant-loop-first
invariant-loop-first l = record {
  order : l.first ≤ l.end;
  within : l.end ≤ length l.self;
  less : (i : ℕ) → i < l.first → number_at l.self i < l.number;
  more : (i : ℕ) → l.end ≤ i → i < length l.self → l.number < number_at l.self i;
}

abbrev pub decreases-loop-first : goal.decreases-loop-first
decreases-loop-first l = l.end - l.first
