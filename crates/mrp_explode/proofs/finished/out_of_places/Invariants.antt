use Rattle.mrp_explode.proofs.Taken.{AreTaken}
use Rattle.mrp_explode.proofs.finished.out_of_places.Given as goal

abbrev pub invariant-loop-place : goal.invariant-loop-place
invariant-loop-place g l = AreTaken l.fn.places.items l.all.items l.place-iterator.rest.items
