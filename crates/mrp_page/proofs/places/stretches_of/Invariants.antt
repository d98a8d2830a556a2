use Rattle.mrp_page.specs.Places.{HasStretches}
use Rattle.mrp_page.proofs.places.stretches_of.Given as goal

abbrev pub invariant-loop-place : goal.invariant-loop-place
invariant-loop-place l = HasStretches l.stretches l.rows l.place
