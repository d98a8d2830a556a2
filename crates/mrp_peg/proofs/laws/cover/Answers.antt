use Rattle.mrp_peg.proofs.Covered.{covered_item}
use Rattle.mrp_peg.proofs.Own.{own}
use Rattle.mrp_peg.proofs.laws.cover.Goals as goal

pub returns : goal.returns
returns c = λ s i code plan ranked outcome sized. covered_item s i (own s i code plan ranked outcome) sized
