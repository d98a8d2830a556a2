use Rattle.mrp_open.proofs.RunsMade.{have-come}
use Rattle.mrp_open.proofs.laws.runs_are_made.Goals as goal

pub returns : goal.returns
returns g c = λ known folder tables given left old new handed_old handed_new end runs first last up legal none all each.
    have-come known folder g.row.D-Part.Denot g.N.Write.contents tables given left old new handed_old handed_new end runs first last up legal none all each
