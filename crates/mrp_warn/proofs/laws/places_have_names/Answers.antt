use Rattle.mrp_warn.proofs.ToldRows.{place-named}
use Rattle.mrp_warn.proofs.laws.places_have_names.Goals as goal

pub returns : goal.returns
returns c = place-named
