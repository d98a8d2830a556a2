use Rattle.mrp_page.proofs.Known.{shows-known}
use Rattle.mrp_page.proofs.laws.pages_show_what_is_known.Goals as goal

pub returns : goal.returns
returns c = shows-known
