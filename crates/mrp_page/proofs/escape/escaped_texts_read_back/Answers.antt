use Rattle.mrp_page.proofs.ReadBack.{reads-back}
use Rattle.mrp_page.proofs.escape.escaped_texts_read_back.Goals as goal

pub returns : goal.returns
returns c = reads-back
