use Rattle.std.proofs.Common.{◌++◌, ap, length}
use Rattle.std.proofs.lemmas.List.{drop-replicate}
use Rattle.mrp_rows.proofs.name.padded.Goals as goal

pub returns : goal.returns
returns c = rw c.copy_from_slice.ensures.after (ap (λ zeros. c.args.text.now ++ zeros) (drop-replicate (length c.args.text.now) 32 0))
