use Rattle.std.proofs.Common.{◌-◌, length}
use Rattle.mrp_rows.specs.declared.name.TheConstants.{LONGEST_NAME}
use Rattle.mrp_rows.proofs.PaddedTexts.{printable-in-front}
use Rattle.mrp_rows.proofs.name.is_printable_text.Goals as goal

pub returns : goal.returns
returns c = rw (c.printable_front.ensures, c.requires) (printable-in-front c.args.text.now (LONGEST_NAME - length c.args.text.now))
