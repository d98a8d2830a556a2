use Rattle.mrp_qty.proofs.MinuteTexts.{minutes_text-read}
use Rattle.mrp_qty.proofs.laws.minutes_read_back.Goals as goal

pub returns : goal.returns
returns c = minutes_text-read
