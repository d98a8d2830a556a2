use Rattle.mrp_bill.proofs.Accepted.{lines-are}
use Rattle.mrp_bill.proofs.laws.lines.Goals as goal

pub returns : goal.returns
returns c = lines-are
