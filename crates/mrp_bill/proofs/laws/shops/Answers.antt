use Rattle.mrp_bill.proofs.Accepted.{same-shop}
use Rattle.mrp_bill.proofs.laws.shops.Goals as goal

pub returns : goal.returns
returns c = same-shop
