use Rattle.std.proofs.Common.{add-one}
use Rattle.mrp_item.specs.Inputs.{horizon}
use Rattle.mrp_item.proofs.OrderLaws.{orders_add}
use Rattle.mrp_item.proofs.laws.orders.Goals as goal

pub returns : goal.returns
returns c = λ s i receipts rises. orders_add s i receipts (horizon s) (λ t. rw (← add-one t) (rises t))
