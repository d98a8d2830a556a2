use Rattle.std.proofs.Common.{◌∙◌, ap, subst}
use Rattle.mrp_bill.specs.Shop.{Shop, IsShop}
use Rattle.mrp_bill.proofs.Accepted.{depth-is}
use Rattle.mrp_bill.proofs.shop.Shop.depth.Goals as goal

pub returns : goal.returns
returns c =
    let s : Shop = c.args.self.now in
    let ok : IsShop s = subst IsShop c.self.view_is c.self.invariant.0 in
    let codes = c.deref.ensures.value ∙ ap (λ (x : Shop). x.codes) c.self.view_is in
    depth-is s c.greatest.result ok (rw codes at c.greatest.ensures.greatest) (rw codes at c.greatest.ensures.reached)
