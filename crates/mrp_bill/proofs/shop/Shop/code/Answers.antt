use Rattle.std.proofs.Common.{◌≡◌, ◌∙◌, length, slice_index, ap, arith, subst}
use Rattle.std.proofs.lemmas.List.{get_or_default}
use Rattle.mrp_bill.specs.Shop.{Shop, IsShop}
use Rattle.mrp_bill.proofs.Accepted.{code-is}
use Rattle.mrp_bill.proofs.shop.Shop.code.Goals as goal

pub returns : goal.returns
returns c =
    let s : Shop = c.args.self.now in
    let ok : IsShop s = subst IsShop c.self.view_is c.self.invariant.0 in
    let codes = ap (λ (x : Shop). x.codes) c.self.view_is in
    let read : c.index.result.now ≡ slice_index s.codes c.args.item =
    c.index.ensures ∙ get_or_default c.self.inside.codes.items c.args.item _ 0 (omega (arith, c.requires, ok.size, ap length codes)) ∙ ap (λ xs. slice_index xs c.args.item) codes in
    rw read (code-is s c.args.item ok)
