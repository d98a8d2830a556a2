use Rattle.std.proofs.Common.{◌∙◌, ◌<◌, length, get_or, ap, subst, sym, arith}
use Rattle.std.proofs.lemmas.List.FromFn.{get_or-map-range_with_len}
use Rattle.mrp_bill.specs.Shop.{Shop}
use Rattle.mrp_master.specs.Supply.{Supply, on_hand_of}
use Rattle.mrp_item.proofs.shop_rows.ShopRows.on_hand.Goals as goal

pub returns : goal.returns
returns c =
    let a = c.self.inside in
    let t = a.shop.value.tables in
    let i = c.args.item in
    let within : i < length t.items = subst (λ (x : Shop). i < length x.tables.items) (sym c.self.view_is) c.requires in
    c.on_hand.ensures.value
    ∙ ap (λ (s : Supply). get_or s.on_hand i 0) c.self.invariant.supply
    ∙ get_or-map-range_with_len (on_hand_of t.stock) 0 (length t.items) i i 0 (omega arith) (omega arith)
    ∙ ap (λ (x : Shop). on_hand_of x.tables.stock i) c.self.view_is
