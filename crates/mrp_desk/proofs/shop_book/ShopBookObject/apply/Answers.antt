use Rattle.std.proofs.Common.{sym, subst}
use Rattle.mrp_master.specs.Supply.{Supply}
use Rattle.mrp_book.specs.History.{Fits}
use Rattle.mrp_desk.proofs.Legal.{reached_supply}
use Rattle.mrp_desk.proofs.shop_book.ShopBookObject.apply.Goals as goal

pub apply-requires : goal.apply-requires
apply-requires c = record { fits = subst (λ (s : Supply). Fits s c.args.call.now) (sym (reached_supply c.args.self.now c.args.state.now c.requires.state)) c.requires.call }
