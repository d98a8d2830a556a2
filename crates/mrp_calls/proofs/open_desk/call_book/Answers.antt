use Rattle.std.proofs.Common.{sym, subst}
use Rattle.mrp_master.specs.Supply.{Supply, supply_of}
use Rattle.mrp_book.specs.declared.call.Call.{Call}
use Rattle.mrp_book.specs.History.{Fits}
use Rattle.mrp_script.proofs.ScriptCalls.{call-fits}
use Rattle.mrp_calls.proofs.open_desk.call_book.Goals as goal

pub call_of-called-requires : goal.call_of-called-requires
call_of-called-requires c = call-fits c.args.shop.now.tables c.args.given.now.call c.requires.within.call

pub call-requires-clause-fits : goal.call-requires-clause-fits
call-requires-clause-fits c =
    subst (λ (s : Supply). Fits s c.call_of-called.result) (sym c.requires.supply)
    (subst (λ (k : Call). Fits (supply_of c.args.shop.now.tables) k) (sym c.call_of-called.ensures) (call-fits c.args.shop.now.tables c.args.given.now.call c.requires.within.call))

pub call_of-call-requires : goal.call_of-call-requires
call_of-call-requires c = call-fits c.args.shop.now.tables c.args.given.now.call c.requires.within.call
