use Rattle.std.proofs.Common.{Err, subst, sym}
use Rattle.mrp_script.specs.Opened.{OpensTables}
use Rattle.mrp_script.specs.declared.fault.OpenFault.{OpenFault}
use Rattle.mrp_script.proofs.ShopFaults.{begins-within, opens-refused}
use Rattle.mrp_script.proofs.opening.shop_of.Goals as goal

pub bill_refusal-requires : goal.bill_refusal-requires
bill_refusal-requires c = begins-within c.args.tables.items c.args.tables.bills c.in-Err.fault c.keep_limits.ensures.bills c.keep_limits.ensures.item_count c.in-Err.ensures.refused

pub returns-in-Err : goal.returns-in-Err
returns-in-Err c =
    subst (λ (f : OpenFault). OpensTables c.args.tables (Err f)) (sym c.bill_refusal.ensures) (opens-refused c.args.tables c.in-Err.fault c.in-Err.ensures.refused)
