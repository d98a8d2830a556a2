use Rattle.std.proofs.Common.{inl, inr, sym}
use Rattle.mrp_script.proofs.ShopFaults.{closed, opened, tables-are, sections-refused}
use Rattle.mrp_script.proofs.opening.open_shop.Goals as goal

pub returns-in-Err : goal.returns-in-Err
returns-in-Err g c = closed c.args.bundle.now c.in-Err.fault c.refusal.result (inr (sections-refused c.args.bundle.now c.in-Err.fault (sym c.in-Err.ensures))) c.refusal.ensures

pub returns-in-Ok-read_parallel : goal.returns-in-Ok-read_parallel
returns-in-Ok-read_parallel g c = opened c.args.bundle.now c.in-Ok-read_parallel.tables c.shop_of.result (tables-are c.args.bundle.now c.in-Ok.sections _ (sym c.in-Ok.ensures) c.in-Ok-read_parallel.ensures) c.shop_of.ensures

pub returns-in-Err-read_parallel : goal.returns-in-Err-read_parallel
returns-in-Err-read_parallel g c = closed c.args.bundle.now c.in-Err-read_parallel.fault c.refusal-in-Err-read_parallel.result
    (elim c.in-Err-read_parallel.ensures [ inl memory ↦ inl memory.code | inr e ↦ inr (tables-are c.args.bundle.now c.in-Ok.sections _ (sym c.in-Ok.ensures) e) ]) c.refusal-in-Err-read_parallel.ensures
