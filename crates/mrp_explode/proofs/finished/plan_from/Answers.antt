use Rattle.std.proofs.Common.{◌≡◌, ◌∙◌, sym}
use Rattle.mrp_explode.specs.declared.fault.RunFault.TheVariants.{NoMemory, TooLarge}
use Rattle.mrp_explode.proofs.finished.plan_from.Goals as goal

pub returns-in-Err-clause-told : goal.returns-in-Err-clause-told
returns-in-Err-clause-told c = λ e.
    let same : TooLarge c.in-Err.item ≡ NoMemory = sym c.too_large.ensures ∙ e in
    cc
