use Rattle.std.proofs.Common.{◌∙◌, Err, ap, sym}
use Rattle.mrp_explode.specs.declared.fault.RunFault.{RunFault}
use Rattle.mrp_engine.specs.day.Fault.{plan_or_fault}
use Rattle.mrp_engine.specs.declared.day.fault.DayFault.{DayFault}
use Rattle.mrp_engine.proofs.day.runs.or_refusal.Goals as goal

pub refusal-requires : goal.refusal-requires
refusal-requires c item is = c.requires item (c.in-Err.is ∙ ap (λ (fault : RunFault). Err fault) is)

pub returns-in-Err : goal.returns-in-Err
returns-in-Err c s same =
    ap (λ (fault : DayFault). Err fault) (c.refusal.ensures s same) ∙ ap (plan_or_fault s) (sym c.in-Err.is)
