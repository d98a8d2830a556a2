use Rattle.std.proofs.Common.{◌∙◌}
use Rattle.mrp_survey.proofs.BillSteps.{edges-within}
use Rattle.mrp_survey.proofs.tables.tell_loops.Goals as goal

pub loops_among-requires : goal.loops_among-requires
loops_among-requires g c =
    let own = rw c.in-Some.is at c.in_ok-lines.ensures.lines in
    edges-within _ c.args.beside.now.items _ 1 _ c.deref.result.now (c.deref.ensures.value ∙ own.2)
