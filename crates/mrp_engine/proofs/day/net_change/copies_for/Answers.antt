use Rattle.std.proofs.Common.{get_or}
use Rattle.mrp_engine.proofs.lemmas.day.Remade.{copied-next}
use Rattle.mrp_engine.proofs.day.net_change.copies_for.Goals as goal

pub loop-parent-preserved : goal.loop-parent-preserved
loop-parent-preserved g c =
    copied-next g.P.Planner.item_of c.args.inputs.now c.loop-parent.copies.items c.push.new.self.items c.in_ok-copy_of.field-0 c.parents-parents.result.now c.loop-parent.parent-index c.loop-parent-test.true
    c.loop-parent.invariant c.in_ok-push.ensures.items (c.requires.own (get_or c.parents-parents.result.now c.loop-parent.parent-index 0) c.in_ok-copy_of.field-0 c.in_ok-copy_of.ensures)
