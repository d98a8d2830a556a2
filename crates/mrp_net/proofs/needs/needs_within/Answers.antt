use Rattle.mrp_net.specs.Need.{need}
use Rattle.mrp_net.proofs.NetLaws.{is_row-rises, need_rises}
use Rattle.mrp_net.proofs.needs.needs_within.Goals as goal

pub invariant_of-result : goal.invariant_of-result
invariant_of-result c =
    is_row-rises c.loop-i.needs.items (need c.args.stock.now c.as_slice-gross.result.now) c.loop-i.i c.loop-i.invariant.needs
    (need_rises c.args.stock.now c.as_slice-gross.result.now c.loop-i.i)
