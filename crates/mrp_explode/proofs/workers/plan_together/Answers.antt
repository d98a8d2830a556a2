use Rattle.mrp_explode.proofs.Ended.{all-stored}
use Rattle.mrp_explode.proofs.workers.plan_together.Goals as goal

pub plan_of-requires-clause-stored : goal.plan_of-requires-clause-stored
plan_of-requires-clause-stored g c = all-stored c.args.inputs.now.value c.args.workers c.in_ok-board.log c.in_ok-board.board c.in_ok-board.ensures
