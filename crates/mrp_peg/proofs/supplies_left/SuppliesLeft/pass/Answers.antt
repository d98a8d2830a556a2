use Rattle.mrp_peg.specs.Matching.{amount_offered}
use Rattle.mrp_peg.proofs.Dropped.{dropped_next}
use Rattle.mrp_peg.proofs.supplies_left.SuppliesLeft.pass.Goals as goal

pub returns-then-self-len : goal.returns-then-self-len
returns-then-self-len c = dropped_next amount_offered c.args.self.now.supplies.items c.args.self.now.place
