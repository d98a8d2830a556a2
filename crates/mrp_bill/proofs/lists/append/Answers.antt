use Rattle.mrp_bill.proofs.Listed.{appends-set}
use Rattle.mrp_bill.proofs.lists.append.Goals as goal

pub returns : goal.returns
returns g c = appends-set c.args.lists.now.items c.args.at c.args.x c.index_mut.result.now c.push.new.self c.requires c.index_mut.ensures.value c.in_ok-push.ensures.items
