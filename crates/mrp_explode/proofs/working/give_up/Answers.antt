use Rattle.mrp_explode.proofs.WorkerCalls.{gives-up-told}
use Rattle.mrp_explode.proofs.working.give_up.Goals as goal

pub returns-clause-given_up : goal.returns-clause-given_up
returns-clause-given_up g c =
    let about = c.args.board.now.about in
    let old = c.args.worker.now in
    let new = c.call.new.seat in
    gives-up-told about.object old.number about.room old.seen old.mine c.call.result new.seen new.mine c.call.ensures.told
