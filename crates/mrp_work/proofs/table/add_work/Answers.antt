use Rattle.mrp_work.proofs.Added.{put-back}
use Rattle.mrp_work.proofs.table.add_work.Goals as goal

pub returns-in-Ok : goal.returns-in-Ok
returns-in-Ok c =
    put-back c.args.work c.args.found.now c.remove.new.self c.insert.new.self c.in-Some.works c.push.new.self c.remove.ensures.updates c.in-Some.ensures.value c.in_ok-push.ensures.items c.in-Ok.ensures.updates
