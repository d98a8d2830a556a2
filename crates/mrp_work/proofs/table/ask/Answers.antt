use Rattle.mrp_work.proofs.Added.{asked-one}
use Rattle.mrp_work.proofs.table.ask.Goals as goal

pub returns-in-Ok : goal.returns-in-Ok
returns-in-Ok c = asked-one c.args.found.now c.insert.new.self c.args.place c.new.result c.new.ensures.items c.in-Ok.ensures.updates
