use Rattle.mrp_desk.specs.Offices.{supply_at}
use Rattle.mrp_desk.proofs.Told.{snapped}
use Rattle.mrp_desk.proofs.office.Office.snapshot.Goals as goal

pub returns-clause-taken : goal.returns-clause-taken
returns-clause-taken g c = snapped (supply_at c.args.self.now) c.args.desk.now c.call.new.desk c.call.result c.call.ensures
