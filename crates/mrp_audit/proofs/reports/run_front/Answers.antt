use Rattle.mrp_item.specs.Inputs.{inputs_of}
use Rattle.mrp_audit.proofs.RunReports.{planned}
use Rattle.mrp_audit.proofs.reports.run_front.Goals as goal

pub returns : goal.returns
returns g c =
    planned (inputs_of c.args.rows.now.value.tables c.args.snapshot.now) c.args.text.now c.plan_run-planned.result c.planned_front.result c.plan_run-planned.ensures c.planned_front.ensures
