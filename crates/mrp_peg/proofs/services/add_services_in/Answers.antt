use Rattle.mrp_peg.specs.Rows.{service_requirement}
use Rattle.mrp_peg.proofs.Loops.{one_kept}
use Rattle.mrp_peg.proofs.Released.{in_the}
use Rattle.mrp_peg.proofs.services.add_services_in.Goals as goal

pub loop-service-preserved : goal.loop-service-preserved
loop-service-preserved c =
    one_kept (service_requirement c.args.item) (in_the c.args.week) c.args.needs.now.items c.loop-service.needs.items c.add_service_in.new.needs.items c.args.services.now c.loop-service.service-index c.service-item.result c.loop-service-test.true c.service-item.is
    c.loop-service.invariant c.in_ok-add_service_in.ensures
