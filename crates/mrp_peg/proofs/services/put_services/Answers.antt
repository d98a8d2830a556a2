use Rattle.std.proofs.Common.{◌∙◌, ◌<◌, length, map, arith}
use Rattle.std.proofs.lemmas.List.{length-map}
use Rattle.mrp_peg.specs.Rows.{service_requirement}
use Rattle.mrp_peg.proofs.Placed.{put_all_of, put_next, put_none_of, service_at}
use Rattle.mrp_peg.proofs.services.put_services.Goals as goal

pub loop-service-init : goal.loop-service-init
loop-service-init c = λ count placed rest are. put_none_of count placed rest (map (service_requirement c.args.item) c.args.services.now) c.args.next.now c.args.needs.now are

pub loop-service-preserved : goal.loop-service-preserved
loop-service-preserved c = λ count placed rest are.
    let services = c.args.services.now in
    let k = c.loop-service.service-index in
    let due = c.service-item.result in
    let own = map (service_requirement c.args.item) services in
    let one = c.requirement_of.result in
    let there : k < length own = omega (arith, c.loop-service-test.true, length-map services (service_requirement c.args.item)) in
    put_next count placed rest own k one c.loop-service.next c.loop-service.needs c.put.new.next c.put.new.needs there
    (c.requirement_of.ensures ∙ service_at c.args.item k services due one c.loop-service-test.true c.service-item.is) c.put.ensures (c.loop-service.invariant count placed rest are)

pub returns : goal.returns
returns c = λ count placed rest are.
    let services = c.args.services.now in
    let own = map (service_requirement c.args.item) services in
    put_all_of count placed rest own c.loop-service.service-index c.loop-service.next c.loop-service.needs (omega (arith, c.loop-service-test.false, length-map services (service_requirement c.args.item))) (c.loop-service.invariant count placed rest are)
