use Rattle.std.proofs.Common.{List, ◌<◌, ◌++◌, length, map, take, take_all, sym, subst, refl, arith}
use Rattle.std.proofs.lemmas.List.{append-nil, length-map}
use Rattle.mrp_peg.specs.declared.matching.Requirement.{Requirement}
use Rattle.mrp_peg.specs.Placed.{AreCounted}
use Rattle.mrp_peg.specs.Rows.{service_requirement}
use Rattle.mrp_peg.proofs.Placed.{service_at, taken_next}
use Rattle.mrp_peg.proofs.services.count_services.Goals as goal

pub loop-service-init : goal.loop-service-init
loop-service-init c = λ count item counted are. subst (λ (l : List Requirement). AreCounted count l c.args.counts.now) (sym (append-nil counted)) are

pub loop-service-preserved : goal.loop-service-preserved
loop-service-preserved c = λ count item counted are.
    let services = c.args.services.now in
    let k = c.loop-service.service-index in
    let due = c.service-item.result in
    let own = map (service_requirement item) services in
    let one = service_requirement item due in
    let there : k < length own = omega (arith, c.loop-service-test.true, length-map services (service_requirement item)) in
    subst (λ (l : List Requirement). AreCounted count l c.count_one.new.counts)
    (taken_next counted own k one there (service_at item k services due one c.loop-service-test.true c.service-item.is))
    (c.in_ok-count_one.ensures count (counted ++ take k own) one refl (c.loop-service.invariant count item counted are))

pub returns : goal.returns
returns c = λ count item counted are.
    let services = c.args.services.now in
    let own = map (service_requirement item) services in
    subst (λ (l : List Requirement). AreCounted count (counted ++ l) c.loop-service.counts)
    (take_all c.loop-service.service-index own (omega (arith, c.loop-service-test.false, length-map services (service_requirement item))))
    (c.loop-service.invariant count item counted are)
