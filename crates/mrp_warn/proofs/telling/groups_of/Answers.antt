use Rattle.std.proofs.Common.{refl}
use Rattle.mrp_warn.specs.declared.kind.Kind.TheVariants.{ClosedWeek}
use Rattle.mrp_warn.proofs.Grouped.{groups-all, groups-more}
use Rattle.mrp_warn.proofs.telling.groups_of.Goals as goal

pub loop-kind-preserved : goal.loop-kind-preserved
loop-kind-preserved c =
    rw c.in_ok-push.ensures.items
    (groups-more c.args.inspection.now c.args.kinds.now c.loop-kind.kind-index ClosedWeek c.loop-kind.groups.items _ c.loop-kind-test.true c.loop-kind.invariant (record { kind_is = refl; tells = c.in_ok-warnings.ensures }))

pub returns : goal.returns
returns c = groups-all c.args.inspection.now c.args.kinds.now c.loop-kind.kind-index c.loop-kind.groups.items c.loop-kind-test.false c.loop-kind.invariant
