use Rattle.std.proofs.Common.{List, subst}
use Rattle.mrp_loops.specs.declared.line.Line.{Line}
use Rattle.mrp_loops.specs.Best.{HasNoLine, IsBestLine}
use Rattle.mrp_loops.proofs.Shortest.{never-none, way-begins, way-more, way-nearer}
use Rattle.mrp_loops.proofs.way.way_on.Goals as goal

pub loop-at-init : goal.loop-at-init
loop-at-init c =
    let best = subst (λ (l : List Line). IsBestLine l c.args.far.now c.args.item c.args.first) c.requires.turned c.requires.first in
    rw c.in_ok-way.ensures.items (way-begins c.args.lines.now c.args.far.now c.args.item c.requires.far c.args.first best)

pub loop-at-smaller : goal.loop-at-smaller
loop-at-smaller c =
    let best = subst (λ (l : List Line). IsBestLine l c.args.far.now c.loop-at.at c.in-Some.place) c.requires.turned c.in-Some.ensures in
    way-nearer c.args.lines.now c.args.far.now c.args.item c.requires.far c.loop-at.way.items c.loop-at.at c.loop-at.invariant c.loop-at-test.true c.in-Some.place best

pub loop-at-preserved : goal.loop-at-preserved
loop-at-preserved c =
    let best = subst (λ (l : List Line). IsBestLine l c.args.far.now c.loop-at.at c.in-Some.place) c.requires.turned c.in-Some.ensures in
    rw c.in_ok-push-in-Some.ensures.items
    (way-more c.args.lines.now c.args.far.now c.args.item c.requires.far c.loop-at.way.items c.loop-at.at c.loop-at.invariant c.loop-at-test.true c.in-Some.place best)

pub unreachable-requires : goal.unreachable-requires
unreachable-requires c =
    let none = subst (λ (l : List Line). HasNoLine l c.args.far.now c.loop-at.at) c.requires.turned c.in-None.ensures in
    never-none c.args.lines.now c.args.far.now c.args.item c.requires.far c.loop-at.way.items c.loop-at.at c.loop-at.invariant c.loop-at-test.true none
