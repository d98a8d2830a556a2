use Rattle.std.proofs.Common.{◌<◌, ◌≤◌, ℕ, Bor, List, true, false, arith, length, map}
use Rattle.std.proofs.lemmas.List.{length-map}
use Rattle.mrp_advice.proofs.HeaderSteps.{count-ends, same-all, same-end, same-more, same-step}
use Rattle.mrp_advice.proofs.header.same_count.Goals.{then-place-kept-via-then-place-kept, then-place-kept-via-else-place-kept+then-ne}
use Rattle.mrp_advice.proofs.header.same_count.Goals as goal

pub returns-then-place-kept : goal.returns-then-place-kept
returns-then-place-kept c =
    let row = c.args.row.now.first in
    let names = c.args.columns.now in
    let i = c.loop-place.place in
    let inv = c.loop-place.invariant in
    elim c.then-place-kept.branch [
      | then-place-kept-via-then-place-kept w ↦ count-ends i _ _ inv.same_before (same-end row (map (λ (n : Bor (List ℕ)). n.now) names) i (omega (arith, w.if-place-kept.true, c.kept.ensures)))
      | then-place-kept-via-else-place-kept+then-ne w ↦
          let within : i < length row = omega (arith, w.if-place-kept.false, c.kept.ensures, inv.within) in
          count-ends i _ _ inv.same_before (same-more row names i _ _ _ _ false within c.loop-place-test.true w.cell_in.ensures w.as_bytes.ensures.value w.ne.ensures w.if-ne.true)
    ]

pub loop-place-preserved : goal.loop-place-preserved
loop-place-preserved c =
    let row = c.args.row.now.first in
    let names = c.args.columns.now in
    let i = c.loop-place.place in
    let inv = c.loop-place.invariant in
    let within : i < length row = omega (arith, c.if-place-kept.false, c.kept.ensures, inv.within) in
    record {
      within = omega (arith, within);
      same_before = same-step i _ _ _ inv.same_before (same-more row names i _ _ _ _ true within c.loop-place-test.true c.cell_in.ensures c.as_bytes.ensures.value c.ne.ensures c.if-ne.false);
    }

pub returns : goal.returns
returns c =
    let names = c.args.columns.now in
    let now = λ (n : Bor (List ℕ)). n.now in
    let inv = c.loop-place.invariant in
    let all : length (map now names) ≤ c.loop-place.place = omega (arith, c.loop-place-test.false, length-map names now) in
    omega (arith, c.loop-place-test.false, c.loop-place.auto.place-end, count-ends c.loop-place.place _ _ inv.same_before (same-all c.args.row.now.first (map now names) c.loop-place.place all))
