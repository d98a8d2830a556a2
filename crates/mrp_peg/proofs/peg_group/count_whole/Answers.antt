use Rattle.std.proofs.Common.{◌≡◌, ◌∙◌, ◌<◌, ◌≤◌, ap, arith, length, refl, sym}
use Rattle.std.proofs.lemmas.List.{get_or_read}
use Rattle.std.proofs.lemmas.List.Elements.{All-more}
use Rattle.mrp_peg.specs.declared.matching.Requirement.{Requirement}
use Rattle.mrp_peg.proofs.Groups.{total_more}
use Rattle.mrp_peg.proofs.peg_group.count_whole.Goals as goal

pub loop-count-preserved : goal.loop-count-preserved
loop-count-preserved c =
    let needs = c.args.needs.now in
    let k = c.loop-count.count in
    let before = c.loop-count.invariant in
    let first = c.index-needs-count.result in
    let r = c.index-needs-count-in-loop-count.result in
    let within : k < length needs = omega (arith, c.loop-count-test.true, c.min-most.ensures) in
    let is = get_or_read needs k r within c.index-needs-count-in-loop-count.is in
    let same : r ≡ first = is first ∙ sym c.index-needs-count.is in
    let pieces : c.value-left-in-loop-count.result ≡ r.quantity = c.value-left-in-loop-count.ensures.pieces ∙ ap (λ (x : Requirement). x.quantity) (sym c.index-needs-count-in-loop-count.is) in
    let enough : first.quantity ≤ c.loop-count.left = c.if-is_whole.ensures.enough refl in
    record {
      few = omega (arith, c.loop-count-test.true);
      weekly = All-more (λ (x : Requirement). x.need.week ≡ c.args.week) needs k first within before.weekly (ap (λ (x : Requirement). x.need.week) (sym c.index-needs-count.is) ∙ c.if-is_whole.ensures.week refl);
      some = All-more (λ (x : Requirement). 0 < x.quantity) needs k first within before.some (omega (arith, c.if-is_whole.ensures.some refl, ap (λ (x : Requirement). x.quantity) c.index-needs-count.is));
      sum = omega (arith, before.sum, total_more needs k r r within c.index-needs-count-in-loop-count.is, pieces, enough, ap (λ (x : Requirement). x.quantity) same);
    }
