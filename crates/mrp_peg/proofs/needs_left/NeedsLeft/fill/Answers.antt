use Rattle.std.proofs.Common.{◌≡◌, ◌∙◌, ◌++◌, ◌+◌, ◌<◌, ◌≤◌, [], length, sym, arith}
use Rattle.mrp_item.specs.Inputs.{horizon}
use Rattle.mrp_peg.specs.Left.{listed_left, required_after, to_come}
use Rattle.mrp_peg.specs.Matching.{amount_required, amounts_required}
use Rattle.mrp_peg.specs.Pegging.{needs_in}
use Rattle.mrp_peg.proofs.Dropped.{dropped_none, first_of}
use Rattle.mrp_peg.proofs.WeeksLeft.{after_next}
use Rattle.mrp_peg.proofs.needs_left.NeedsLeft.fill.Goals as goal

pub loop-self-preserved : goal.loop-self-preserved
loop-self-preserved c =
    let part = c.in-Some.part in
    let s = part.plan.now.inputs in
    let i = part.item in
    let self = c.loop-self.self in
    let week = self.week in
    let listed : amounts_required c.list.new.needs.items ≡ needs_in s i (week + 1) = c.in_ok-list.ensures in
    let past : length self.needs.items ≤ self.place = omega (arith, c.loop-self-test.true, c.len.ensures) in
    let empty : listed_left self ≡ [] = dropped_none amount_required self.needs.items self.place past in
    let within : week < horizon s = omega (arith, c.if-self-weeks.true, c.weeks-weeks.ensures) in
    let now : amounts_required c.list.new.needs.items ++ to_come self.part (week + 1) ≡ needs_in s i (week + 1) ++ required_after s i (week + 1) = λ j. listed j ++ to_come (c.loop-self.invariant.part j) (week + 1) in
    let before : listed_left self ++ to_come self.part week ≡ required_after s i week = λ j. empty j ++ to_come (c.loop-self.invariant.part j) week in
    record {
      left = now ∙ sym (after_next s i week within) ∙ sym before ∙ c.loop-self.invariant.left;
      part = c.loop-self.invariant.part;
    }

pub returns-after-loop-self-clause-filled : goal.returns-after-loop-self-clause-filled
returns-after-loop-self-clause-filled c =
    let self = c.loop-self.self in
    first_of amount_required self.needs.items self.place (to_come self.part self.week) (omega (arith, c.loop-self-test.false, c.len.ensures))
