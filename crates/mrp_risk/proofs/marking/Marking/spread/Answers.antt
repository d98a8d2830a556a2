use Rattle.std.proofs.Common.{◌≡◌, ◌<◌, ◌∙◌, length, refl, sym, ap, subst, arith}
use Rattle.std.specs.Prelude.{slice_index}
use Rattle.std.proofs.lemmas.List.{get_or_read}
use Rattle.mrp_risk.specs.Marks.{HasPassed, IsMarked}
use Rattle.mrp_risk.proofs.Marked.{grows-next, grows-on, marked-inside, round-next}
use Rattle.mrp_risk.proofs.marking.Marking.spread.Goals as goal

pub mark_needs-requires-clause-order : goal.mark_needs-requires-clause-order
mark_needs-requires-clause-order c =
    let m = c.loop-self.self in
    let below : c.loop-self.self.passed < length c.loop-self.self.queue.items = omega arith in
    let at : c.index-order.result.now ≡ slice_index c.loop-self.self.queue.items c.loop-self.self.passed = get_or_read m.queue.items m.passed c.index-order.result.now below c.index-order.ensures 0 in
    marked-inside m.marks.items c.index-order.result.now (subst (IsMarked m.marks.items) (sym at) (c.loop-self.invariant.round.queue.marked m.passed below))

pub loop-self-preserved : goal.loop-self-preserved
loop-self-preserved c =
    let pegs = c.args.pegs.now in
    let late = c.args.late in
    let old = c.loop-self.self in
    let new = c.mark_needs.new.self in
    let more = c.in_ok-mark_needs.ensures in
    let below : c.loop-self.self.passed < length c.loop-self.self.queue.items = omega arith in
    let at : c.index-order.result.now ≡ slice_index c.loop-self.self.queue.items c.loop-self.self.passed = get_or_read old.queue.items old.passed c.index-order.result.now below c.index-order.ensures 0 in
    let same : c.index-order.result.now ≡ slice_index c.mark_needs.new.self.queue.items c.mark_needs.new.self.passed = at ∙ sym (more.grows.queue old.passed below) ∙ ap (slice_index new.queue.items) (sym more.passed) in
    record {
      round = round-next pegs late new _ refl more.round (omega (arith, below, more.grows.longer, more.passed)) (subst (HasPassed pegs new.marks.items) same more.needs);
      grows = grows-next pegs late c.args.self.now new _ refl (grows-on pegs late c.args.self.now old new c.loop-self.invariant.grows more.grows);
    }
