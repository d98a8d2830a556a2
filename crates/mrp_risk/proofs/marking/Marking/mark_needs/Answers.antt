use Rattle.std.proofs.Common.{◌≡◌, ◌∙◌, ℕ, length, sym, subst}
use Rattle.std.specs.Prelude.{None, Some}
use Rattle.mrp_risk.specs.declared.peg.Need.TheVariants.{Other}
use Rattle.mrp_risk.specs.Chains.{IsWithin, peg_at}
use Rattle.mrp_risk.specs.PegLists.{IsLastSupplied}
use Rattle.mrp_risk.proofs.Marked.{grows-on, leads-up, marked-on, marks-need}
use Rattle.mrp_risk.proofs.PegListed.{AreMarkedAfter, after-all, after-more}
use Rattle.mrp_risk.proofs.marking.Marking.mark_needs.Goals as goal

pub loop-next-preserved : goal.loop-next-preserved
loop-next-preserved c =
    let pegs = c.args.pegs.now in
    let place = c.in-Some.place in
    let late = c.args.late in
    let old = c.loop-next.self in
    let new = c.mark_need.new.self in
    let before = c.loop-next.invariant in
    let here : AreMarkedAfter c.args.pegs.now c.loop-next.self.marks.items c.args.order (Some c.in-Some.place) = subst (AreMarkedAfter c.args.pegs.now c.loop-next.self.marks.items c.args.order) c.in-Some.is before.after in
    let within : IsWithin (length c.loop-next.self.marks.items) (peg_at c.args.pegs.now c.in-Some.place).need =
    subst (λ (n : ℕ). IsWithin n (peg_at c.args.pegs.now c.in-Some.place).need) (sym before.grows.size) (c.requires.pegs place (record { need = Other; supply = None; pieces = 0 }) here.0).0 in
    let more = marks-need pegs (peg_at pegs place).need late old new c.in_ok-mark_need.ensures within (λ parent is. leads-up pegs parent c.args.order late (place, here.0, is, here.1) c.requires.leads) before.round in
    record {
      round = more.round;
      grows = grows-on pegs late c.args.self.now old new before.grows more.grows;
      passed = more.passed ∙ before.passed;
      after = after-more pegs old.marks.items new.marks.items c.args.order place c.previous-next.result here (marked-on pegs late old new more.grows) more.marked
          (subst (IsLastSupplied pegs c.args.order place) (sym c.previous-next.ensures) (c.requires.lists.of_pegs place c.args.order here.0 here.1));
    }

pub returns-clause-needs : goal.returns-clause-needs
returns-clause-needs c =
    let none : c.loop-next.next ≡ None = c.in_default.is in
    after-all c.args.pegs.now c.loop-next.self.marks.items c.args.order (subst (AreMarkedAfter c.args.pegs.now c.loop-next.self.marks.items c.args.order) none c.loop-next.invariant.after)
