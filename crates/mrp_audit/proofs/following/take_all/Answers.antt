use Rattle.std.proofs.Common.{◌≡◌, ℕ, List, arith, ap, length, subst, sym, take}
use Rattle.std.proofs.lemmas.List.{take_all}
use Rattle.std.specs.Prelude.{slice_index}
use Rattle.mrp_book.specs.Standing.{History}
use Rattle.mrp_book.specs.History.{asked}
use Rattle.mrp_script.specs.Script.{Script}
use Rattle.mrp_audit.specs.NextPlaces.{AreBehind, HaveCome}
use Rattle.mrp_audit.proofs.DeskRecords.{asked-next}
use Rattle.mrp_audit.proofs.NextPlaces.{all-come, behind-all}
use Rattle.mrp_audit.proofs.following.take_all.Goals as goal

pub take_next-requires-clause-behind : goal.take_next-requires-clause-behind
take_next-requires-clause-behind c = subst (AreBehind c.args.script.now) (sym c.as_slice.ensures.value) (behind-all c.args.script.now c.args.next.of_desk.items c.args.next.behind.items c.requires)

pub loop-entry-preserved : goal.loop-entry-preserved
loop-entry-preserved c =
    let script = c.args.script.now in
    let h = c.args.entries.now in
    let k = c.loop-entry.entry-index in
    let e = c.entry-item.result in
    let heads : List ℕ = c.take_next.new.of_desk.items in
    let taken = c.take_next.ensures.taken c.if-not-take_next.false (asked (take k h)) c.loop-entry.invariant.1 in (
      c.take_next.ensures.desks,
      subst (λ (made : Script). HaveCome script made heads) (sym (asked-next h k e c.loop-entry-test.true c.entry-item.is)) taken,
    )

pub returns : goal.returns
returns c is desk within =
    let script = c.args.script.now in
    let h = c.args.entries.now in
    let k = c.loop-entry.entry-index in
    let heads : List ℕ = c.loop-entry.of_desk.items in
    let come : HaveCome script (asked h) heads = subst (λ (x : History). HaveCome script (asked x) heads) (take_all k h (omega (arith, c.loop-entry-test.false))) c.loop-entry.invariant.1 in
    let desks = c.loop-entry.invariant.0 in
    let low = within.1 in
    let value = c.as_slice-2.ensures.value in
    let end = c.have_all.ensures is desk (omega (arith, low, desks, ap (length {A = ℕ}) value)) in
    all-come script (asked h) heads desk come low (subst (λ (x : List ℕ). slice_index x desk ≡ length script) value end)
