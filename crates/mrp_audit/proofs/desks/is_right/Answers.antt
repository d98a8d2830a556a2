use Rattle.std.proofs.Common.{◌∙◌, ◌<◌, ℕ, ap, arith, sym, length}
use Rattle.std.proofs.lemmas.Bool.{eq-eqb, ne_eqb}
use Rattle.mrp_book.specs.declared.call.Call.{Call}
use Rattle.mrp_audit.proofs.DeskRecords.{all-recorded, passed-over, recorded, same-call, unrecorded}
use Rattle.mrp_claims.proofs.ReplyWords.{not-word}
use Rattle.mrp_audit.proofs.desks.is_right.Goals as goal
use Rattle.mrp_audit.proofs.desks.is_right.Goals.{then-place-script-via-then-place-script, then-place-script-via-else-place-script+then-not-is_same_call}
use Rattle.mrp_audit.proofs.desks.is_right.Goals.{then-entry-desk+else-place-script+else-not-is_same_call, else-entry-desk}

pub returns-then-place-script : goal.returns-then-place-script
returns-then-place-script c =
    let h = c.args.entries.now in
    let script = c.args.script.now in
    let k = c.loop-entry.entry-index in
    let at = c.loop-entry.at in
    let p = c.next_place-place.result in
    let e = c.entry-item.result in
    let own = eq-eqb e.who c.args.desk c.if-entry-desk.true in (
      λ is. absurd cc,
      λ same. elim c.then-place-script.branch [
        | then-place-script-via-then-place-script w ↦
            absurd (unrecorded h script c.args.desk k at p e c.loop-entry-test.true c.entry-item.is own c.loop-entry.invariant.1 c.next_place-place.ensures w.if-place-script.true same)
        | then-place-script-via-else-place-script+then-not-is_same_call w ↦
            let r = w.index-script-place.result in
            let next = c.next_place-place.ensures in
            let there : p < length script = omega (arith, w.if-place-script.false, next.within) in
            let called = same-call h script c.args.desk k at p e r c.loop-entry-test.true c.entry-item.is own c.loop-entry.invariant.1 next there w.index-script-place.is same in
            absurd (not-word w.is_same_call.result w.is_same_call.ensures.1 w.if-not-is_same_call.true (ap (λ (x : ℕ × Call). x.1) (sym w.index-script-place.is) ∙ called))
      ],
    )

pub loop-entry-preserved : goal.loop-entry-preserved
loop-entry-preserved c =
    let h = c.args.entries.now in
    let script = c.args.script.now in
    let k = c.loop-entry.entry-index in
    let at = c.loop-entry.at in
    let e = c.entry-item.result in
    elim c.if-entry-desk.branch [
      | then-entry-desk+else-place-script+else-not-is_same_call w ↦
          let p = w.next_place-place.result in
          let r = w.index-script-place.result in
          let next = w.next_place-place.ensures in
          let there : p < length script = omega (arith, w.if-place-script.false, next.within) in
          let same = ap (λ (x : ℕ × Call). x.1) w.index-script-place.is ∙ w.is_same_call.ensures.0 w.if-not-is_same_call.false in
          rw w.at-is (recorded h script c.args.desk k at p e r c.loop-entry-test.true c.entry-item.is (eq-eqb e.who c.args.desk w.if-entry-desk.true) c.loop-entry.invariant.1 next there w.index-script-place.is same)
      | else-entry-desk w ↦
          let before = c.loop-entry.invariant in
          rw w.at-is (before.0, passed-over h script c.args.desk k at e c.loop-entry-test.true c.entry-item.is (ne_eqb e.who c.args.desk w.if-entry-desk.false) before.1)
    ]

pub returns : goal.returns
returns c =
    all-recorded c.args.entries.now c.args.script.now c.args.desk c.loop-entry.entry-index c.loop-entry.at c.next_place.result (omega (arith, c.loop-entry-test.false)) c.loop-entry.invariant.1 c.next_place.ensures
