use Rattle.std.proofs.Common.{ℕ, arith, ap, length, refl}
use Rattle.std.proofs.lemmas.List.{nil_from_length, length-drop}
use Rattle.mrp_rows.proofs.RecordCuts.{cell-next, inside-next, record-ends, text-ends}
use Rattle.mrp_rows.proofs.cutting.cut_cells.Goals as goal

pub returns-in_default : goal.returns-in_default
returns-in_default c =
    let cut = cell-next c.args.text.now c.args.most _ _ c.loop-behind.count _ c.loop-behind.are_others_empty c.in_ok-behind.behind.is_fit c.loop-behind.rest.now _ c.loop-behind.invariant.inside c.in_ok-behind.ensures.cells c.in_ok-behind.ensures.behind c.in_ok-behind.ensures.fit refl in
    text-ends c.args.text.now c.args.most _ _ _ _ cut (nil_from_length _ c.in_default.ensures.cases)

pub returns-then-byte-ne44 : goal.returns-then-byte-ne44
returns-then-byte-ne44 c =
    let cut = cell-next c.args.text.now c.args.most _ _ c.loop-behind.count _ c.loop-behind.are_others_empty c.in_ok-behind.behind.is_fit c.loop-behind.rest.now _ c.loop-behind.invariant.inside c.in_ok-behind.ensures.cells c.in_ok-behind.ensures.behind c.in_ok-behind.ensures.fit refl in
    record-ends c.args.text.now c.args.most _ _ _ _ _ _ cut c.in-Some.ensures.cases.0 c.if-byte-ne44.true

pub loop-behind-preserved : goal.loop-behind-preserved
loop-behind-preserved c =
    let cut = cell-next c.args.text.now c.args.most _ _ c.loop-behind.count _ c.loop-behind.are_others_empty c.in_ok-behind.behind.is_fit c.loop-behind.rest.now _ c.loop-behind.invariant.inside c.in_ok-behind.ensures.cells c.in_ok-behind.ensures.behind c.in_ok-behind.ensures.fit refl in
    record {
      inside = inside-next c.args.text.now c.args.most _ _ _ _ _ cut (rw c.if-byte-ne44.false at c.in-Some.ensures.cases.0);
      begun = c.in_ok-behind.ensures.begun;
      within = omega (arith, c.in-Some.ensures.cases.1, ap length c.in_ok-behind.ensures.behind, length-drop {A = ℕ});
    }
