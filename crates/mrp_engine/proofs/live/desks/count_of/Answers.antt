use Rattle.std.proofs.Common.{◌≡◌, ◌≤◌, ◌⊎◌, ◌∙◌, List, arith, get_or, inl, inr, subst, sym, take}
use Rattle.std.specs.Prelude.{All, Any}
use Rattle.std.proofs.lemmas.Bool.{cases_lt}
use Rattle.std.proofs.lemmas.List.{take_all}
use Rattle.std.proofs.lemmas.List.Elements.{All-more, All-weaker}
use Rattle.mrp_tables.specs.declared.limits.TheConstants.{MOST_DESKS}
use Rattle.mrp_tables.specs.declared.rows.ScriptRow.{ScriptRow}
use Rattle.mrp_engine.proofs.live.desks.count_of.Goals as goal

pub loop-row-preserved : goal.loop-row-preserved
loop-row-preserved c =
    let rows = c.args.script.now in
    let k = c.loop-row.row-index in
    let row = c.row-item.result in
    let m = c.max-count.result in
    let is = c.max-count.ensures in
    let kept = c.loop-row.invariant in
    let one = kept.some in
    let most = kept.most in
    let desk : row.desk ≤ MOST_DESKS = subst (λ (r : ScriptRow). r.desk ≤ MOST_DESKS) (sym c.row-item.is) (c.requires k row c.loop-row-test.true) in
    let here : (get_or rows k row).desk ≤ m = subst (λ (r : ScriptRow). r.desk ≤ m) c.row-item.is (omega (arith, is)) in
    let before = All-weaker (λ (r : ScriptRow). r.desk ≤ c.loop-row.count) (λ (r : ScriptRow). r.desk ≤ m) (λ r le. omega (arith, is, le)) (take k rows) kept.all in
    let least : (m ≡ 1) ⊎ Any (λ (r : ScriptRow). r.desk ≡ m) rows = elim (cases_lt c.loop-row.count row.desk) [
      | inl more ↦ inr (k, row, c.loop-row-test.true, sym c.row-item.is, omega (arith, is, more))
      | inr no-more ↦
          let same : c.loop-row.count ≡ m = omega (arith, is, no-more) in
          elim kept.least [ inl first ↦ inl (sym same ∙ first) | inr (j, x, within, at, own) ↦ inr (j, x, within, at, own ∙ same) ]
    ] in
    record {
      some = omega (arith, is, one);
      most = omega (arith, is, most, desk);
      all = All-more (λ (r : ScriptRow). r.desk ≤ m) rows k row c.loop-row-test.true before here;
      least = least;
    }

pub returns-clause-count : goal.returns-clause-count
returns-clause-count c = record {
  some = c.loop-row.invariant.some;
  all = subst (λ (rows : List ScriptRow). All (λ row. row.desk ≤ c.loop-row.count) rows) (take_all c.loop-row.row-index c.args.script.now c.loop-row-test.false) c.loop-row.invariant.all;
  least = c.loop-row.invariant.least;
}
