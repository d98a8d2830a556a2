use Rattle.std.proofs.Common.{◌++◌, List, ℕ, refl, sym, ap, rules}
use Rattle.mrp_item.specs.Plan.{outcome_of, plan_in}
use Rattle.mrp_report.specs.section.PegRows.{IsAdded, rows_left}
use Rattle.mrp_report.specs.ReportText.{pegged_text}
use Rattle.mrp_report.proofs.lemmas.section.PegsWritten.{to-added, to-passed}
use Rattle.mrp_report.proofs.Progress.{ends-at_once, ends-failed, ends-refused, written-none}
use Rattle.mrp_report.proofs.wave.in_turn.write_pegged.Goals as goal

pub returns-in_err-rows : goal.returns-in_err-rows
returns-in_err-rows g c =
    let s = c.args.readings.now.plan.now.inputs in
    ends-at_once g.W.Write.contents c.args.writer.now c.args.tries.now (c.args.page.now ++ pegged_text s c.args.item (plan_in (outcome_of s c.args.item))) c.from_residual.result (search rules)

pub returns-in_err-add_next : goal.returns-in_err-add_next
returns-in_err-add_next g c =
    let s = c.args.readings.now.plan.now.inputs in
    let l = c.loop-rows in
    ends-refused g.W.Write.contents c.args.writer.now l.writer c.args.tries.now l.tries l.page l.invariant.text (rows_left l.rows) (c.args.page.now ++ pegged_text s c.args.item (plan_in (outcome_of s c.args.item)))
    c.from_residual-in_err-add_next.result l.invariant.written l.invariant.rest (search rules)

pub loop-rows-init : goal.loop-rows-init
loop-rows-init g c = record {
  text = c.args.page.now;
  written = written-none g.W.Write.contents c.args.writer.now c.args.tries.now c.args.tries.now c.args.page.now c.args.page.now refl refl;
  rest = ap (λ (t : List ℕ). c.args.page.now ++ t) (sym c.in_ok-rows.ensures);
}

pub loop-rows-preserved : goal.loop-rows-preserved
loop-rows-preserved g c =
    let s = c.args.readings.now.plan.now.inputs in
    let l = c.loop-rows in
    let left : List ℕ = rows_left c.add_next.new.self in
    let whole : List ℕ = c.args.page.now ++ pegged_text s c.args.item (plan_in (outcome_of s c.args.item)) in
    let added : IsAdded l.page c.add_next.new.page (rows_left l.rows) left = c.in_ok-add_next.ensures.added (search rules) in
    to-passed g.W.Write.contents c.args.writer.now c.args.tries.now l.writer c.pass_on.new.writer l.tries c.pass_on.new.tries c.add_next.new.page c.pass_on.new.self left whole
    (to-added g.W.Write.contents c.args.writer.now c.args.tries.now l.writer l.tries l.page c.add_next.new.page (rows_left l.rows) left whole l.invariant added)
    c.in_ok-pass_on.ensures.tries c.in_ok-pass_on.ensures.whole

pub returns-in_err-pass_on : goal.returns-in_err-pass_on
returns-in_err-pass_on g c =
    let s = c.args.readings.now.plan.now.inputs in
    let l = c.loop-rows in
    let left : List ℕ = rows_left c.add_next.new.self in
    let whole : List ℕ = c.args.page.now ++ pegged_text s c.args.item (plan_in (outcome_of s c.args.item)) in
    let added : IsAdded l.page c.add_next.new.page (rows_left l.rows) left = c.in_ok-add_next.ensures.added (search rules) in
    let w = to-added g.W.Write.contents c.args.writer.now c.args.tries.now l.writer l.tries l.page c.add_next.new.page (rows_left l.rows) left whole l.invariant added in
    ends-failed g.W.Write.contents c.args.writer.now l.writer c.pass_on.new.writer c.args.tries.now l.tries c.pass_on.new.tries c.add_next.new.page w.text left whole _ c.from_residual-in_err-pass_on.result
    w.written w.rest c.in_err-pass_on.ensures (search rules)
