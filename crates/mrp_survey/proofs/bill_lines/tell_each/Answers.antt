use Rattle.std.proofs.Common.{◌≡◌, ◌∙◌, ◌+◌, ◌-◌, ◌++◌, [], Bor, List, ℕ, suc, ap, append-nil, arith, drop, length, refl, sym}
use Rattle.std.proofs.lemmas.List.{length-map}
use Rattle.mrp_rows.specs.Shown.{shown_of}
use Rattle.mrp_survey.specs.declared.bill_lines.BillLine.{BillLine}
use Rattle.mrp_survey.specs.BillParts.{lines_left}
use Rattle.mrp_survey.specs.Headers.{limit_of}
use Rattle.mrp_survey.specs.Tables.{width_of}
use Rattle.mrp_survey.proofs.BillSteps.{drop-next, left-next, left-none, left-past, lines-all, lines-further, no-key}
use Rattle.mrp_survey.proofs.RowSteps.{entry-is, was-none, was-read}
use Rattle.mrp_survey.proofs.Steps.{told-all, told-further, told-past}
use Rattle.mrp_survey.proofs.bill_lines.tell_each.Goals as goal

pub loop-number-init : goal.loop-number-init
loop-number-init c =
    let none : 0 ≡ c.args.first - c.args.first = omega arith in
    record {
      told = refl;
      lines = ap (λ (ls : List BillLine). ls ++ lines_left c.args.form c.args.beside.now.items c.args.sheet.now c.args.first c.args.records.now) (sym c.requires.lines);
      left = ap (λ (n : ℕ). drop n c.args.records.now) none;
    }

pub returns-then-not-branch : goal.returns-then-not-branch
returns-then-not-branch c =
    let none = was-none c.loop-number.records c.next.new.self _ _ c.next.new.row c.in_ok-next.field-0 c.if-not-branch.true c.in_ok-next.ensures in
    record {
      told = sym (told-all c.args.form c.args.beside.now c.args.sheet.now [] c.loop-number.number _ _ c.loop-number.findings.items none c.loop-number.invariant.told) ∙ sym (append-nil c.loop-number.findings.items);
      lines = sym (lines-all c.args.form c.args.sheet.now c.args.beside.now.items c.loop-number.number _ _ c.loop-number.lines.items (left-none (limit_of c.args.form) c.loop-number.number _ none) c.loop-number.invariant.lines) ∙ sym (append-nil c.loop-number.lines.items);
      left = λ e. absurd cc;
    }

pub returns-then-is_past : goal.returns-then-is_past
returns-then-is_past c =
    let read = was-read c.loop-number.records c.next.new.self _ _ c.next.new.row c.in_ok-next.field-0 c.if-not-branch.false c.in_ok-next.ensures in
    let width : length c.columns-width.result.now ≡ width_of c.args.form = sym (length-map c.columns-width.result.now (λ (t : Bor (List ℕ)). t.now)) ∙ ap length c.columns-width.ensures in
    let shown = read.kept ∙ ap (λ (most : ℕ). shown_of most read.cells) width in
    let past = rw c.most_records-limit.ensures at (sym c.is_past.ensures ∙ c.if-is_past.true) in
    record {
      told = sym (c.in_ok-tell.ensures ∙ told-past c.args.form c.args.sheet.now c.loop-number.number read.cells _ _ read.first c.args.beside.now [] c.place-place.result _ _ c.loop-number.findings.items c.place-place.ensures shown past c.loop-number.invariant.told) ∙ sym (append-nil c.tell.new.findings.items);
      lines = sym (lines-all c.args.form c.args.sheet.now c.args.beside.now.items c.loop-number.number _ _ c.loop-number.lines.items (left-past (limit_of c.args.form) c.loop-number.number _ past) c.loop-number.invariant.lines) ∙ sym (append-nil c.loop-number.lines.items);
      left = λ e. absurd cc;
    }

pub loop-number-preserved : goal.loop-number-preserved
loop-number-preserved c =
    let read = was-read c.loop-number.records c.next.new.self _ _ c.next.new.row c.in_ok-next.field-0 c.if-not-branch.false c.in_ok-next.ensures in
    let width : length c.columns-width.result.now ≡ width_of c.args.form = sym (length-map c.columns-width.result.now (λ (t : Bor (List ℕ)). t.now)) ∙ ap length c.columns-width.ensures in
    let within = rw c.most_records-limit.ensures at (sym c.is_past.ensures ∙ c.if-is_past.false) in
    let entry = entry-is c.args.form c.args.sheet.now c.loop-number.number read.cells _ c.next.new.row c.place-place.result c.of-entry.result c.of-entry.ensures c.place-place.ensures read.kept width in
    let grown = rw c.requires.seen at c.in_ok-tell_record.ensures in
    let next : c.loop-number.number + 1 - c.args.first ≡ suc (c.loop-number.number - c.args.first) = omega (arith, c.loop-number.auto.number) in
    record {
      told = told-further c.args.form c.args.sheet.now c.loop-number.number read.cells _ _ read.first c.args.beside.now [] [] _ c.of-entry.result _ c.loop-number.findings.items c.tell_record.new.findings.items
          width entry within grown (no-key c.args.form c.args.sheet.now c.loop-number.number read.cells _ c.of-entry.result entry c.requires.keyless) c.loop-number.invariant.told;
      lines = lines-further c.args.form c.args.sheet.now c.args.beside.now.items c.loop-number.number read.cells _ _ _ _ c.of-entry.result _ c.loop-number.lines.items c.add_line.new.lines.items
          (left-next (limit_of c.args.form) c.loop-number.number read.cells _ _ read.first within) width entry refl c.in_ok-add_line.ensures c.loop-number.invariant.lines;
      left = sym (ap (λ (n : ℕ). drop n c.args.records.now) next ∙ drop-next (c.loop-number.number - c.args.first) c.args.records.now read.cells _ (sym c.loop-number.invariant.left ∙ read.first));
    }

pub returns : goal.returns
returns c =
    let end : c.loop-number.number ≡ c.args.past = omega (arith, c.loop-number-test.false, c.loop-number.auto.number-end c.requires.ahead) in
    record {
      told = rw end at c.loop-number.invariant.told;
      lines = rw end at c.loop-number.invariant.lines;
      left = λ e. rw end at c.loop-number.invariant.left;
    }
