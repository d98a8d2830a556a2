use Rattle.std.proofs.Common.{◌≡◌, ◌∙◌, Bor, List, ℕ, ap, length, sym}
use Rattle.std.proofs.lemmas.List.{length-map}
use Rattle.std.proofs.lemmas.Result.{on_ok_weaker}
use Rattle.mrp_rows.specs.Shown.{shown_of}
use Rattle.mrp_survey.specs.Tables.{width_of}
use Rattle.mrp_survey.proofs.RowSteps.{entry-is, was-none, was-read}
use Rattle.mrp_survey.proofs.Steps.{told-all, told-further, told-past}
use Rattle.mrp_survey.proofs.table.tell_each.Goals as goal

pub returns-then-not-branch : goal.returns-then-not-branch
returns-then-not-branch c =
    let none = was-none c.loop-number.records c.next.new.self _ _ c.next.new.row c.in_ok-next.field-0 c.if-not-branch.true c.in_ok-next.ensures in
    told-all c.args.form c.args.beside.now c.args.sheet.now c.loop-number.seen c.loop-number.number _ _ c.loop-number.findings.items none c.loop-number.invariant

pub returns-then-is_past : goal.returns-then-is_past
returns-then-is_past c =
    let read = was-read c.loop-number.records c.next.new.self _ _ c.next.new.row c.in_ok-next.field-0 c.if-not-branch.false c.in_ok-next.ensures in
    let width : length c.columns-width.result.now ≡ width_of c.args.form = sym (length-map c.columns-width.result.now (λ (t : Bor (List ℕ)). t.now)) ∙ ap length c.columns-width.ensures in
    let shown = read.kept ∙ ap (λ (most : ℕ). shown_of most read.cells) width in
    let past = rw c.most_records-limit.ensures at (sym c.is_past.ensures ∙ c.if-is_past.true) in
    on_ok_weaker c.tell.result (λ e. e ∙ told-past c.args.form c.args.sheet.now c.loop-number.number read.cells _ _ read.first c.args.beside.now c.loop-number.seen c.place-place.result _ _ c.loop-number.findings.items c.place-place.ensures shown past c.loop-number.invariant) c.tell.ensures

pub loop-number-preserved : goal.loop-number-preserved
loop-number-preserved c =
    let read = was-read c.loop-number.records c.next.new.self _ _ c.next.new.row c.in_ok-next.field-0 c.if-not-branch.false c.in_ok-next.ensures in
    let width : length c.columns-width.result.now ≡ width_of c.args.form = sym (length-map c.columns-width.result.now (λ (t : Bor (List ℕ)). t.now)) ∙ ap length c.columns-width.ensures in
    let within = rw c.most_records-limit.ensures at (sym c.is_past.ensures ∙ c.if-is_past.false) in
    let entry = entry-is c.args.form c.args.sheet.now c.loop-number.number read.cells _ c.next.new.row c.place-place.result c.of-entry.result c.of-entry.ensures c.place-place.ensures read.kept width in
    told-further c.args.form c.args.sheet.now c.loop-number.number read.cells _ _ read.first c.args.beside.now c.loop-number.seen c.add_key.new.seen _ c.of-entry.result _ c.loop-number.findings.items c.tell_record.new.findings.items
    width entry within c.in_ok-tell_record.ensures c.in_ok-add_key.ensures c.loop-number.invariant
