use Rattle.std.proofs.Common.{◌≡◌, ◌∙◌, ◌++◌, Bor, List, ℕ, ap, arith, length, sym}
use Rattle.std.proofs.lemmas.List.{length-map}
use Rattle.mrp_rows.specs.Shown.{shown_of}
use Rattle.mrp_survey.specs.Tables.{width_of}
use Rattle.mrp_survey.proofs.RowSteps.{entry-is, was-none, was-read}
use Rattle.mrp_survey.proofs.Steps.{names-further, told-all, told-further, told-past}
use Rattle.mrp_survey.specs.Forms.{AllCells}
use Rattle.mrp_survey.specs.Headers.{limit_of}
use Rattle.mrp_survey.specs.Keys.{Keys}
use Rattle.mrp_survey.specs.Names.{Names}
use Rattle.mrp_survey.specs.Tables.{names_from, told_from}
use Rattle.mrp_survey.proofs.NameSteps.{all-named, first-within, past-named, still-within}
use Rattle.mrp_survey.proofs.table.tell_each_named.Goals as goal

pub loop-number-init : goal.loop-number-init
loop-number-init c = record {
  told = ap (λ (seen : Keys). c.args.findings.now.items ++ told_from c.args.form c.args.beside.now c.args.sheet.now seen 1 c.args.records.now) (sym c.requires.seen);
  names = ap (λ (names : Names). names_from c.args.form c.args.sheet.now names 1 c.args.records.now) (sym c.requires.names);
  count = omega arith;
  within = first-within (limit_of c.args.form);
}

pub returns-then-not-branch-clause-told : goal.returns-then-not-branch-clause-told
returns-then-not-branch-clause-told c =
    let none = was-none c.loop-number.records c.next.new.self _ _ c.next.new.row c.in_ok-next.field-0 c.if-not-branch.true c.in_ok-next.ensures in
    told-all c.args.form c.args.beside.now c.args.sheet.now c.loop-number.seen c.loop-number.number _ _ c.loop-number.findings.items none c.loop-number.invariant.told

pub returns-then-not-branch-clause-names : goal.returns-then-not-branch-clause-names
returns-then-not-branch-clause-names c =
    let none = was-none c.loop-number.records c.next.new.self _ _ c.next.new.row c.in_ok-next.field-0 c.if-not-branch.true c.in_ok-next.ensures in
    all-named c.args.form c.args.sheet.now c.loop-number.names c.loop-number.number c.args.records.now _ none c.loop-number.invariant.names c.loop-number.invariant.count c.loop-number.invariant.within

pub returns-then-is_past-clause-told : goal.returns-then-is_past-clause-told
returns-then-is_past-clause-told c =
    let read = was-read c.loop-number.records c.next.new.self _ _ c.next.new.row c.in_ok-next.field-0 c.if-not-branch.false c.in_ok-next.ensures in
    let width : length c.columns-width.result.now ≡ width_of c.args.form = sym (length-map c.columns-width.result.now (λ (t : Bor (List ℕ)). t.now)) ∙ ap length c.columns-width.ensures in
    let shown = read.kept ∙ ap (λ (most : ℕ). shown_of most read.cells) width in
    let past = rw c.most_records-limit.ensures at (sym c.is_past.ensures ∙ c.if-is_past.true) in
    c.in_ok-tell.ensures ∙ told-past c.args.form c.args.sheet.now c.loop-number.number read.cells _ _ read.first c.args.beside.now c.loop-number.seen c.place-place.result _ _ c.loop-number.findings.items c.place-place.ensures shown past c.loop-number.invariant.told

pub returns-then-is_past-clause-names : goal.returns-then-is_past-clause-names
returns-then-is_past-clause-names c =
    let read = was-read c.loop-number.records c.next.new.self _ _ c.next.new.row c.in_ok-next.field-0 c.if-not-branch.false c.in_ok-next.ensures in
    let past = rw c.most_records-limit.ensures at (sym c.is_past.ensures ∙ c.if-is_past.true) in
    past-named c.args.form c.args.sheet.now c.loop-number.number c.args.records.now read.cells _ _ read.first c.loop-number.invariant.count past

pub loop-number-preserved : goal.loop-number-preserved
loop-number-preserved c =
    let read = was-read c.loop-number.records c.next.new.self _ _ c.next.new.row c.in_ok-next.field-0 c.if-not-branch.false c.in_ok-next.ensures in
    let width : length c.columns-width.result.now ≡ width_of c.args.form = sym (length-map c.columns-width.result.now (λ (t : Bor (List ℕ)). t.now)) ∙ ap length c.columns-width.ensures in
    let within = rw c.most_records-limit.ensures at (sym c.is_past.ensures ∙ c.if-is_past.false) in
    let entry = entry-is c.args.form c.args.sheet.now c.loop-number.number read.cells _ c.next.new.row c.place-place.result c.of-entry.result c.of-entry.ensures c.place-place.ensures read.kept width in
    let long = ap (λ (rows : List AllCells). length rows) read.first in
    record {
      told = told-further c.args.form c.args.sheet.now c.loop-number.number read.cells _ _ read.first c.args.beside.now c.loop-number.seen c.add_key.new.seen _ c.of-entry.result _ c.loop-number.findings.items c.tell_record.new.findings.items
          width entry within c.in_ok-tell_record.ensures c.in_ok-add_key.ensures c.loop-number.invariant.told;
      names = names-further c.args.form c.args.sheet.now c.loop-number.number read.cells _ _ read.first c.loop-number.names c.add_name.new.names _ c.of-entry.result _ width entry c.in_ok-add_name.ensures c.loop-number.invariant.names;
      count = omega (arith, c.loop-number.invariant.count, long);
      within = still-within (limit_of c.args.form) c.loop-number.number within;
    }
