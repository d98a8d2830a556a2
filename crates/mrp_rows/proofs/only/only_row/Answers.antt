use Rattle.std.proofs.Common.{◌≡◌, ◌∙◌, ap, length, sym}
use Rattle.std.proofs.lemmas.List.{length-map}
use Rattle.mrp_rows.specs.Columns.{columns_of}
use Rattle.mrp_rows.specs.Only.{only_of}
use Rattle.mrp_rows.proofs.FirstRecords.{records-front}
use Rattle.mrp_rows.proofs.OnlyRows.{only-among, only-alone, only-other}
use Rattle.mrp_rows.proofs.only.only_row.Goals as goal
use Rattle.mrp_rows.proofs.only.only_row.Goals.{then-cut-width-via-then-cut-width, then-cut-width-via-else-cut-width+in_ok-has_record+then-branch}

pub returns-in-Ok-None : goal.returns-in-Ok-None
returns-in-Ok-None c =
    let none = rw c.in-Ok-None.field-0-is at c.in-Ok-None.ensures in
    sym (ap (only_of c.args.table c.args.number) (records-front c.args.text.now c.after_mark.result.now c.after_mark.ensures ∙ none))

pub returns-then-cut-width : goal.returns-then-cut-width
returns-then-cut-width c =
    let h = rw c.in-Ok-Some.field-0-is at c.in-Ok-Some.ensures in
    let read = ap (only_of c.args.table c.args.number) (records-front c.args.text.now c.after_mark.result.now c.after_mark.ensures ∙ h.records) in
    let width : length c.columns-width.result.now ≡ length (columns_of c.args.table) = sym (length-map c.columns-width.result.now (λ name. name.now)) ∙ ap length c.columns-width.ensures in
    elim c.then-cut-width.branch [
      | then-cut-width-via-then-cut-width w ↦ sym (read ∙ only-other c.args.table c.args.number h.cells _ (λ e. w.if-cut-width.true (h.count ∙ e ∙ sym width)))
      | then-cut-width-via-else-cut-width+in_ok-has_record+then-branch w ↦ sym (read ∙ only-among c.args.table c.args.number h.cells _ (sym w.in_ok-has_record.ensures ∙ w.if-branch.true))
    ]

pub returns : goal.returns
returns c =
    let h = rw c.in-Ok-Some.field-0-is at c.in-Ok-Some.ensures in
    let read = ap (only_of c.args.table c.args.number) (records-front c.args.text.now c.after_mark.result.now c.after_mark.ensures ∙ h.records) in
    let width : length c.columns-width.result.now ≡ length (columns_of c.args.table) = sym (length-map c.columns-width.result.now (λ name. name.now)) ∙ ap length c.columns-width.ensures in
    sym (read ∙ only-alone c.args.table c.args.number h.cells _ _ _ _ h.kept (sym h.count ∙ c.if-cut-width.false) width (sym c.in_ok-has_record.ensures ∙ c.if-branch.false) c.new.ensures)
