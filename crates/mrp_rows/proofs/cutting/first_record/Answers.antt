use Rattle.std.proofs.Common.{◌∙◌, ap, sym, []}
use Rattle.std.proofs.lemmas.Bool.{eqb-false, eqb-true}
use Rattle.std.proofs.lemmas.List.{nil_from_length}
use Rattle.csv.specs.declared.parser.State.TheVariants as st
use Rattle.mrp_rows.specs.Records.{records_in}
use Rattle.mrp_rows.proofs.CellCuts.{skip-line_ends}
use Rattle.mrp_rows.proofs.RecordCuts.{record-begins}
use Rattle.mrp_rows.proofs.cutting.first_record.Goals as goal

pub returns-then-is_empty : goal.returns-then-is_empty
unfolding records_in
returns-then-is_empty c =
    let none = nil_from_length _ (eqb-true _ _ (sym c.is_empty.ensures ∙ c.if-is_empty.true)) in
    skip-line_ends c.args.text.now ∙ ap (λ xs. records_in st.StartRecord [] [] xs) (sym c.after_line_ends-text.ensures ∙ none)

pub returns : goal.returns
returns c = record-begins c.args.text.now _ c.args.most _ _ _ _ c.after_line_ends-text.ensures (eqb-false _ _ (sym c.is_empty.ensures ∙ c.if-is_empty.false)) c.in_ok-end.ensures
