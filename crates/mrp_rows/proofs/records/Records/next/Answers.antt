use Rattle.std.proofs.Common.{◌≡◌, ◌∙◌, [], ap, refl, sym}
use Rattle.std.proofs.lemmas.Bool.{eqb-false, eqb-true}
use Rattle.std.proofs.lemmas.List.{nil_from_length}
use Rattle.csv.specs.declared.parser.State.TheVariants as st
use Rattle.mrp_rows.specs.Records.{records_in}
use Rattle.mrp_rows.proofs.CellCuts.{skip-line_ends}
use Rattle.mrp_rows.proofs.RecordCuts.{is-shown, record-begins}
use Rattle.mrp_rows.proofs.records.Records.next.Goals as goal

pub returns-then-is_empty : goal.returns-then-is_empty
unfolding records_in
returns-then-is_empty c =
    let none = nil_from_length _ (eqb-true _ _ (sym c.is_empty.ensures ∙ c.if-is_empty.true)) in
    let over : records_in st.StartRecord [] [] c.self.inside.text.now ≡ [] = skip-line_ends c.self.inside.text.now ∙ ap (λ xs. records_in st.StartRecord [] [] xs) (sym c.after_line_ends-text.ensures ∙ none) in
    rw (← c.self.view_is) (record { none = over; left = over; same = refl })

pub returns : goal.returns
returns c =
    let h = record-begins c.self.inside.text.now _ c.args.most _ _ _ _ c.after_line_ends-text.ensures (eqb-false _ _ (sym c.is_empty.ensures ∙ c.if-is_empty.false)) c.in_ok-self-inside.ensures in
    record { cells = h.cells; first = rw (← c.self.view_is) h.records; kept = is-shown c.args.most c.read.new.self h.cells h.kept h.count h.empty }
