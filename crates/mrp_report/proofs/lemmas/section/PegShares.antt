-- Cells that stand ready, and the rows that they are put into.
use Rattle.std.proofs.Common.{◌≡◌, ◌∙◌, ℕ, List, [], ◌∷◌, ◌++◌, Bor, Option, Some, None, IfSome, get_or, length, sym, ap, subst, inl, inr, arith, append_assoc}
use Rattle.std.proofs.lemmas.Bool.{cases_order}
use Rattle.std.proofs.lemmas.List.{append-nil, get_or_append_left, get_or_past, get_or_push, length_push}
use Rattle.csv.specs.Writing.{fields_text}
use Rattle.std.specs.Prelude.{codes, decimal}
use Rattle.mrp_tables.specs.Tables.{Tables}
use Rattle.mrp_item.specs.declared.order.Order.{Order}
use Rattle.mrp_peg.specs.declared.peg.Need.{Need}
use Rattle.mrp_peg.specs.declared.peg.NeedKind.{NeedKind}
use Rattle.mrp_peg.specs.declared.peg.NeedKind.TheVariants as kind
use Rattle.mrp_peg.specs.declared.peg.Peg.{Peg}
use Rattle.mrp_report.specs.declared.section.peg_shares.Shared.{Shared}
use Rattle.mrp_report.specs.declared.section.peg_shares.Shared.TheVariants as shared
use Rattle.mrp_report.specs.page.CsvCells.{cell_text, next_cell}
use Rattle.mrp_report.specs.page.Rows.{row}
use Rattle.mrp_report.specs.section.Cells.{parent_name}
use Rattle.mrp_report.specs.section.PegShares.{AreReady, shared_cells}
use Rattle.mrp_report.specs.section.PegText.{kind_cells, need_cells, peg_text}
use Rattle.mrp_report.specs.section.SourceText.{source_name, source_word}
use Rattle.mrp_report.proofs.lemmas.page.RowCells.{body_whole}

pub ready_none : (t : Tables) (what : Shared) → AreReady t what []
ready_none t what number cells e = absurd (cc)

-- the next cells were added
pub ready_more : (t : Tables) (what : Shared) (all : List (Option (List ℕ))) (n : ℕ) (next : Option (List ℕ)) → length all ≡ n → AreReady t what all → IfSome next (λ cells. cells ≡ shared_cells t what n)
    → AreReady t what (all ++ next ∷ [])
ready_more t what all n next long so_far is number cells found = elim (cases_order number n) [
  | inl here ↦
      let there : next ≡ Some cells = sym (get_or_push all next None n long) ∙ ap (λ (k : ℕ). get_or (all ++ next ∷ []) k None) (sym here) ∙ found in
      subst (λ (o : Option (List ℕ)). IfSome o (λ c. c ≡ shared_cells t what n)) there is ∙ ap (shared_cells t what) (sym here)
  | inr (inl before) ↦ so_far number cells (sym (get_or_append_left all (next ∷ []) None number (omega arith)) ∙ found)
  | inr (inr behind) ↦
      let none : get_or (all ++ next ∷ []) number None ≡ None = get_or_past (all ++ next ∷ []) number None (omega (arith, length_push all next)) in
      absurd (cc)
]

-- what was found are the cells with its number
pub ready_told : (t : Tables) (what : Shared) (all there : List (Option (List ℕ))) (at number : ℕ) (o : Option (Bor (List ℕ))) → AreReady t what all → there ≡ all → at ≡ number → IfSome o (λ c. get_or there at None ≡ Some c.now)
    → IfSome o (λ c. c.now ≡ shared_cells t what number)
ready_told t what all there at number None ready same on told = tt
ready_told t what all there at number (Some c) ready same on told =
    ready at c.now (ap (λ (l : List (Option (List ℕ))). get_or l at None) (sym same) ∙ told) ∙ ap (shared_cells t what) on

-- cells of which some were put in pairs
in_pairs : (a b c d e f g h i : List ℕ) → ((((a ++ (b ++ c)) ++ d) ++ (e ++ f)) ++ (g ++ h)) ++ i ≡ a ++ (b ++ (c ++ (d ++ (e ++ (f ++ (g ++ (h ++ i)))))))
in_pairs a b c d e f g h i =
    append_assoc (((a ++ (b ++ c)) ++ d) ++ (e ++ f)) (g ++ h) i
    ∙ append_assoc ((a ++ (b ++ c)) ++ d) (e ++ f) ((g ++ h) ++ i)
    ∙ append_assoc (a ++ (b ++ c)) d ((e ++ f) ++ ((g ++ h) ++ i))
    ∙ append_assoc a (b ++ c) (d ++ ((e ++ f) ++ ((g ++ h) ++ i)))
    ∙ ap (λ (l : List ℕ). a ++ l) (append_assoc b c (d ++ ((e ++ f) ++ ((g ++ h) ++ i))))
    ∙ ap (λ (l : List ℕ). a ++ (b ++ (c ++ (d ++ l)))) (append_assoc e f ((g ++ h) ++ i) ∙ ap (λ (l : List ℕ). e ++ (f ++ l)) (append_assoc g h i))

-- the same, where each but the first begins with a comma
with_commas : (m : ℕ) (a b c d e f g h i : List ℕ)
    → ((((a ++ ((m ∷ b) ++ (m ∷ c))) ++ (m ∷ d)) ++ ((m ∷ e) ++ (m ∷ f))) ++ ((m ∷ g) ++ (m ∷ h))) ++ (m ∷ i)
    ≡ a ++ (m ∷ (b ++ (m ∷ (c ++ (m ∷ (d ++ (m ∷ (e ++ (m ∷ (f ++ (m ∷ (g ++ (m ∷ (h ++ (m ∷ (i ++ []))))))))))))))))
with_commas m a b c d e f g h i =
    in_pairs a (m ∷ b) (m ∷ c) (m ∷ d) (m ∷ e) (m ∷ f) (m ∷ g) (m ∷ h) (m ∷ i)
    ∙ ap (λ (l : List ℕ). a ++ (m ∷ (b ++ (m ∷ (c ++ (m ∷ (d ++ (m ∷ (e ++ (m ∷ (f ++ (m ∷ (g ++ (m ∷ (h ++ (m ∷ l)))))))))))))))) (sym (append-nil i))

-- a row from cells that stand ready
pub row_of_shares : (name week word order parent line supply source quantity : List ℕ)
    → cell_text name ++ (next_cell week ++ next_cell word) ++ next_cell order ++ (next_cell parent ++ next_cell line) ++ (next_cell supply ++ next_cell source) ++ next_cell quantity ++ 10 ∷ []
    ≡ row (name ∷ week ∷ word ∷ order ∷ parent ∷ line ∷ supply ∷ source ∷ quantity ∷ [])
unfolding fields_text
row_of_shares name week word order parent line supply source quantity =
    ap (λ (l : List ℕ). l ++ 10 ∷ [])
    (with_commas 44 (cell_text name) (cell_text week) (cell_text word) (cell_text order) (cell_text parent) (cell_text line) (cell_text supply) (cell_text source) (cell_text quantity))
    ∙ body_whole (name ∷ week ∷ word ∷ order ∷ parent ∷ line ∷ supply ∷ source ∷ quantity ∷ []) (omega arith)

-- a peg that serves a parent's order, from cells that stand ready
pub line_of_shares : (t : Tables) (name : List ℕ) (orders : List Order) (peg : Peg) (need : Need) (line order quantity : ℕ) (week_is line_is source_is : List ℕ)
    → peg.need ≡ Some need → need.kind ≡ kind.Parent line order
    → week_is ≡ shared_cells t shared.Week need.week → line_is ≡ shared_cells t shared.Line line → source_is ≡ next_cell (source_word orders peg.supply) ++ next_cell (source_name t peg.supply) → quantity ≡ peg.quantity
    → cell_text name ++ week_is ++ next_cell (decimal order) ++ line_is ++ source_is ++ next_cell (decimal quantity) ++ 10 ∷ [] ≡ peg_text t name orders peg
line_of_shares t name orders peg need line order quantity week_is line_is source_is needed served week at source pieces =
    let behind : List (List ℕ) = source_word orders peg.supply ∷ source_name t peg.supply ∷ decimal peg.quantity ∷ [] in
    ap (λ (l : List ℕ). cell_text name ++ l ++ next_cell (decimal order) ++ line_is ++ source_is ++ next_cell (decimal quantity) ++ 10 ∷ []) week
    ∙ ap (λ (l : List ℕ). cell_text name ++ shared_cells t shared.Week need.week ++ next_cell (decimal order) ++ l ++ source_is ++ next_cell (decimal quantity) ++ 10 ∷ []) at
    ∙ ap (λ (l : List ℕ). cell_text name ++ shared_cells t shared.Week need.week ++ next_cell (decimal order) ++ shared_cells t shared.Line line ++ l ++ next_cell (decimal quantity) ++ 10 ∷ []) source
    ∙ ap (λ (n : ℕ). cell_text name ++ shared_cells t shared.Week need.week ++ next_cell (decimal order) ++ shared_cells t shared.Line line ++ (next_cell (source_word orders peg.supply) ++ next_cell (source_name t peg.supply)) ++ next_cell (decimal n) ++ 10 ∷ []) pieces
    ∙ row_of_shares name (decimal need.week) (codes "parent") (decimal order) (parent_name t line) (decimal line) (source_word orders peg.supply) (source_name t peg.supply) (decimal peg.quantity)
    ∙ sym (ap (λ (o : Option Need). row (name ∷ (need_cells t o ++ behind))) needed ∙ ap (λ (k : NeedKind). row (name ∷ ((decimal need.week ∷ kind_cells t k) ++ behind))) served)
