-- A row shows its cells; what a page begins and ends with.
use Rattle.mrp_facts.specs.Facts.{Facts}
use Rattle.std.proofs.Common.{Bool, true, false, Option, None, ◌≡◌, ◌∙◌, ◌⊎◌, ◌<◌, ◌≤◌, ℕ, List, [], ◌∷◌, ◌++◌, codes, drop, length, refl, sym, ap, append_assoc, inl, inr}
use Rattle.std.proofs.lemmas.Bool.{cases_lt}
use Rattle.std.proofs.lemmas.List.{append-nil, get_or_past}
use Rattle.std.proofs.lemmas.List.Concat.{flat_map-append}
use Rattle.std.proofs.lemmas.List.Elements.{All-append, All-cons, All-nil, Contains-get_or}
use Rattle.std.specs.List.{All, Contains, flat_map}
use Rattle.mrp_page.specs.Centres.{load_section}
use Rattle.mrp_page.specs.Draw.{history_html}
use Rattle.mrp_page.specs.ItemRows.{item_lists}
use Rattle.mrp_page.specs.Laws.{part_pieces, piece_html, pieces, shown, text_of}
use Rattle.mrp_page.specs.Kinds.{todo_html}
use Rattle.mrp_page.specs.layout.Head.{page_end, page_top}
use Rattle.mrp_page.specs.Notes.{Noted}
use Rattle.mrp_page.specs.AtRisk.{RisksView}
use Rattle.mrp_page.specs.Promises.{risks_html}
use Rattle.mrp_page.specs.Page.{glance_html, head_html, items_of, page_html, page_of, rest_html, scene_in, top_html, shown_items}
use Rattle.mrp_page.specs.Refused.{refused_section}
use Rattle.mrp_page.specs.Row.{RowView, cell_at}
use Rattle.mrp_page.specs.Rows.{rows_in}
use Rattle.mrp_page.specs.Summary.{summary_html}
use Rattle.mrp_page.specs.Template.{Date, DateWhere, Drawn, Mark, Number, Text, Week, Where, has_word, markup_if, part_html, row_html}
use Rattle.mrp_day.specs.declared.section.Section.TheVariants as s

part-is : (row : RowView) (part : Drawn) → part_html None row part ≡ flat_map piece_html (part_pieces row part)
part-is row (Mark markup) = sym (append-nil markup)
part-is row (Where column word markup) = sym (append-nil _)
part-is row (Text column) = sym (append-nil _)
part-is row (Number column) = refl
part-is row (Week column) = refl
part-is row (Date column) = refl
part-is row (DateWhere column word at) = by (has_word column word row)
  where
    by : (b : Bool) → markup_if b [] ≡ []
    by true = refl
    by false = refl

pub drawn-is : (parts : List Drawn) (row : RowView) → row_html parts row ≡ flat_map piece_html (pieces row parts)
unfolding row_html pieces
drawn-is [] row = refl
drawn-is (part ∷ parts) row =
    ap (λ (t : List ℕ). t ++ flat_map (part_html None row) parts) (part-is row part) ∙ ap (λ (t : List ℕ). flat_map piece_html (part_pieces row part) ++ t) (drawn-is parts row)
    ∙ sym (flat_map-append piece_html (part_pieces row part) (flat_map (part_pieces row) parts))

abbrev IsCell : RowView → List ℕ → Type 0
IsCell row text = (text ≡ []) ⊎ Contains row.cells text

is-cell : (row : RowView) (column : ℕ) → IsCell row (cell_at row column)
is-cell row column = by (cases_lt column (length row.cells))
  where
    by : (column < length row.cells) ⊎ (length row.cells ≤ column) → IsCell row (cell_at row column)
    by (inl within) = inr (Contains-get_or row.cells column [] within)
    by (inr past) = inl (get_or_past row.cells column [] past)

-- one text
one : (row : RowView) (text : List ℕ) → IsCell row text → All (IsCell row) (text ∷ [])
one row text is = All-cons (IsCell row) text [] is (All-nil (IsCell row))

none : (row : RowView) → All (IsCell row) []
none row = All-nil (IsCell row)

part-cells : (row : RowView) (part : Drawn) → All (IsCell row) (flat_map text_of (part_pieces row part))
part-cells row (Mark markup) = none row
part-cells row (Where column word markup) = none row
part-cells row (Text column) = one row (cell_at row column) (is-cell row column)
part-cells row (Number column) = one row (cell_at row column) (is-cell row column)
part-cells row (Week column) = one row (cell_at row column) (is-cell row column)
part-cells row (Date column) = none row
part-cells row (DateWhere column word at) = none row

pub shown-cells : (parts : List Drawn) (row : RowView) → All (λ text. (text ≡ []) ⊎ Contains row.cells text) (shown (pieces row parts))
unfolding shown pieces
shown-cells [] row = none row
shown-cells (part ∷ parts) row =
    rw (flat_map-append text_of (part_pieces row part) (flat_map (part_pieces row) parts)) (All-append (IsCell row) (flat_map text_of (part_pieces row part)) (shown (pieces row parts)) (part-cells row part) (shown-cells parts row))

-- a page begins with its type
pub begins : (title : List ℕ) (tables : Option Facts) (notes : Noted) (risks : RisksView) → (rest : List ℕ) × (page_html title tables notes risks ≡ codes "<!doctype html>" ++ rest)
unfolding page_html page_of top_html head_html row_html page_top
begins title tables notes risks = (drop 15 (page_html title tables notes risks), refl)

joined : (a o v b p c d e f g h : List ℕ) → a ++ (o ++ (v ++ (b ++ (p ++ (c ++ (d ++ (e ++ (f ++ (g ++ h))))))))) ≡ (a ++ (o ++ (v ++ (b ++ (p ++ (c ++ (d ++ (e ++ (f ++ g))))))))) ++ h
joined a o v b p c d e f g h = sym (simp append_assoc)

-- and ends with its end
pub ends : (title : List ℕ) (tables : Option Facts) (notes : Noted) (risks : RisksView) → (front : List ℕ) × (page_html title tables notes risks ≡ front ++ (codes "</html>" ++ 10 ∷ []))
unfolding page_html page_of rest_html page_end
ends title tables notes risks =
    let top = top_html title tables notes.report notes.counts.items (length (shown_items (item_lists notes.report))) in
    let sums = summary_html notes.history (rows_in s.Messages notes.report) (rows_in s.Loads notes.report) risks in
    let calls = refused_section (scene_in tables notes) notes.counts.history in
    let promises = risks_html (scene_in tables notes) risks in
    let todo = todo_html (scene_in tables notes) (rows_in s.Messages notes.report) notes.counts.messages in
    let seen = glance_html (scene_in tables notes) notes.report notes.counts.plan in
    let loads = load_section (scene_in tables notes) (rows_in s.Loads notes.report) notes.counts.loads in
    let items = items_of (scene_in tables notes) (item_lists notes.report) notes.counts in
    let history = history_html tables notes.history notes.counts.history in
    let last = codes "</main>\n</body>\n" in (
      top ++ (sums ++ (seen ++ (calls ++ (promises ++ (todo ++ (loads ++ (items ++ (history ++ last)))))))),
      joined top sums seen calls promises todo loads items history last (codes "</html>" ++ 10 ∷ []),
    )
