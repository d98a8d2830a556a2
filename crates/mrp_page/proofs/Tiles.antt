-- The counts of the summary are those of the rows of the parts that they lead to.
use Rattle.mrp_facts.specs.Facts.{Facts}
use Rattle.std.proofs.Common.{Option, ◌≡◌, ◌∙◌, ◌<◌, ℕ, Bool, true, List, [], ◌++◌, codes, decimal, length, refl, sym, append_assoc}
use Rattle.std.specs.Prelude.{◌==◌, count_by, if◌then◌else◌}
use Rattle.std.specs.List.{filter}
use Rattle.std.proofs.lemmas.Bool.{lt-leb}
use Rattle.std.proofs.lemmas.List.Sums.{length-filter}
use Rattle.std.proofs.lemmas.List.Sorted.{length_permutation}
use Rattle.mrp_page.specs.Centres.{load_section}
use Rattle.mrp_page.specs.ByWord.{with_word}
use Rattle.mrp_page.specs.Columns.{column}
use Rattle.mrp_page.specs.Escaped.{escaped}
use Rattle.mrp_page.specs.ItemRows.{item_lists}
use Rattle.mrp_page.specs.Kinds.{Kind, falling_rank, in_order, messages_of, todo_html, value_rank}
use Rattle.mrp_page.specs.layout.Head.{head_end, page_shown, summary_tile}
use Rattle.mrp_page.specs.Notes.{Noted}
use Rattle.mrp_page.specs.AtRisk.{RisksView}
use Rattle.mrp_page.specs.Promises.{risks_html}
use Rattle.mrp_page.specs.Page.{glance_html, head_html, page_html, page_of, rest_html, scene_in, shown_html, shown_items, top_html}
use Rattle.mrp_page.specs.Frame.{heading}
use Rattle.mrp_page.specs.Refused.{refused_section}
use Rattle.mrp_page.specs.Row.{RowView, cell_at}
use Rattle.mrp_page.specs.Rows.{leaders, rows_in}
use Rattle.mrp_page.specs.Sorted.{sorted_by}
use Rattle.mrp_page.specs.Summary.{count_with, is_over, over_tile, risk_tile, summary_html, tile_html}
use Rattle.mrp_page.specs.Template.{has_word, row_html}
use Rattle.mrp_page.specs.declared.kinds.Sorting.{Sorting}
use Rattle.mrp_page.specs.declared.kinds.Sorting.TheVariants as sorts
use Rattle.mrp_day.specs.declared.section.Section.TheVariants as s
use Rattle.mrp_page.proofs.ByKey.{sorted-permutes}

in-order-length : (sorting : Sorting) (rows : List RowView) → length (in_order sorting rows) ≡ length rows
in-order-length sorts.Day rows = refl
in-order-length sorts.Rising rows = length_permutation rows (sorted_by value_rank rows) (sorted-permutes value_rank rows)
in-order-length sorts.Falling rows = length_permutation rows (sorted_by falling_rank rows) (sorted-permutes falling_rank rows)

pub undone-is : (p : RowView → Bool) (rows : List RowView) → count_by p rows ≡ length (filter p rows)
undone-is p rows = sym (length-filter p rows)

pub kinds-counted : (messages : List RowView) (kind : Kind) → count_with (column s.Messages (codes "message")) kind.word messages ≡ length (messages_of messages kind)
kinds-counted messages kind = undone-is (has_word 3 kind.word) messages ∙ sym (in-order-length kind.sorting (with_word 3 messages kind.word))

pub tile-is : (count : ℕ) (mark place what : List ℕ) → (front : List ℕ) × (tile_html count mark place what ≡ front ++ (codes "\" href=\"#" ++ (escaped place ++ (codes "\"><b>" ++ (escaped (decimal count) ++ (codes "</b>" ++ (escaped what ++ (codes "</a>" ++ []))))))))
unfolding tile_html row_html summary_tile
tile-is count mark place what =
    let shade : List ℕ = escaped (if count == 0 then codes "none" else mark) in
    let rest : List ℕ = codes "\" href=\"#" ++ (escaped place ++ (codes "\"><b>" ++ (escaped (decimal count) ++ (codes "</b>" ++ (escaped what ++ (codes "</a>" ++ [])))))) in
    (codes "<a class=\"" ++ shade, sym (append_assoc (codes "<a class=\"") shade rest))

pub summary-stands : (title : List ℕ) (tables : Option Facts) (notes : Noted) (risks : RisksView) → (front : List ℕ) × (back : List ℕ) × (page_html title tables notes risks ≡ front ++ (summary_html notes.history (rows_in s.Messages notes.report) (rows_in s.Loads notes.report) risks ++ back))
unfolding page_html page_of
summary-stands title tables notes risks = (
  top_html title tables notes.report notes.counts.items (length (shown_items (item_lists notes.report))),
  glance_html (scene_in tables notes) notes.report notes.counts.plan ++ (refused_section (scene_in tables notes) notes.counts.history ++ (risks_html (scene_in tables notes) risks ++ (todo_html (scene_in tables notes) (rows_in s.Messages notes.report) notes.counts.messages ++ (load_section (scene_in tables notes) (rows_in s.Loads notes.report) notes.counts.loads ++ rest_html (scene_in tables notes) (item_lists notes.report) notes.counts)))),
  refl,
)

pub risk-is : (rows : List RowView) → risk_tile (record { known = true; rows = rows }) ≡ tile_html (length rows) (codes "late") (codes "risk") (codes "at risk")
unfolding risk_tile
risk-is rows = refl

pub centres-are : (loads : List RowView) → cell_at (over_tile loads) 0 ≡ decimal (length (leaders [] (filter is_over loads)))
centres-are loads = refl

pub all-centres-are : (loads : List RowView) → cell_at (over_tile loads) 4 ≡ decimal (length (leaders [] loads))
all-centres-are loads = refl

pub items-are : (items few : ℕ) → few < items → shown_html items few ≡ codes ", on this page: <b>" ++ (escaped (decimal few) ++ (codes "</b>" ++ []))
unfolding shown_html row_html page_shown
items-are items few less = rw (lt-leb items few less) refl

pub head-stands : (title : List ℕ) (tables : Option Facts) (notes : Noted) (risks : RisksView) → (rest : List ℕ) × (page_html title tables notes risks ≡ top_html title tables notes.report notes.counts.items (length (shown_items (item_lists notes.report))) ++ rest)
unfolding page_html page_of
head-stands title tables notes risks = (
  summary_html notes.history (rows_in s.Messages notes.report) (rows_in s.Loads notes.report) risks ++ (glance_html (scene_in tables notes) notes.report notes.counts.plan ++ (refused_section (scene_in tables notes) notes.counts.history ++ (risks_html (scene_in tables notes) risks ++ (todo_html (scene_in tables notes) (rows_in s.Messages notes.report) notes.counts.messages ++ (load_section (scene_in tables notes) (rows_in s.Loads notes.report) notes.counts.loads ++ rest_html (scene_in tables notes) (item_lists notes.report) notes.counts))))),
  refl,
)

pub top-is : (title : List ℕ) (tables : Option Facts) (report : List RowView) (items few : ℕ) → top_html title tables report items few ≡ head_html tables (heading title report items) ++ (shown_html items few ++ head_end)
unfolding top_html
top-is title tables report items few = refl
