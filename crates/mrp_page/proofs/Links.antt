-- Where the items are on a page, and how a name links to its item.
use Rattle.mrp_page.specs.Centres.{load_section}
use Rattle.mrp_page.specs.ItemFacts.{item_facts_html}
use Rattle.mrp_facts.specs.Facts.{Facts}
use Rattle.std.proofs.Common.{Option, ◌≡◌, ◌-◌, ℕ, List, [], ◌++◌, codes, drop, length, refl, ap, append_assoc}
use Rattle.std.specs.List.{flat_map}
use Rattle.mrp_page.specs.Draw.{dated_table, history_html, link_html, more_html, more_items, more_rows, named_note, named_record}
use Rattle.mrp_page.specs.Items.{index_html, item_html, item_lists_html, items_html, orders_html, pegs_html, waits_html}
use Rattle.mrp_page.specs.Pegs.{waits_for}
use Rattle.mrp_page.specs.Escaped.{escaped}
use Rattle.mrp_page.specs.ItemRows.{ItemLists, item_lists}
use Rattle.mrp_page.specs.Kinds.{todo_html}
use Rattle.mrp_page.specs.layout.Head.{page_end}
use Rattle.mrp_page.specs.layout.Items.{item_head, lists_open, order, order_address, orders_open}
use Rattle.mrp_page.specs.layout.Lists.{grid_end, link_end, link_middle, link_open, rest_end, section_end}
use Rattle.mrp_page.specs.Notes.{Noted}
use Rattle.mrp_page.specs.AtRisk.{RisksView}
use Rattle.mrp_page.specs.Promises.{risks_html}
use Rattle.mrp_page.specs.Page.{glance_html, items_of, page_html, page_of, rest_html, scene_in, shown_items, top_html}
use Rattle.mrp_page.specs.Orders.{order_link}
use Rattle.mrp_page.specs.Refused.{refused_section}
use Rattle.mrp_page.specs.Row.{RowView, cell_at}
use Rattle.mrp_page.specs.Rows.{rows_in, rows_named}
use Rattle.mrp_page.specs.Said.{item_messages}
use Rattle.mrp_page.specs.Scene.{SceneView}
use Rattle.mrp_page.specs.Summary.{summary_html}
use Rattle.mrp_page.specs.Template.{dated_html, dated_rows, row_html}
use Rattle.mrp_day.specs.declared.section.Section.TheVariants as s
use Rattle.mrp_page.specs.Unshown.{unshown}

pub link-is : (name : List ℕ) → link_html name ≡ codes "<a href=\"#i-" ++ (escaped name ++ (codes "\">" ++ (escaped name ++ codes "</a>")))
unfolding link_html link_open link_middle link_end
link-is name = refl

pub item-begins : (scene : SceneView) (rows : ItemLists) (missed : ℕ) (leader : RowView) → (rest : List ℕ) × (item_html scene rows missed leader ≡ codes "<section class=item id=\"i-" ++ (escaped (cell_at leader 0) ++ (codes "\">" ++ rest)))
unfolding item_html row_html item_head
item-begins scene rows missed leader =
    let name : List ℕ = escaped (cell_at leader 0) in
    let head : List ℕ = codes "\n<h2>" ++ (name ++ (codes "<a href=\"#items\">all items</a><a href=\"#todo\">to do</a></h2>\n" ++ [])) in
    let back : List ℕ = item_facts_html scene.tables (cell_at leader 0) ++ (item_messages scene rows leader ++ (named_record scene.tables rows (cell_at leader 0) ++ (named_note rows missed (cell_at leader 0) ++ item_lists_html scene (cell_at leader 0)))) in
    (head ++ back, ap (λ (t : List ℕ). codes "<section class=item id=\"i-" ++ t) (append_assoc name (codes "\">" ++ head) back))

-- an order begins where a link to it leads
pub order-begins : (tables : Option Facts) (row : RowView) → (rest : List ℕ) × (dated_html tables order row ≡ codes "<tr id=\"o-" ++ (escaped (cell_at row 1) ++ (codes "-" ++ (escaped (cell_at row 0) ++ (codes "\">" ++ rest)))))
unfolding dated_html order
order-begins tables row = (dated_html tables (drop 5 order) row, refl)

pub order-link-is : (number name : List ℕ) → order_link number name ≡ codes "<a href=\"#o-" ++ (escaped number ++ (codes "-" ++ (escaped name ++ codes "\">")))
unfolding order_link order_address link_middle
order-link-is number name = refl

pub orders-are : (tables : Option Facts) (rows : List RowView) → orders_html tables rows ≡ orders_open ++ (flat_map (dated_html tables order) rows ++ grid_end)
unfolding orders_html dated_table dated_rows
orders-are tables rows = refl

pub lists-have-orders : (scene : SceneView) (name : List ℕ) → (rest : List ℕ) × (item_lists_html scene name ≡ lists_open ++ (orders_html scene.tables (rows_named name scene.orders) ++ rest))
unfolding item_lists_html
lists-have-orders scene name = (pegs_html scene (rows_named name scene.pegs) ++ (waits_html scene (waits_for scene.pegs name) ++ (rest_end ++ section_end)), refl)

placed : (a u v o p b c x d e f g : List ℕ) → a ++ (u ++ (v ++ (o ++ (p ++ (b ++ (c ++ ((x ++ (d ++ (e ++ f))) ++ g))))))) ≡ (a ++ (u ++ (v ++ (o ++ (p ++ (b ++ (c ++ x))))))) ++ (d ++ (e ++ (f ++ g)))
placed a u v o p b c x d e f g = simp append_assoc

pub items-stand : (title : List ℕ) (tables : Option Facts) (notes : Noted) (risks : RisksView) → (front : List ℕ) × (back : List ℕ) × (page_html title tables notes risks
    ≡ front ++ (items_html (scene_in tables notes) (item_lists notes.report) notes.counts.promises (shown_items (item_lists notes.report)) ++ (more_html (notes.counts.items - length (shown_items (item_lists notes.report))) (codes "item is") (codes "items are") ++ back)))
unfolding page_html page_of rest_html items_of more_items
items-stand title tables notes risks =
    let lists : ItemLists = item_lists notes.report in
    let shown : List RowView = shown_items lists in
    let top : List ℕ = top_html title tables notes.report notes.counts.items (length (shown_items (item_lists notes.report))) in
    let sums : List ℕ = summary_html notes.history (rows_in s.Messages notes.report) (rows_in s.Loads notes.report) risks in
    let calls : List ℕ = refused_section (scene_in tables notes) notes.counts.history in
    let promises : List ℕ = risks_html (scene_in tables notes) risks in
    let todo : List ℕ = todo_html (scene_in tables notes) (rows_in s.Messages notes.report) notes.counts.messages in
    let seen : List ℕ = glance_html (scene_in tables notes) notes.report notes.counts.plan in
    let loads : List ℕ = load_section (scene_in tables notes) (rows_in s.Loads notes.report) notes.counts.loads in
    let indexed : List ℕ = index_html lists.messages shown in
    let more : List ℕ = more_html (notes.counts.items - length shown) (codes "item is") (codes "items are") in
    let last : List ℕ = history_html tables notes.history notes.counts.history ++ page_end in (
      top ++ (sums ++ (seen ++ (calls ++ (promises ++ (todo ++ (loads ++ indexed)))))),
      more_rows (unshown lists shown notes.counts) ++ last,
      placed top sums seen calls promises todo loads indexed (items_html (scene_in tables notes) lists notes.counts.promises shown) more (more_rows (unshown lists shown notes.counts)) last,
    )
