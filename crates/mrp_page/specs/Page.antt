-- A page, drawn from what was kept of a day.
use Rattle.std.specs.Prelude.{ℕ, Bool, ◌++◌, not, List, [], ◌∷◌, Option, codes, flat_map, take, if◌then◌else◌, length, nat_le}
use Rattle.mrp_page.specs.declared.counts.Counts.{Counts}
use Rattle.mrp_page.specs.declared.limits.TheConstants.{MOST_ITEMS}
use Rattle.mrp_page.specs.Centres.{load_section}
use Rattle.mrp_page.specs.Draw.{has_none, history_html, more_items}
use Rattle.mrp_page.specs.Frame.{heading, count_row}
use Rattle.mrp_page.specs.ItemRows.{ItemLists, item_lists}
use Rattle.mrp_page.specs.Items.{index_html, items_html}
use Rattle.mrp_page.specs.Kinds.{todo_html}
use Rattle.mrp_page.specs.layout.Glance.{glance_open}
use Rattle.mrp_page.specs.layout.Head.{page_end, page_head, page_items, page_top, style, head_end, page_shown}
use Rattle.mrp_page.specs.layout.Lists.{section_end}
use Rattle.mrp_page.specs.Notes.{Noted}
use Rattle.mrp_page.specs.Outs.{outs_section}
use Rattle.mrp_page.specs.Overloaded.{most_overloaded, overloaded_first}
use Rattle.mrp_page.specs.AtRisk.{RisksView}
use Rattle.mrp_page.specs.Promises.{AreRisksOf, risks_html}
use Rattle.mrp_page.specs.Refused.{refused_section}
use Rattle.mrp_page.specs.Row.{RowView, cell_at}
use Rattle.mrp_page.specs.Rows.{leaders, rows_in, rows_named}
use Rattle.mrp_page.specs.Scene.{SceneView, scene_of}
use Rattle.mrp_page.specs.Spot.{Names}
use Rattle.mrp_page.specs.Summary.{summary_html}
use Rattle.mrp_page.specs.Template.{row_html}
use Rattle.mrp_day.specs.declared.section.Section.TheVariants as s
use Rattle.mrp_page.specs.Unshown.{unshown}
use Rattle.mrp_page.specs.Dates.{date_in}
use Rattle.mrp_page.specs.Weeks.{start_html}
use Rattle.mrp_facts.specs.Facts.{Facts}

-- the head of a page
unfoldable pub head_html : Option Facts → RowView → List ℕ
head_html tables heading =
    row_html page_top heading
    ++ (style
    ++ (row_html page_head heading
    ++ (start_html (date_in tables (codes "1"))
    ++ row_html page_items heading)))

-- the item of a row has messages
abbrev pub is_told : List RowView → RowView → Bool
is_told messages row = not (has_none (rows_named (cell_at row 0) messages))

-- a row whose item has no messages
abbrev pub untold_rows : List RowView → RowView → List RowView
untold_rows messages row = if is_told messages row then [] else row ∷ []

-- the first row of each item with messages, and then those of the other items in the plan
unfoldable pub told_first : List RowView → List RowView → List RowView
told_first messages plan = leaders [] messages ++ flat_map (untold_rows messages) (leaders [] plan)

-- the items that a page has room for, those with messages first
unfoldable pub shown_items : ItemLists → List RowView
shown_items rows = take MOST_ITEMS (told_first rows.messages rows.plan)

-- an index of items, the items, and how many more there are
unfoldable pub items_of : SceneView → ItemLists → Counts → List ℕ
items_of scene rows counts =
    index_html rows.messages scene.shown
    ++ (items_html scene rows counts.promises scene.shown
    ++ more_items (unshown rows scene.shown counts) scene.shown)

-- the items, the history and the end of a page
unfoldable pub rest_html : SceneView → ItemLists → Counts → List ℕ
rest_html scene rows counts = items_of scene rows counts ++ (history_html scene.tables scene.history counts.history ++ page_end)

-- how many items are on a page, if these are not all
unfoldable pub shown_html : ℕ → ℕ → List ℕ
shown_html items shown = if nat_le items shown then [] else row_html page_shown (count_row shown [] [])

-- the head of a page, with its title, the report, the number of items, and how many of them are shown
unfoldable pub top_html : List ℕ → Option Facts → List RowView → ℕ → ℕ → List ℕ
top_html title tables report items shown = head_html tables (heading title report items) ++ (shown_html items shown ++ head_end)

-- what stands at a glance: the items that run out first, and the work centres that are most over their capacity
unfoldable pub glance_html : SceneView → List RowView → ℕ → List ℕ
glance_html scene report missed =
    glance_open
    ++ (outs_section scene (rows_in s.Plan report) missed
    ++ (most_overloaded scene.tables (overloaded_first (rows_in s.Loads report))
    ++ section_end))

-- a page, from what its parts are drawn from
unfoldable pub page_of : List ℕ → Noted → SceneView → RisksView → List ℕ
page_of title notes scene risks =
    top_html title scene.tables notes.report notes.counts.items (length scene.shown)
    ++ (summary_html notes.history (rows_in s.Messages notes.report) (rows_in s.Loads notes.report) risks
    ++ (glance_html scene notes.report notes.counts.plan
    ++ (refused_section scene notes.counts.history
    ++ (risks_html scene risks
    ++ (todo_html scene (rows_in s.Messages notes.report) notes.counts.messages
    ++ (load_section scene (rows_in s.Loads notes.report) notes.counts.loads
    ++ rest_html scene (item_lists notes.report) notes.counts))))))

-- what a page is drawn from
abbrev pub scene_in : Option Facts → Noted → SceneView
scene_in tables notes = scene_of (shown_items (item_lists notes.report)) (item_lists notes.report) notes.history notes.counts.pegs tables

-- the bookings at risk of what is kept
abbrev pub AreRisksIn : Names → Noted → RisksView → Type 0
AreRisksIn items notes risks = AreRisksOf items notes.counts (rows_in s.Orders notes.report) (rows_in s.Pegs notes.report) risks

-- a page, with the bookings at risk, and what the tables of the day add to it if they are given
unfoldable pub page_html : List ℕ → Option Facts → Noted → RisksView → List ℕ
page_html title tables notes risks = page_of title notes (scene_in tables notes) risks
