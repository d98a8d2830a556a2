-- The items of a page: an index, and each with its messages, its record, its orders and pegs.
use Rattle.std.specs.Prelude.{ℕ, List, [], ◌++◌, ◌==◌, Option, None, Some, codes, flat_map, length, if◌then◌else◌}
use Rattle.mrp_page.specs.Draw.{dated_table, has_none, item_name_html, link_html, named_note, named_record}
use Rattle.mrp_page.specs.Frame.{count_row}
use Rattle.mrp_page.specs.ItemFacts.{item_facts_html}
use Rattle.mrp_page.specs.ItemRows.{ItemLists}
use Rattle.mrp_page.specs.layout.Items.{index_count, item_head, items_end, items_open, lists_open, order, orders_open, peg_back, peg_booking, peg_middle, peg_need, peg_parent, peg_supply, pegs_open, wait_end, wait_late, wait_order, wait_supply, waits_open}
use Rattle.mrp_page.specs.layout.Lists.{bullet_end, bullet_open, grid_end, rest_end, row_open, section_end}
use Rattle.mrp_page.specs.Orders.{linked_html, numbered, ordered}
use Rattle.mrp_page.specs.Pegs.{waits_for}
use Rattle.mrp_page.specs.Refused.{entry_name_html}
use Rattle.mrp_page.specs.Row.{RowView, cell_at}
use Rattle.mrp_page.specs.Rows.{rows_named}
use Rattle.mrp_page.specs.Said.{item_messages}
use Rattle.mrp_page.specs.Scene.{SceneView}
use Rattle.mrp_page.specs.Template.{dated_html, has_word, row_html}
use Rattle.mrp_facts.specs.Facts.{Facts}

-- the orders of an item
unfoldable pub orders_html : Option Facts → List RowView → List ℕ
orders_html tables orders = dated_table tables orders_open order orders grid_end

-- the order of a parent that a peg is for, if it is kept
abbrev pub parent_of : SceneView → RowView → Option RowView
parent_of scene peg = numbered scene (cell_at peg 4) (cell_at peg 3)

-- the order that is the supply of a peg, if it is one and is kept
abbrev pub supplier_of : SceneView → RowView → Option RowView
supplier_of scene peg = ordered scene (cell_at peg 0) (cell_at peg 6) (cell_at peg 7)

-- what a peg is for: a booking, an order of a parent, or something else
unfoldable pub need_html : SceneView → RowView → List ℕ
need_html scene peg =
    if has_word 2 (codes "booking") peg then peg_booking ++ entry_name_html scene.history (cell_at peg 3)
    else if has_word 2 (codes "parent") peg then linked_html scene (parent_of scene peg) (row_html peg_parent peg)
    else row_html peg_need peg

-- the supply of a peg
abbrev pub supply_html : SceneView → RowView → List ℕ
supply_html scene peg = linked_html scene (supplier_of scene peg) (row_html peg_supply peg)

-- a peg: where pieces of a supply go
unfoldable pub peg_html : SceneView → RowView → List ℕ
peg_html scene peg =
    row_open
    ++ (supply_html scene peg
    ++ (row_html peg_middle peg
    ++ (need_html scene peg
    ++ dated_html scene.tables peg_back peg)))

-- the pegs of an item
unfoldable pub pegs_html : SceneView → List RowView → List ℕ
pegs_html scene pegs = pegs_open ++ (flat_map (peg_html scene) pegs ++ grid_end)

-- how late an order is
abbrev pub late_html : Option RowView → List ℕ
late_html None = wait_end
late_html (Some order) = row_html wait_late order

-- a component that an order waits for
unfoldable pub wait_html : SceneView → RowView → List ℕ
wait_html scene peg =
    row_open
    ++ (linked_html scene (parent_of scene peg) (row_html wait_order peg)
    ++ (row_html peg_middle peg
    ++ (item_name_html scene.shown (cell_at peg 0)
    ++ (wait_supply
    ++ (supply_html scene peg
    ++ late_html (supplier_of scene peg))))))

-- what the orders of an item wait for; nothing if that is nothing
unfoldable pub waits_html : SceneView → List RowView → List ℕ
waits_html scene pegs =
    if has_none pegs then [] else waits_open ++ (flat_map (wait_html scene) pegs ++ grid_end)

-- the orders of an item, where they go, and what they wait for
unfoldable pub item_lists_html : SceneView → List ℕ → List ℕ
item_lists_html scene name =
    lists_open
    ++ (orders_html scene.tables (rows_named name scene.orders)
    ++ (pegs_html scene (rows_named name scene.pegs)
    ++ (waits_html scene (waits_for scene.pegs name)
    ++ (rest_end
    ++ section_end))))

-- an item, by a row of it, given how many rows of promises are not kept
unfoldable pub item_html : SceneView → ItemLists → ℕ → RowView → List ℕ
item_html scene rows missed leader =
    row_html item_head leader
    ++ (item_facts_html scene.tables (cell_at leader 0)
    ++ (item_messages scene rows leader
    ++ (named_record scene.tables rows (cell_at leader 0)
    ++ (named_note rows missed (cell_at leader 0)
    ++ item_lists_html scene (cell_at leader 0)))))

-- items, by a row of each
unfoldable pub items_html : SceneView → ItemLists → ℕ → List RowView → List ℕ
items_html scene rows missed leaders = flat_map (item_html scene rows missed) leaders

-- how many messages an item has
abbrev pub message_count : List RowView → RowView → ℕ
message_count messages leader = length (rows_named (cell_at leader 0) messages)

-- a count behind a name; nothing if it is 0
abbrev pub count_html : ℕ → List ℕ
count_html count = if count == 0 then [] else row_html index_count (count_row count [] [])

-- an item of the index
unfoldable pub index_line : List RowView → RowView → List ℕ
index_line messages leader =
    bullet_open
    ++ (link_html (cell_at leader 0)
    ++ (count_html (message_count messages leader)
    ++ bullet_end))

-- the index of the items
unfoldable pub index_html : List RowView → List RowView → List ℕ
index_html messages leaders = items_open ++ (flat_map (index_line messages) leaders ++ items_end)
