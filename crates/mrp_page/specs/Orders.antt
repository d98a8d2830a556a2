-- Orders by their numbers, and links to them.
use Rattle.std.specs.Prelude.{ℕ, Bool, ◌-◌, ◌++◌, ◌&&◌, List, Option, None, Some, codes, if◌then◌else◌}
use Rattle.std.specs.List.{slice_get}
use Rattle.mrp_page.specs.Amounts.{amount}
use Rattle.mrp_page.specs.Draw.{has_item}
use Rattle.mrp_page.specs.Escaped.{escaped}
use Rattle.mrp_page.specs.layout.Items.{order_address}
use Rattle.mrp_page.specs.layout.Lists.{link_end, link_middle}
use Rattle.mrp_page.specs.Row.{RowView, cell_at, is_of}
use Rattle.mrp_page.specs.Rows.{rows_named}
use Rattle.mrp_page.specs.Scene.{SceneView}
use Rattle.mrp_page.specs.Template.{has_word}

-- an order is that of this item with this number
abbrev pub is_numbered : List ℕ → List ℕ → RowView → Bool
is_numbered name number order = is_of name order && has_word 1 number order

-- an order is that of this item, of this kind, with this number
abbrev pub is_order : List ℕ → List ℕ → List ℕ → RowView → Bool
is_order name kind number order = is_of name order && (has_word 1 number order && has_word 2 kind order)

-- the place of the order with this number among those of its item, which are numbered from 1
abbrev pub place_of : List ℕ → ℕ
place_of number = amount number - 1

-- an order, if it passes
abbrev pub passing : (RowView → Bool) → Option RowView → Option RowView
passing passes None = None
passing passes (Some order) = if passes order then Some order else None

-- the order of an item with this number, if it is kept
abbrev pub numbered : SceneView → List ℕ → List ℕ → Option RowView
numbered scene name number = passing (is_numbered name number) (slice_get (rows_named name scene.orders) (place_of number))

-- the order of an item with this number and kind, if it is kept
abbrev pub ordered : SceneView → List ℕ → List ℕ → List ℕ → Option RowView
ordered scene name kind number = passing (is_order name kind number) (slice_get (rows_named name scene.orders) (place_of number))

-- what a link to an order begins with
unfoldable pub order_link : List ℕ → List ℕ → List ℕ
order_link number name =
    order_address
    ++ (escaped number
    ++ (codes "-"
    ++ (escaped name
    ++ link_middle)))

-- what is said of an order, as a link to it if its item is shown
unfoldable pub order_words : SceneView → RowView → List ℕ → List ℕ
order_words scene order words =
    if has_item scene.shown (cell_at order 0) then order_link (cell_at order 1) (cell_at order 0) ++ (words ++ link_end) else words

-- the same of an order that is kept
abbrev pub linked_html : SceneView → Option RowView → List ℕ → List ℕ
linked_html scene None words = words
linked_html scene (Some order) words = order_words scene order words
