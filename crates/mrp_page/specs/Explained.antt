-- Overloads, each with the operations that load it.
use Rattle.std.specs.Prelude.{ℕ, ◌-◌, ◌^◌, ◌==◌, min, nat_le, List, [], ◌∷◌, ◌++◌, Option, None, Some, codes, decimal, drop, flat_map, length, take, unwrap_or, if◌then◌else◌}
use Rattle.mrp_facts.specs.Facts.{Facts}
use Rattle.mrp_day.specs.declared.section.Section.TheVariants as s
use Rattle.mrp_qty.specs.Minutes.{minutes_text_of}
use Rattle.mrp_work.specs.declared.order.Work.{Work}
use Rattle.mrp_work.specs.Work.{total}
use Rattle.mrp_page.specs.Amounts.{amount}
use Rattle.mrp_page.specs.Frame.{count_row}
use Rattle.mrp_page.specs.layout.Centres.{over_words}
use Rattle.mrp_page.specs.layout.Lists.{bullet_end, bullet_open, grid_end, row_open}
use Rattle.mrp_page.specs.layout.Work.{work_back, work_blank, work_count, work_end, work_head, work_name, work_open, work_operation, work_other, work_rest, work_share, work_unknown}
use Rattle.mrp_page.specs.Numbering.{row_at}
use Rattle.mrp_page.specs.Orders.{linked_html, ordered}
use Rattle.mrp_page.specs.Overloaded.{share_sign, share_words}
use Rattle.mrp_page.specs.Row.{RowView, cell_at}
use Rattle.mrp_page.specs.Scene.{SceneView}
use Rattle.mrp_page.specs.Shares.{minutes_html, share, share_row, whole}
use Rattle.mrp_page.specs.Sorted.{sorted_by}
use Rattle.mrp_page.specs.Template.{dated_html, row_html}
use Rattle.mrp_page.specs.Work.{WorkView, works_of}
use Rattle.mrp_page.specs.declared.limits.TheConstants.{MOST_AMOUNT, SOME_ROWS}

-- a number that falls as the time of an operation rises
abbrev pub falling_time : Work → ℕ
falling_time work = 2 ^ 128 - 1 - work.time

-- operations, those first that take the most time
abbrev pub works_first : List Work → List Work
works_first works = sorted_by falling_time works

-- the share of a week's capacity that a time takes, in per cent, rounded up
abbrev pub time_share : RowView → ℕ → Option ℕ
time_share load time = share (min time MOST_AMOUNT) (amount (cell_at load 3))

-- the share in words, and its sign
abbrev pub time_share_row : RowView → ℕ → RowView
time_share_row load time = record { section = s.Run; cells = share_words (time_share load time) (decimal (unwrap_or (time_share load time) 0)) ∷ share_sign (time_share load time) ∷ [] }

-- the cells of a time: its minutes, and its share of the week's capacity
unfoldable pub time_html : RowView → ℕ → List ℕ
time_html load time = minutes_html (minutes_text_of time) ++ row_html work_share (time_share_row load time)

-- an order, as a link to it if it is on the page
abbrev pub order_name_html : SceneView → RowView → List ℕ
order_name_html scene order = linked_html scene (ordered scene (cell_at order 0) (cell_at order 2) (cell_at order 1)) (row_html work_name order)

-- an operation of this order: the order, the operation's number, its time, and the order's start, due week and lateness
unfoldable pub order_work : SceneView → RowView → RowView → Work → List ℕ
order_work scene order load work =
    row_open
    ++ (order_name_html scene order
    ++ (row_html work_operation (count_row work.operation [] [])
    ++ (time_html load work.time
    ++ dated_html scene.tables work_back order)))

-- an operation of one of these orders
abbrev pub work_line : SceneView → List RowView → RowView → Work → List ℕ
work_line scene orders load work = order_work scene (row_at orders work.order) load work

-- how many more operations there are, with their time; nothing if that is none
unfoldable pub more_works_html : RowView → List Work → List ℕ
more_works_html load works =
    if length works == 0 then [] else row_html work_rest (count_row (length works) [] []) ++ (time_html load (total works) ++ work_blank)

-- the time of a load that no operation takes; nothing if that is none
unfoldable pub left_html : RowView → ℕ → List ℕ
left_html load time =
    if time == 0 then [] else work_other ++ (time_html load time ++ work_blank)

-- the operations that load a week of a work centre: those that take the most time, the others together, and what else the load has
unfoldable pub works_table : SceneView → List RowView → RowView → List Work → List ℕ
works_table scene orders load works =
    row_html work_head (share_row load)
    ++ (flat_map (work_line scene orders load) (take SOME_ROWS (works_first works))
    ++ (more_works_html load (drop SOME_ROWS (works_first works))
    ++ (left_html load (amount (cell_at load 2) - total works)
    ++ grid_end)))

-- the operations, unless they take more time than the load has
unfoldable pub works_or_none : SceneView → List RowView → RowView → List Work → List ℕ
works_or_none scene orders load works =
    if nat_le (total works) (amount (cell_at load 2)) then works_table scene orders load works else work_unknown

-- an overload, with its operations folded behind it
unfoldable pub explained_html : SceneView → List RowView → RowView → List Work → List ℕ
explained_html scene orders load works =
    work_open
    ++ (dated_html scene.tables over_words (share_row load)
    ++ (row_html work_count (count_row (length works) (codes "operation") (codes "operations"))
    ++ (works_or_none scene orders load works
    ++ work_end)))

-- an overload without its operations
unfoldable pub plain_html : Option Facts → RowView → List ℕ
plain_html tables load =
    bullet_open
    ++ (dated_html tables over_words (share_row load)
    ++ bullet_end)

-- an overload, with its operations if it is asked for
abbrev pub explained_or_plain : SceneView → List RowView → RowView → Option (List Work) → List ℕ
explained_or_plain scene orders load None = plain_html scene.tables load
explained_or_plain scene orders load (Some works) = explained_html scene orders load works

abbrev pub overload_html : SceneView → Option WorkView → RowView → List ℕ
overload_html scene None load = plain_html scene.tables load
overload_html scene (Some view) load = explained_or_plain scene view.orders load (works_of view load)

-- the texts of a time
abbrev pub time_texts : RowView → ℕ → List (List ℕ)
time_texts load time = minutes_text_of time ∷ whole (minutes_text_of time) ∷ decimal (unwrap_or (time_share load time) 0) ∷ []

-- the texts of an operation
abbrev pub work_texts : RowView → Work → List (List ℕ)
work_texts load work = decimal work.operation ∷ time_texts load work.time

-- the texts of an overload that are none of its cells
abbrev pub explained_texts : RowView → List Work → List (List ℕ)
explained_texts load works =
    (decimal (length works) ∷ decimal (length (drop SOME_ROWS (works_first works))) ∷ [])
    ++ (time_texts load (total (drop SOME_ROWS (works_first works)))
    ++ (time_texts load (amount (cell_at load 2) - total works)
    ++ flat_map (work_texts load) works))
