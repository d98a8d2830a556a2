-- What a page keeps of the sections of a day: a history, and for each run seven of its report.
use Rattle.std.specs.Prelude.{ℕ, Bool, true, false, ◌==◌}
use Rattle.mrp_page.specs.declared.limits.TheConstants as limits
use Rattle.mrp_day.specs.declared.section.Section.{Section}
use Rattle.mrp_day.specs.declared.section.Section.TheVariants as s

-- the section that follows another; after the last one the report of the next run begins
abbrev pub next_of : Section → Section
next_of s.History = s.Run
next_of s.Run = s.Promises
next_of s.Promises = s.Plan
next_of s.Plan = s.Orders
next_of s.Orders = s.Pegs
next_of s.Pegs = s.Messages
next_of s.Messages = s.Loads
next_of s.Loads = s.Run

-- how many of a section's rows a page has room for
abbrev pub room_of : Section → ℕ
room_of s.History = limits.MOST_ENTRIES
room_of s.Run = 1
room_of s.Promises = limits.MOST_ROWS
room_of s.Plan = limits.MOST_ROWS
room_of s.Orders = limits.MOST_ROWS
room_of s.Pegs = limits.MOST_PEGS
room_of s.Messages = limits.MOST_ROWS
room_of s.Loads = limits.MOST_ROWS

-- for how many items, or work centres, rows are kept even if the section is full
abbrev pub items_of : Section → ℕ
items_of s.History = 0
items_of s.Run = 0
items_of s.Promises = limits.MOST_ITEMS
items_of s.Plan = limits.MOST_ITEMS
items_of s.Orders = 0
items_of s.Pegs = 0
items_of s.Messages = limits.MOST_ITEMS
items_of s.Loads = limits.MOST_ITEMS

-- whether an item, or a work centre, has a row for each week in a section; these are kept together
abbrev pub is_by_weeks : Section → Bool
is_by_weeks s.History = false
is_by_weeks s.Run = false
is_by_weeks s.Promises = true
is_by_weeks s.Plan = true
is_by_weeks s.Orders = false
is_by_weeks s.Pegs = false
is_by_weeks s.Messages = false
is_by_weeks s.Loads = true

-- whether a section is the history
abbrev pub is_history : Section → Bool
is_history s.History = true
is_history _ = false

-- whether a section is the plan
abbrev pub is_plan : Section → Bool
is_plan s.Plan = true
is_plan _ = false

-- whether a section's rows belong to items
abbrev pub is_of_items : Section → Bool
is_of_items s.History = false
is_of_items s.Run = false
is_of_items s.Promises = true
is_of_items s.Plan = true
is_of_items s.Orders = true
is_of_items s.Pegs = true
is_of_items s.Messages = true
is_of_items s.Loads = false

-- a section's place among all of them
abbrev pub place_of : Section → ℕ
place_of s.History = 0
place_of s.Run = 1
place_of s.Promises = 2
place_of s.Plan = 3
place_of s.Orders = 4
place_of s.Pegs = 5
place_of s.Messages = 6
place_of s.Loads = 7

-- two sections are the same
abbrev pub same_section : Section → Section → Bool
same_section a b = place_of a == place_of b
