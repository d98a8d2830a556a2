-- Where the records of a day stand.
use Rattle.std.specs.Prelude.{ℕ, Bool, true, false, ◌+◌, ◌-◌, ◌^◌, ◌==◌, ◌&&◌, ◌||◌, not, min, nat_lt, nat_eq, List, [], ◌∷◌, Option, Some, None, is_some, length, codes, if◌then◌else◌, slice_index_or}
use Rattle.std.specs.List.{list_any}
use Rattle.std.proofs.Common.{Bor}
use Rattle.std.specs.Cmp.Lexicographic.{pointwise}
use Rattle.mrp_lines.specs.Lines.{is_line}
use Rattle.mrp_page.specs.declared.limits.TheConstants.{MOST_ITEMS}
use Rattle.mrp_cal.specs.declared.calendar.TheConstants.{MOST_WEEKS}
use Rattle.mrp_day.specs.declared.section.Section.{Section}
use Rattle.mrp_day.specs.declared.section.Section.TheVariants as s
use Rattle.mrp_page.specs.declared.spot.Place.{Place}
use Rattle.mrp_page.specs.declared.spot.Place.TheVariants as place
use Rattle.mrp_page.specs.declared.spot.Spot.{Spot}
use Rattle.mrp_page.specs.Row.{Cells, same_text}
use Rattle.mrp_day.specs.Sections.{columns_of, line_of}
use Rattle.mrp_page.specs.Section.{is_by_weeks, is_of_items, is_plan, items_of, next_of, room_of}

-- a record's cells are these
abbrev pub same_cells : Cells → Cells → Bool
same_cells a b = pointwise (pointwise nat_eq) a b

-- what a record is where this section has to begin: its line
abbrev pub begun : Section → Cells → Place
begun section cells = if same_cells cells (line_of section ∷ []) then place.Line section else place.Wrong

-- what a record is after a section's header: a row with a cell for each column, which stands in one line, or the line of the
-- next section
abbrev pub inside : Section → Cells → Place
inside section cells = if (length cells == length (columns_of section)) && is_line cells then place.Row section else begun (next_of section) cells

-- what the record after another is
abbrev pub place_after : Place → Cells → Place
place_after place.Front cells = begun s.History cells
place_after (place.Line section) cells = if same_cells cells (columns_of section) then place.Header section else place.Wrong
place_after (place.Header section) cells = inside section cells
place_after (place.Row section) cells = inside section cells
place_after place.Wrong cells = place.Wrong

-- the names of the items that a page is asked to show
abbrev pub Names : Type 0
Names = List (Bor (List ℕ))

-- a name is among these
abbrev pub is_among : Names → List ℕ → Bool
is_among items name = list_any (λ item. same_text item.now name) items

-- whether a page should show a row of a section: if items are named, only rows of these items
abbrev pub wants : Names → Section → Cells → Bool
wants items section cells =
    if (length items == 0) || not (is_of_items section) then true
    else is_among items (slice_index_or cells 0 [])

-- whether a record is a row that a page should show
abbrev pub is_wanted : Names → Place → Cells → Bool
is_wanted items (place.Row section) cells = wants items section cells
is_wanted items _ cells = false

-- a plan's row says that an order starts in its week
abbrev pub starts_order : Section → Cells → Bool
starts_order section cells = is_plan section && not (same_text (slice_index_or cells 6 []) (codes "0"))

-- the same for a record
abbrev pub starts_at : Place → Cells → Bool
starts_at (place.Row section) cells = starts_order section cells
starts_at _ cells = false

abbrev pub is_run : Section → Bool
is_run s.Run = true
is_run _ = false

abbrev pub is_loads : Section → Bool
is_loads s.Loads = true
is_loads _ = false

-- a run begins with the line of the section `run`
abbrev pub begins_run : Place → Bool
begins_run (place.Line section) = is_run section
begins_run _ = false

abbrev pub is_wrong : Place → Bool
is_wrong place.Wrong = true
is_wrong _ = false

-- a day may end in the last section of a report
abbrev pub is_end : Place → Bool
is_end (place.Header section) = is_loads section
is_end (place.Row section) = is_loads section
is_end _ = false

abbrev pub is_row : Place → Bool
is_row (place.Row section) = true
is_row _ = false

-- the spot before the first record
abbrev pub start : Spot
start = record { place = place.Front; run = 0; taken = 0; missed = 0; items = 0; urgent = 0; weeks = 0; takes = None }

-- how many runs have begun at a place; the count saturates
abbrev pub run_at : ℕ → Place → ℕ
run_at run here = if begins_run here then min (run + 1) (2 ^ 64 - 1) else run

-- a count of rows, plus one if `more`; it starts again from 0 at a record that is no row, and saturates
abbrev pub counted : Bool → ℕ → Bool → ℕ
counted row count more = if row then min (count + (if more then 1 else 0)) (2 ^ 64 - 1) else 0

-- a record is not of the same item, or work centre, as the row before it, given whether its first cell is that of the
-- record before it
abbrev pub leads_if : Spot → Bool → Bool
leads_if spot same = not (is_row spot.place && same)

-- the same, given the first cell of the record before it
abbrev pub leads : Spot → List ℕ → Cells → Bool
leads spot last cells = leads_if spot (same_text last (slice_index_or cells 0 []))

-- how many rows were taken of an item, or work centre, with one more if it is taken
abbrev pub weeks_with : ℕ → Bool → Bool → ℕ
weeks_with weeks leads takes = if takes then (if leads then 1 else min (weeks + 1) (2 ^ 64 - 1)) else 0

-- a page has room for a row of a section after a spot: while the section is not full; for the first items; for the
-- first items with an order that starts in the first week; and for the other weeks of an item that it has begun, as many as
-- a plan may have
abbrev pub has_room : Section → Spot → Bool → Bool → Bool
has_room section spot leads urgent =
    nat_lt spot.taken (room_of section)
    || (if leads then nat_lt spot.items (items_of section) || (urgent && nat_lt spot.urgent MOST_ITEMS)
    else is_by_weeks section && (is_some spot.takes && nat_lt spot.weeks MOST_WEEKS))

-- the same for a record
abbrev pub room_at : Place → Spot → Bool → Bool → Bool
room_at (place.Row section) spot leads urgent = has_room section spot leads urgent
room_at _ spot leads urgent = false

-- the section of a row that is taken
abbrev pub section_if : Bool → Place → Option Section
section_if true (place.Row section) = Some section
section_if _ _ = None

-- the spot after another, with a row that is taken or missed
abbrev pub spot_with : Spot → Place → Bool → Bool → Bool → Bool → Spot
spot_with spot here wanted leads urgent takes = record {
  place = here;
  run = run_at spot.run here;
  taken = counted (is_row here) spot.taken takes;
  missed = counted (is_row here) spot.missed (wanted && not takes);
  items = counted (is_row here) spot.items leads;
  urgent = counted (is_row here) spot.urgent urgent;
  weeks = weeks_with spot.weeks leads takes;
  takes = section_if takes here;
}

-- the spot after another, with a row that leads those of an item or does not
abbrev pub spot_of : Spot → Place → Bool → Bool → Bool → Spot
spot_of spot here wanted leads urgent = spot_with spot here wanted leads urgent (wanted && room_at here spot leads urgent)

-- the spot after another, with a row that the page should show or should not
abbrev pub spot_where : Spot → Place → Bool → Bool → Cells → Spot
spot_where spot here wanted leads cells = spot_of spot here wanted leads (leads && starts_at here cells)

-- the spot of a record with this place, after a spot, given whether its first cell is that of the record there
abbrev pub spot_if : Names → Spot → Place → Bool → Cells → Spot
spot_if items spot here same cells = spot_where spot here (is_wanted items here cells) (is_wanted items here cells && leads_if spot same) cells

-- the same, given the first cell of the record there
abbrev pub spot_at : Names → Spot → Place → List ℕ → Cells → Spot
spot_at items spot here last cells = spot_if items spot here (same_text last (slice_index_or cells 0 [])) cells

-- where the next record stands
abbrev pub after : Names → Spot → List ℕ → Cells → Spot
after items spot last cells = spot_at items spot (place_after spot.place cells) last cells

-- what the last of these records is, after another
unfoldable pub place_from : Place → List Cells → Place
place_from here [] = here
place_from here (cells ∷ rest) = place_from (place_after here cells) rest

-- what the last of these records is
abbrev pub place_of : List Cells → Place
place_of records = place_from place.Front records
