-- Whether tables can be those of a day, by what is kept of it.
use Rattle.std.specs.Prelude.{ℕ, ◌==◌, ◌-◌, ◌&&◌, ◌||◌, not, Bool, true, is_some, List, [], codes, count_by, length, Option, Some, None, if◌then◌else◌}
use Rattle.std.specs.List.{list_all, range_with_len, slice_index_or}
use Rattle.mrp_day.specs.declared.section.Section.TheVariants as s
use Rattle.mrp_facts.specs.Facts.{Facts, item_facts}
use Rattle.mrp_facts.specs.Shape.{can_be}
use Rattle.mrp_facts.specs.declared.shape.DayShape.{DayShape}
use Rattle.mrp_page.specs.Amounts.{amount}
use Rattle.mrp_page.specs.Draw.{has_none}
use Rattle.mrp_page.specs.Frame.{last_week}
use Rattle.mrp_page.specs.Notes.{Noted}
use Rattle.mrp_page.specs.Row.{RowView, cell_at, is_of}
use Rattle.mrp_page.specs.Rows.{rows_in}
use Rattle.mrp_page.specs.Spot.{Names}
use Rattle.mrp_page.specs.Template.{has_word}

-- two pegs have the same item, and the same texts in two columns
abbrev pub is_same : ℕ → ℕ → RowView → RowView → Bool
is_same kind number peg other = is_of (cell_at peg 0) other && (has_word kind (cell_at peg kind) other && has_word number (cell_at peg number) other)

-- the peg at a place
abbrev pub peg_at : List RowView → ℕ → RowView
peg_at pegs place = slice_index_or pegs place (record { section = s.Pegs; cells = [] })

-- a peg has a word in a column, and is of another supply or requirement than the peg before it
abbrev pub begins_at : List RowView → ℕ → List ℕ → ℕ → ℕ → Bool
begins_at pegs kind word number place = has_word kind word (peg_at pegs place) && ((place == 0) || not (is_same kind number (peg_at pegs (place - 1)) (peg_at pegs place)))

-- how many supplies or requirements with a word have pegs, whose pegs stand together
abbrev pub numbers_of : List RowView → ℕ → List ℕ → ℕ → ℕ
numbers_of pegs kind word number = count_by (begins_at pegs kind word number) (range_with_len 0 (length pegs))

-- a count, if it is known
abbrev pub known_if : Bool → ℕ → Option ℕ
known_if known count = if known then Some count else None

-- the weeks of a report, if it has a plan or loads
abbrev pub weeks_of : List RowView → Option ℕ
weeks_of report = known_if (not (has_none (rows_in s.Plan report)) || not (has_none (rows_in s.Loads report))) (amount (last_week report))

-- how many orders are firm
abbrev pub firm_count : List RowView → ℕ
firm_count orders = count_by (has_word 2 (codes "firm")) orders

-- all rows of a section are kept, given whether those of all items are asked for
abbrev pub are_all : Bool → ℕ → Bool
are_all all missed = all && (missed == 0)

-- what is known of a day's tables by what is kept of it: the items and the firm rows, receipts and service rows, which have
-- orders and pegs, where those of all items are kept; and the weeks
abbrev pub shape_of : Bool → Noted → DayShape
shape_of all notes = record {
  items = known_if all notes.counts.items;
  weeks = weeks_of notes.report;
  firm_rows = known_if (are_all all notes.counts.orders) (firm_count (rows_in s.Orders notes.report));
  receipts = known_if (are_all all notes.counts.pegs) (numbers_of (rows_in s.Pegs notes.report) 6 (codes "open") 7);
  service_rows = known_if (are_all all notes.counts.pegs) (numbers_of (rows_in s.Pegs notes.report) 2 (codes "service") 3);
}

-- the tables have the item of a row
abbrev pub has_item : Facts → RowView → Bool
has_item facts row = is_some (item_facts facts.tables (cell_at row 0))

-- tables can be those of a day of which this is kept; without tables nothing speaks against it
abbrev pub fits : Option Facts → Names → Noted → Bool
fits None items notes = true
fits (Some facts) items notes = can_be facts.tables (shape_of (length items == 0) notes) && list_all (has_item facts) (rows_in s.Plan notes.report)
