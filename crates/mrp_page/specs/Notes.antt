-- What is kept of a day while it is read.
use Rattle.std.specs.Prelude.{ℕ, Bool, true, ◌&&◌, ◌||◌, ◌==◌, ◌++◌, List, [], ◌∷◌, Option, Some, None, is_some, not, nat_le, slice_index_or, if◌then◌else◌}
use Rattle.mrp_day.specs.declared.section.Section.{Section}
use Rattle.mrp_day.specs.declared.section.Section.TheVariants as s
use Rattle.mrp_page.specs.declared.counts.Counts.{Counts}
use Rattle.mrp_page.specs.declared.spot.Place.{Place}
use Rattle.mrp_page.specs.declared.spot.Place.TheVariants as place
use Rattle.mrp_page.specs.declared.spot.Spot.{Spot}
use Rattle.mrp_page.specs.Counts.{none_counted}
use Rattle.mrp_page.specs.Row.{Cells, RowView}
use Rattle.mrp_page.specs.Section.{is_history}
use Rattle.mrp_page.specs.Spot.{Names, after, begins_run, start}

-- where the last record stands, its first cell, the rows that were taken, and how many were not taken
pub record Noted : Type 0 where
  pub spot : Spot
  pub last : List ℕ
  pub history : List RowView
  pub report : List RowView
  pub counts : Counts

abbrev pub none_noted : Noted
none_noted = record { spot = start; last = []; history = []; report = []; counts = none_counted }

-- a run is the one asked for: by its number, or as the last so far
abbrev pub is_shown : Option ℕ → ℕ → Bool
is_shown None run = true
is_shown (Some number) run = number == run

-- the row of the history that a record is, if it is one
abbrev pub history_rows : Option Section → Cells → List RowView
history_rows None cells = []
history_rows (Some section) cells = if is_history section then record { section = section; cells = cells } ∷ [] else []

abbrev pub rows_taken : Bool → Option Section → Cells → List RowView
rows_taken shown None cells = []
rows_taken shown (Some section) cells = if not (is_history section) && shown then record { section = section; cells = cells } ∷ [] else []

-- the row of the report that a record is, if it is one of the run that is shown
abbrev pub report_rows : Option ℕ → Spot → Cells → List RowView
report_rows asked spot cells = rows_taken (is_shown asked spot.run) spot.takes cells

-- the rows of the report that stay: none of them if the last run is asked for and another one begins
abbrev pub rows_left : Option ℕ → Spot → List RowView → List RowView
rows_left asked spot rows = if not (is_some asked) && begins_run spot.place then [] else rows

-- the counts of a section at a spot in it
abbrev pub counts_of : Section → Spot → Counts → Counts
counts_of s.History spot counts = record counts { history = spot.missed }
counts_of s.Run spot counts = counts
counts_of s.Promises spot counts = record counts { promises = spot.missed }
counts_of s.Plan spot counts = record counts { plan = spot.missed; items = spot.items }
counts_of s.Orders spot counts = record counts { orders = spot.missed }
counts_of s.Pegs spot counts = record counts { pegs = spot.missed }
counts_of s.Messages spot counts = record counts { messages = spot.missed }
counts_of s.Loads spot counts = record counts { loads = spot.missed }

-- the same, if the section is the history or in the run that is shown
abbrev pub counts_if : Bool → Section → Spot → Counts → Counts
counts_if holds section spot counts = if holds then counts_of section spot counts else counts

-- the counts at a place; those of a section start again at its header
abbrev pub counts_at : Option ℕ → Spot → Place → Counts → Counts
counts_at asked spot (place.Header section) counts = counts_if (is_history section || is_shown asked spot.run) section spot counts
counts_at asked spot (place.Row section) counts = counts_if (is_history section || is_shown asked spot.run) section spot counts
counts_at asked spot _ counts = counts

abbrev pub noted_at : Option ℕ → Spot → Noted → Cells → Noted
noted_at asked spot before cells = record {
  spot = spot;
  last = slice_index_or cells 0 [];
  history = before.history ++ history_rows spot.takes cells;
  report = rows_left asked spot before.report ++ report_rows asked spot cells;
  counts = counts_at asked spot spot.place before.counts;
}

-- what is kept with one more record
abbrev pub noted : Names → Option ℕ → Noted → Cells → Noted
noted items asked before cells = noted_at asked (after items before.spot before.last cells) before cells

-- what is kept with these records after it
unfoldable pub noted_from : Names → Option ℕ → Noted → List Cells → Noted
noted_from items asked before [] = before
noted_from items asked before (cells ∷ rest) = noted_from items asked (noted items asked before cells) rest

-- what is kept of all these records
abbrev pub notes_of : Names → Option ℕ → List Cells → Noted
notes_of items asked records = noted_from items asked none_noted records

-- the run asked for has begun; each day has a last run
abbrev pub has_run : Option ℕ → ℕ → Bool
has_run None runs = true
has_run (Some number) runs = nat_le 1 number && nat_le number runs
