-- Which items a page should show, from all records of a day.
use Rattle.std.specs.Prelude.{ℕ, Bool, false, true, ◌≡◌, ◌≢◌, ◌≤◌, ◌<◌, ◌+◌, ◌^◌, ◌==◌, ◌&&◌, not, List, [], ◌∷◌, ◌++◌, Option, Some, None, length, map, take, slice_index_or, if◌then◌else◌}
use Rattle.std.specs.List.{All, filter, fold, list_any}
use Rattle.mrp_page.specs.declared.limits.TheConstants.{MOST_ITEMS}
use Rattle.mrp_day.specs.declared.section.Section.{Section}
use Rattle.mrp_day.specs.declared.section.Section.TheVariants as s
use Rattle.mrp_page.specs.declared.spot.Place.{Place}
use Rattle.mrp_page.specs.declared.spot.Place.TheVariants as place
use Rattle.mrp_page.specs.Row.{Cells, same_text}
use Rattle.mrp_page.specs.Section.{same_section}
use Rattle.mrp_page.specs.Spot.{Names, begins_run, is_among, place_after}

-- a record that stands here is a row of this section
abbrev pub is_row_of : Section → Place → Bool
is_row_of section (place.Row other) = same_section other section
is_row_of section _ = false

-- how many runs have begun, with a record that stands here
abbrev pub runs_with : ℕ → Place → ℕ
runs_with runs here = if begins_run here then runs + 1 else runs

-- how many runs have begun after these records, if so many had begun at the place before them
unfoldable pub runs_from : ℕ → Place → List Cells → ℕ
runs_from runs here [] = runs
runs_from runs here (cells ∷ rest) = runs_from (runs_with runs (place_after here cells)) (place_after here cells) rest

-- how many runs a day has
abbrev pub runs_of : List Cells → ℕ
runs_of records = runs_from 0 place.Front records

-- the run that a page shows: the one asked for, or the last
abbrev pub run_shown : Option ℕ → List Cells → ℕ
run_shown (Some number) records = number
run_shown None records = runs_of records

abbrev pub row_if : Bool → Cells → List Cells
row_if holds cells = if holds then cells ∷ [] else []

-- the rows of a section in a run, after a place
unfoldable pub rows_from : Section → ℕ → ℕ → Place → List Cells → List Cells
rows_from section run runs here [] = []
rows_from section run runs here (cells ∷ rest) =
    row_if (is_row_of section (place_after here cells) && (runs_with runs (place_after here cells) == run)) cells
    ++ rows_from section run (runs_with runs (place_after here cells)) (place_after here cells) rest

-- the rows of a section in a run of a day
abbrev pub rows_of : Section → ℕ → List Cells → List Cells
rows_of section run records = rows_from section run 0 place.Front records

-- the names of the items that rows belong to, row by row
abbrev pub row_names : List Cells → List (List ℕ)
row_names rows = map (λ cells. slice_index_or cells 0 []) rows

-- a name is among these
abbrev pub has_name : List (List ℕ) → List ℕ → Bool
has_name names name = list_any (same_text name) names

abbrev pub with_name : List (List ℕ) → List ℕ → List (List ℕ)
with_name seen name = if has_name seen name then seen else seen ++ (name ∷ [])

-- names, each once, at its first place
unfoldable pub each_once : List (List ℕ) → List (List ℕ)
each_once names = fold with_name [] names

-- a page should show an item: it is named, or no items are
abbrev pub is_asked : Names → List ℕ → Bool
is_asked items name = if length items == 0 then true else is_among items name

-- the items that rows belong to, in order, as far as a page should show them
unfoldable pub items_in : Names → List Cells → List (List ℕ)
items_in items rows = filter (is_asked items) (each_once (row_names rows))

-- the names that are not among the others
abbrev pub others : List (List ℕ) → List (List ℕ) → List (List ℕ)
others told names = filter (λ name. not (has_name told name)) names

-- the items that a page shows of a run: those with messages first, in the order of the messages, and then
-- the others in the order of the plan
unfoldable pub items_to_show : Names → ℕ → List Cells → List (List ℕ)
items_to_show items run records =
    take MOST_ITEMS (items_in items (rows_of s.Messages run records)
    ++ others (items_in items (rows_of s.Messages run records)) (items_in items (rows_of s.Plan run records)))

-- all items of a run's plan that a page should show
abbrev pub items_of_plan : Names → ℕ → List Cells → List (List ℕ)
items_of_plan items run records = items_in items (rows_of s.Plan run records)

-- rows of one item stand together, and each item has a name
pub record StandTogether (names : List (List ℕ)) : Type 0 where
  pub together : (i j k : ℕ) → i ≤ j → j ≤ k → k < length names → slice_index_or names i [] ≡ slice_index_or names k [] → slice_index_or names j [] ≡ slice_index_or names k []
  pub named : All (λ name. name ≢ []) names

-- a day by items: in each run the rows of an item stand together in the plan and in the messages. It has fewer records
-- than a count can hold
pub record IsByItems (records : List Cells) : Type 0 where
  pub plan : (run : ℕ) → StandTogether (row_names (rows_of s.Plan run records))
  pub messages : (run : ℕ) → StandTogether (row_names (rows_of s.Messages run records))
  pub countable : length records < 2 ^ 64
