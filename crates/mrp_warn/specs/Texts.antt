-- What the texts of accepted tables say that the tables don't keep (profile).
use Rattle.std.specs.Prelude.{ℕ, ◌≡◌, nat_eq, if◌then◌else◌, Bool, List, [], ◌∷◌, codes, length, map, slice_index_or, Option, Some, None, Ok}
use Rattle.std.specs.Result.{result_unwrap_or}
use Rattle.std.specs.Cmp.Lexicographic.{pointwise}
use Rattle.mrp_qty.specs.Digits.{number_of}
use Rattle.mrp_rows.specs.Bundle.{text_in}
use Rattle.mrp_rows.specs.Columns.{layout_of, width}
use Rattle.mrp_rows.specs.declared.fault.Table.TheVariants as t
use Rattle.mrp_rows.specs.Left.{Cells, Left}
use Rattle.mrp_rows.specs.Next.{opened}
use Rattle.mrp_tables.specs.declared.limits.TheConstants.{MOST_PIECES}
use Rattle.mrp_tables.specs.Tables.{Tables}
use Rattle.mrp_tables.specs.Versions.{items_layout}
use Rattle.mrp_master.specs.Supply.{supply_of}
use Rattle.mrp_book.specs.History.{IsLegal, asked}
use Rattle.mrp_script.specs.Script.{script_of}
use Rattle.mrp_warn.specs.Inspection.{Inspected}

-- the lot size in a record of the items: the number in its sixth cell
abbrev pub size_in : List (List ℕ) → ℕ
size_in cells = result_unwrap_or (number_of MOST_PIECES (slice_index_or cells 5 [])) 0

-- a record of the calendar is its version
abbrev pub is_version : List (List ℕ) → Bool
is_version cells = pointwise nat_eq (slice_index_or cells 0 []) (codes "version")

-- the place of the workdays among the calendar's records: behind the start and the weeks, and a version that comes first
abbrev pub workdays_among : List (List (List ℕ)) → ℕ
workdays_among [] = 2
workdays_among (first ∷ records) = if is_version first then 3 else 2

-- the next of the records that were left, which has a cell for each column; none at the end
abbrev pub TakesWide : Left → Option Cells → Left → Type 0
TakesWide old None new = old.left ≡ []
TakesWide old (Some r) new = (old.left ≡ r.cells ∷ new.left) × (length r.cells ≡ width old.layout) × (new.layout ≡ old.layout)

-- what is looked at beside accepted tables: the history that answers their script in row order, and what their texts say
pub record Inspects (texts : List (List ℕ)) (tables : Tables) (i : Inspected) : Type 0 where
  pub tables_are : i.tables ≡ tables
  pub legal : IsLegal (supply_of tables) i.history
  pub in_order : asked i.history ≡ script_of tables
  pub items : Left
  pub items_are : opened (items_layout tables.version) (text_in texts t.Items) ≡ Ok items
  pub sizes : i.sizes ≡ map size_in items.left
  pub calendar : Left
  pub calendar_is : opened (layout_of t.Calendar) (text_in texts t.Calendar) ≡ Ok calendar
  pub workdays : i.workdays ≡ workdays_among calendar.left
