-- Which columns of a day the rows of a record and of a work centre show.
use Rattle.mrp_facts.specs.Facts.{Facts}
use Rattle.std.proofs.Common.{Option, ◌≡◌, Bool, true, false, List, [], ◌∷◌, ◌++◌, ℕ, codes, drop, take, refl, ap, ap₂}
use Rattle.std.specs.List.{flat_map}
use Rattle.mrp_page.specs.Columns.{column}
use Rattle.mrp_page.specs.Centres.{all_loads, later_loads, loads_html, loads_table, shares_html, times_html}
use Rattle.mrp_page.specs.Pictured.{bars_html}
use Rattle.mrp_page.specs.Draw.{all_weeks, amounts_html, booked_html, later_record, measure_html, named_record, planned_html, points_html, promised_html, record_or_none, record_rows, record_table, supplies_html, table_html}
use Rattle.mrp_page.specs.ItemRows.{item_lists}
use Rattle.mrp_page.specs.layout.Centres.{above_bar, above_end, capacity_label, cut_bar, hot_bar, hot_end, load_label, low_bar, low_end, over_label}
use Rattle.mrp_page.specs.layout.Lists.{grid_end, rest_end}
use Rattle.mrp_page.specs.layout.Records.{available_label, balance_label, booked_label, firm_label, gross_label, later_open, planned_label, point, points_end, scheduled_label, starts_label}
use Rattle.mrp_page.specs.Pictures.{drawn_balance}
use Rattle.mrp_page.specs.Row.{RowView}
use Rattle.mrp_page.specs.Rows.{rows_in, rows_named}
use Rattle.mrp_page.specs.Template.{row_html, rows_html}
use Rattle.mrp_page.specs.declared.limits.TheConstants.{TABLE_WEEKS}
use Rattle.mrp_day.specs.declared.section.Section.TheVariants as s
use Rattle.mrp_page.proofs.Folds.{some-rows}

pub record-is : (tables : Option Facts) (report : List RowView) (name : List ℕ) → named_record tables (item_lists report) name ≡ record_or_none tables name (rows_named name (rows_in s.Plan report)) (rows_named name (rows_in s.Promises report))
unfolding named_record
record-is tables report name = refl

pub needs-are : (scheduled : Bool) (plan promises : List RowView) → record_rows scheduled plan promises ≡ amounts_html gross_label (column s.Plan (codes "gross")) plan ++ (supplies_html scheduled plan ++ (planned_html plan ++ promised_html promises))
unfolding record_rows
needs-are scheduled plan promises = refl

pub scheduled-are : (plan : List RowView) → supplies_html true plan ≡ amounts_html scheduled_label (column s.Plan (codes "open")) plan
unfolding supplies_html
scheduled-are plan = refl

pub firm-are : (plan : List RowView) → supplies_html false plan ≡ amounts_html firm_label (column s.Plan (codes "firm")) plan
unfolding supplies_html
firm-are plan = refl

pub planned-is : (plan : List RowView) → planned_html plan ≡ amounts_html planned_label (column s.Plan (codes "planned")) plan ++ (amounts_html starts_label (column s.Plan (codes "start")) plan ++ measure_html balance_label (column s.Plan (codes "balance")) plan)
unfolding planned_html
planned-is plan = refl

pub booked-is : (promises : List RowView) → booked_html promises ≡ amounts_html booked_label (column s.Promises (codes "booked")) promises ++ measure_html available_label (column s.Promises (codes "available")) promises
unfolding booked_html
booked-is promises = refl

pub loads-are : (rows : List RowView) → loads_html rows ≡ times_html load_label (column s.Loads (codes "load")) rows ++ (times_html capacity_label (column s.Loads (codes "capacity")) rows ++ (shares_html rows ++ (times_html over_label (column s.Loads (codes "over")) rows ++ grid_end)))
unfolding loads_html
loads-are rows = refl

-- the weeks of the first table, and those that are folded
pub weeks-are : (tables : Option Facts) (frame : RowView) (scheduled : Bool) (plan promises : List RowView) → all_weeks tables frame scheduled plan promises ≡ record_table tables frame scheduled (take TABLE_WEEKS plan) (take TABLE_WEEKS promises) ++ later_record tables frame scheduled (drop TABLE_WEEKS plan) (drop TABLE_WEEKS promises)
unfolding all_weeks
weeks-are tables frame scheduled plan promises = refl

pub load-weeks-are : (tables : Option Facts) (frame : RowView) (rows : List RowView) → all_loads tables frame rows ≡ loads_table tables frame (take TABLE_WEEKS rows) ++ later_loads tables frame (drop TABLE_WEEKS rows)
unfolding all_loads
load-weeks-are tables frame rows = refl

pub later-is : (tables : Option Facts) (frame : RowView) (scheduled : Bool) (r : RowView) (plan promises : List RowView) → later_record tables frame scheduled (r ∷ plan) promises ≡ later_open ++ (record_table tables frame scheduled (r ∷ plan) promises ++ rest_end)
unfolding later_record
later-is tables frame scheduled r plan promises = rw (some-rows r plan) refl

pub later-loads-are : (tables : Option Facts) (frame r : RowView) (rows : List RowView) → later_loads tables frame (r ∷ rows) ≡ later_open ++ (loads_table tables frame (r ∷ rows) ++ rest_end)
unfolding later_loads
later-loads-are tables frame r rows = rw (some-rows r rows) refl

drawn-same : {X : Type 0} (f g : X → List ℕ) → ((x : X) → f x ≡ g x) → (xs : List X) → flat_map f xs ≡ flat_map g xs
drawn-same f g same [] = refl
drawn-same f g same (x ∷ xs) = ap₂ (λ (a b : List ℕ). a ++ b) (same x) (drawn-same f g same xs)

pub bars-are : (shares : List RowView) → bars_html shares ≡ (flat_map (row_html low_bar) shares ++ low_end) ++ ((flat_map (row_html hot_bar) shares ++ hot_end) ++ ((flat_map (row_html above_bar) shares ++ above_end) ++ flat_map (row_html cut_bar) shares))
unfolding bars_html table_html rows_html
bars-are shares = refl

point-is : (row : RowView) → row_html point row ≡ drawn_balance row
unfolding row_html point
point-is row = refl

pub balances-are : (rows : List RowView) → points_html rows ≡ flat_map drawn_balance rows ++ points_end
unfolding points_html table_html rows_html
balances-are rows = ap (λ (t : List ℕ). t ++ points_end) (drawn-same (row_html point) drawn_balance point-is rows)
