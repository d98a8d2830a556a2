-- Supply, cover, and what is available to promise (APICS Dictionary: available-to-promise; profile: its exact rules).
use Rattle.std.specs.Prelude.{ℕ, zero, suc, ◌≡◌, ◌≤◌, ◌+◌, ◌-◌, ◌==◌, ◌&&◌, Bool, false, IsTrue, if◌then◌else◌, min, nat_le, Option, List, [], ◌∷◌, ◌++◌, All, map, filter, sum_by, length}
use Rattle.std.specs.List.{slice_index_or, range_with_len}
use Rattle.mrp_cal.specs.declared.calendar.TheConstants.{MOST_WEEKS}
use Rattle.mrp_qty.specs.Quantity.{greatest_quantity}
use Rattle.mrp_tables.specs.declared.rows.MasterRow.{MasterRow}
use Rattle.mrp_tables.specs.declared.rows.StockRow.{StockRow}
use Rattle.mrp_tables.specs.Items.{is_master}
use Rattle.mrp_tables.specs.Master.{is_firm}
use Rattle.mrp_tables.specs.Tables.{Tables}
use Rattle.mrp_master.specs.declared.line.Line.{Line}
use Rattle.mrp_master.specs.Promising.{Covers, IsGreatest, IsLeastWeek}

-- what available to promise is computed from: the weeks, which items are master items, and of each item its stock on hand
-- and its firm rows
pub record Supply : Type 0 where
  pub weeks : ℕ
  pub masters : List Bool
  pub on_hand : List ℕ
  pub firm : List (List Line)

abbrev pub IsMaster : Supply → ℕ → Type 0
IsMaster s item = IsTrue (slice_index_or s.masters item false)

abbrev pub IsWeek : Supply → ℕ → Type 0
IsWeek s week = (1 ≤ week) × (week ≤ s.weeks)

abbrev pub line : ℕ → ℕ → ℕ → Line
line item week quantity = record { item = item; week = week; quantity = quantity }

-- the quantity of an item that is due up to a week
abbrev pub due_by : ℕ → ℕ → List Line → ℕ
due_by item week lines = sum_by (λ l. if (l.item == item) && nat_le l.week week then l.quantity else 0) lines

-- the supply of an item up to a week: the stock on hand, and the firm rows up to the week
abbrev pub supply : Supply → ℕ → ℕ → ℕ
supply s item week = slice_index_or s.on_hand item 0 + due_by item week (slice_index_or s.firm item [])

-- for each master item, no more is due up to a week than its supply up to that week
abbrev pub IsCovered : Supply → List Line → Type 0
IsCovered s booked = (item : ℕ) → IsMaster s item → Covers (IsWeek s) (supply s item) (λ week. due_by item week booked)

-- available to promise: the greatest quantity that leaves all covered with one more booking
abbrev pub IsAvailable : Supply → List Line → ℕ → ℕ → ℕ → Type 0
IsAvailable s booked item week quantity = IsGreatest (λ more. IsCovered s (booked ++ line item week more ∷ [])) quantity

-- a quantity of an item can be promised in a week
abbrev pub CanPromise : Supply → List Line → ℕ → ℕ → ℕ → Type 0
CanPromise s booked item quantity week = (available : ℕ) × IsAvailable s booked item week available × (quantity ≤ available)

-- the least week in which a quantity can be promised, or none
abbrev pub IsEarliest : Supply → List Line → ℕ → ℕ → Option ℕ → Type 0
IsEarliest s booked item quantity found = IsLeastWeek (IsWeek s) (CanPromise s booked item quantity) found

-- the least value of f from a week to the last one
pub record IsLeastFrom (f : ℕ → ℕ) (week last least : ℕ) : Type 0 where
  pub below : (t : ℕ) → week ≤ t → t ≤ last → least ≤ f t
  pub reached : (t : ℕ) × (week ≤ t) × (t ≤ last) × (f t ≡ least)

-- supply less bookings, up to a week
abbrev pub uncommitted : Supply → List Line → ℕ → ℕ → ℕ
uncommitted s booked item week = supply s item week - due_by item week booked

-- the least value of f in a week and so many weeks after it
unfoldable pub least_from : (ℕ → ℕ) → ℕ → ℕ → ℕ
least_from f week zero = f week
least_from f week (suc more) = min (f week) (least_from f (suc week) more)

-- what is available to promise, as a number: the least of supply less bookings, over the weeks from this one to the last
abbrev pub available : Supply → List Line → ℕ → ℕ → ℕ
available s booked item week = least_from (uncommitted s booked item) week (s.weeks - week)

-- The supply of the tables.

-- the stock on hand of an item; 0 without a stock record
abbrev pub on_hand_of : List StockRow → ℕ → ℕ
on_hand_of rows item = sum_by (λ r. r.on_hand) (filter (λ r. r.item == item) rows)

-- the firm rows of an item
abbrev pub firm_lines : List MasterRow → ℕ → List Line
firm_lines rows item = map (λ r. line r.item r.week r.quantity) (filter (λ r. (r.item == item) && is_firm r.kind) rows)

-- the supply data of the tables
abbrev pub supply_of : Tables → Supply
supply_of t = record {
  weeks = t.calendar.weeks;
  masters = map (λ item. is_master item.class) t.items;
  on_hand = map (on_hand_of t.stock) (range_with_len 0 (length t.items));
  firm = map (firm_lines t.master) (range_with_len 0 (length t.items));
}

-- what holds of the supply of a shop: weeks of a horizon, firm rows in them, and no sum above the greatest quantity
pub record IsSupply (s : Supply) : Type 0 where
  pub first : 1 ≤ s.weeks
  pub last : s.weeks ≤ MOST_WEEKS
  pub inside : (item : ℕ) → All (λ l. IsWeek s l.week) (slice_index_or s.firm item [])
  pub little : (item week : ℕ) → supply s item week ≤ greatest_quantity
