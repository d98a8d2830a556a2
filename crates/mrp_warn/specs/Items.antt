-- What is odd about items (profile).
use Rattle.std.specs.Prelude.{ℕ, ◌==◌, ◌&&◌, Bool, not, nat_le, nat_lt, if◌then◌else◌, List, [], ◌∷◌, ◌++◌, filter, length, map, nat_eq, Option, Some, None}
use Rattle.std.specs.List.{zip}
use Rattle.std.specs.Cmp.Lexicographic.{pointwise}
use Rattle.mrp_cal.specs.Calendar.{ShopCalendar}
use Rattle.mrp_cal.specs.Releases.{first_shop_day}
use Rattle.mrp_tables.specs.declared.item.Item.{Item}
use Rattle.mrp_tables.specs.declared.item.LotRule.{LotRule}
use Rattle.mrp_tables.specs.declared.item.LotRule.TheVariants.{LotForLot, Fixed, Period}
use Rattle.mrp_tables.specs.declared.rows.MasterRow.{MasterRow}
use Rattle.mrp_tables.specs.declared.rows.StockRow.{StockRow}
use Rattle.mrp_tables.specs.declared.version.LeadUnit.{LeadUnit}
use Rattle.mrp_tables.specs.declared.version.LeadUnit.TheVariants.{Weeks, ShopDays}
use Rattle.mrp_tables.specs.Items.{is_master, names_of}
use Rattle.mrp_tables.specs.Tables.{Tables}
use Rattle.mrp_warn.specs.declared.limits.TheConstants as limits
use Rattle.mrp_warn.specs.declared.oddity.Oddity.{Oddity}
use Rattle.mrp_warn.specs.declared.oddity.Oddity.TheVariants.{SmallScrap, LowScrap, IdleSize, IdleLeast, IdleStep, LongLead, Twin, Unused, Unstocked, NoStock, Unplanned}
use Rattle.mrp_warn.specs.declared.oddity.Warning.{Warning}
use Rattle.mrp_warn.specs.Names.{folded, name_at}
use Rattle.mrp_warn.specs.Rows.{earlier, first_likely, is_at, tally, told}

abbrev pub scraps : List Item → List ℕ
scraps items = map (λ i. i.scrap) items

-- scrap of 1 to 9 pieces per thousand; and the first of more, where no item has more than 30
abbrev pub odd_scrap : Option ℕ → ℕ → ℕ → Option Oddity
odd_scrap likely place scrap =
    if nat_lt 0 scrap && nat_lt scrap limits.LIKELY_SCRAP then Some (SmallScrap scrap)
    else if is_at likely place then Some (LowScrap scrap)
    else None

abbrev pub scrap_warnings : List Item → List Warning
scrap_warnings items = told (odd_scrap (first_likely limits.LIKELY_SCRAP limits.LIKELY_MOST_SCRAP (scraps items))) (scraps items)

-- a size of 2 or more pieces, where the lot rule is lot for lot
abbrev pub odd_size : LotRule → ℕ → Option Oddity
odd_size LotForLot size = if nat_lt 1 size then Some (IdleSize size) else None
odd_size (Fixed pieces) size = None
odd_size (Period weeks) size = None

abbrev pub size_warnings : List Item → List ℕ → List Warning
size_warnings items sizes = told (λ _ r. odd_size r.0.lot r.1) (zip items sizes)

-- a minimum order quantity of a piece or more, where lots are fixed
abbrev pub odd_least : LotRule → ℕ → Option Oddity
odd_least LotForLot least = None
odd_least (Fixed pieces) least = if nat_lt 0 least then Some (IdleLeast least) else None
odd_least (Period weeks) least = None

abbrev pub least_warnings : List Item → List Warning
least_warnings items = told (λ _ i. odd_least i.lot i.least) items

-- an order multiple of 2 or more pieces, where lots are fixed
abbrev pub odd_step : LotRule → ℕ → Option Oddity
odd_step LotForLot step = None
odd_step (Fixed pieces) step = if nat_lt 1 step then Some (IdleStep step) else None
odd_step (Period weeks) step = None

abbrev pub step_warnings : List Item → List Warning
step_warnings items = told (λ _ i. odd_step i.lot i.step) items

-- the least lead time with which an order that is due in the last week of the horizon is late, and so any order: as many
-- weeks as the horizon has, or the number of the last week's first shop day
abbrev pub late_from : LeadUnit → ShopCalendar → ℕ
late_from Weeks c = c.weeks
late_from ShopDays c = first_shop_day c c.weeks

abbrev pub odd_lead : LeadUnit → ℕ → ℕ → ℕ → Option Oddity
odd_lead unit weeks late lead = if nat_le late lead then Some (LongLead lead unit weeks) else None

abbrev pub lead_warnings : LeadUnit → ShopCalendar → List Item → List Warning
lead_warnings unit c items = told (λ _ i. odd_lead unit c.weeks (late_from unit c) i.lead) items

-- a name that differs in capitals alone from an earlier one, the first such
abbrev pub twin_of : List ℕ → ℕ → Option (List ℕ) → Option Oddity
twin_of name first None = None
twin_of name first (Some other) = Some (Twin name other first)

abbrev pub odd_name : List Item → List ℕ → Option ℕ → Option Oddity
odd_name items name None = None
odd_name items name (Some first) = twin_of name first (name_at items first)

abbrev pub twin_warnings : List Item → List Warning
twin_warnings items = told (λ _ r. odd_name items r.0.name r.1) (zip items (earlier (pointwise nat_eq) (map folded (names_of items))))

abbrev pub has_pieces : StockRow → Bool
has_pieces row = nat_lt 0 row.on_hand

abbrev pub items_stocked : List StockRow → List ℕ
items_stocked rows = map (λ r. r.item) rows

abbrev pub items_planned : List MasterRow → List ℕ
items_planned rows = map (λ r. r.item) rows

-- the items that the tables do something with: components, and those with pieces on hand, open receipts, or rows of the master
-- schedule, which of a part are its service rows
abbrev pub items_used : Tables → List ℕ
items_used t =
    map (λ l. l.component) t.bills ++ items_stocked (filter has_pieces t.stock) ++ map (λ r. r.item) t.receipts ++ items_planned t.master

-- a part without safety stock that they do nothing with
abbrev pub is_unused : Item → ℕ → Bool
is_unused item used = not (is_master item.class) && (item.safety == 0) && (used == 0)

abbrev pub odd_unused : Item → ℕ → Option Oddity
odd_unused item used = if is_unused item used then Some (Unused item.name) else None

abbrev pub unused_warnings : Tables → List Warning
unused_warnings t = told (λ _ r. odd_unused r.0 r.1) (zip t.items (tally (length t.items) (items_used t)))

-- an item without a record of stock that is not unused
abbrev pub odd_stock : Item → ℕ → ℕ → Option Oddity
odd_stock item used stocked = if (stocked == 0) && not (is_unused item used) then Some (Unstocked item.name) else None

abbrev pub stock_by_item : Tables → List Warning
stock_by_item t = told (λ _ r. odd_stock r.0.0 r.0.1 r.1)
    (zip (zip t.items (tally (length t.items) (items_used t))) (tally (length t.items) (items_stocked t.stock)))

-- none has one: told once, if there are items
abbrev pub no_stock : List Item → List Warning
no_stock [] = []
no_stock (item ∷ items) = record { place = None; oddity = NoStock } ∷ []

abbrev pub stock_warnings_by : Tables → List StockRow → List Warning
stock_warnings_by t [] = no_stock t.items
stock_warnings_by t (row ∷ rows) = stock_by_item t

abbrev pub stock_warnings : Tables → List Warning
stock_warnings t = stock_warnings_by t t.stock

-- a master item without a row of the master schedule
abbrev pub odd_plan : Item → ℕ → Option Oddity
odd_plan item rows = if is_master item.class && (rows == 0) then Some (Unplanned item.name) else None

abbrev pub plan_warnings : Tables → List Warning
plan_warnings t = told (λ _ r. odd_plan r.0 r.1) (zip t.items (tally (length t.items) (items_planned t.master)))
