-- What the numbers of a column are (profile).
use Rattle.std.specs.Prelude.{ℕ, ◌==◌, if◌then◌else◌, List, [], ◌++◌, codes, decimal}
use Rattle.mrp_rows.specs.declared.fault.Table.{Table}
use Rattle.mrp_rows.specs.declared.fault.Table.TheVariants as t
use Rattle.mrp_tables.specs.declared.limits.TheConstants.{MOST_PIECES}
use Rattle.mrp_tables.specs.declared.version.LeadUnit.{LeadUnit}
use Rattle.mrp_tables.specs.declared.version.LeadUnit.TheVariants as unit
use Rattle.mrp_tables.specs.declared.version.TheConstants.{MOST_VERSION}
use Rattle.mrp_tables.specs.declared.version.Version.{Version}
use Rattle.mrp_tables.specs.Versions.{lead_unit}
use Rattle.mrp_advice.specs.declared.measure.Measure.{Measure}
use Rattle.mrp_advice.specs.declared.measure.Measure.TheVariants as measure

-- a version, or weeks
abbrev pub dated_measure : ℕ → Measure
dated_measure most = if most == MOST_VERSION then measure.Version else measure.Weeks

abbrev pub lead_measure : LeadUnit → Measure
lead_measure unit.Weeks = measure.Weeks
lead_measure unit.ShopDays = measure.ShopDays

-- of lot for lot, whose least size is 0, of fixed lots, and of periods
abbrev pub size_measure : ℕ → ℕ → Measure
size_measure least most = if least == 0 then measure.Pieces else if most == MOST_PIECES then measure.Lot else measure.Weeks

abbrev pub item_measure : Version → ℕ → ℕ → ℕ → Measure
item_measure version column least most =
    if column == 2 then lead_measure (lead_unit version)
    else if column == 3 then measure.Scrap
    else if column == 5 then size_measure least most
    else if column == 7 then measure.MinimumOrder
    else if column == 8 then measure.OrderMultiple
    else measure.Pieces

abbrev pub routing_measure : ℕ → Measure
routing_measure column =
    if column == 1 then measure.Operation
    else if column == 3 then measure.Setup
    else if column == 4 then measure.Run
    else measure.Weeks

abbrev pub script_measure : ℕ → Measure
script_measure column =
    if column == 0 then measure.Desk
    else if column == 4 then measure.Pieces
    else measure.Entry

-- what a number in a table's column is, by its limits
abbrev pub measure_of : Version → Table → ℕ → ℕ → ℕ → Measure
measure_of version t.Calendar column least most = dated_measure most
measure_of version t.Items column least most = item_measure version column least most
measure_of version t.Centres column least most = measure.MinutesPerShopDay
measure_of version t.Stock column least most = measure.Pieces
measure_of version t.Receipts column least most = measure.Pieces
measure_of version t.Bills column least most = measure.Per
measure_of version t.Routings column least most = routing_measure column
measure_of version t.Master column least most = measure.Pieces
measure_of version t.Script column least most = script_measure column
measure_of version t.Bundle column least most = measure.Pieces

abbrev pub noun : Measure → List ℕ
noun measure.Version = codes "a version"
noun measure.Weeks = codes "weeks"
noun measure.ShopDays = codes "shop days"
noun measure.Scrap = codes "thousandths"
noun measure.Pieces = codes "pieces"
noun measure.Lot = codes "pieces in a lot"
noun measure.MinimumOrder = codes "a minimum order quantity in pieces"
noun measure.OrderMultiple = codes "an order multiple in pieces"
noun measure.MinutesPerShopDay = codes "minutes on a shop day"
noun measure.Per = codes "pieces in one of the parent"
noun measure.Operation = codes "an operation's number"
noun measure.Setup = codes "minutes"
noun measure.Run = codes "thousandths of a minute"
noun measure.Desk = codes "a desk"
noun measure.Entry = codes "an entry's number"

-- an example, where one helps
abbrev pub example : Measure → List ℕ
example measure.Version = []
example measure.Weeks = []
example measure.ShopDays = []
example measure.Scrap = codes " (25 is 2.5 %)"
example measure.Pieces = []
example measure.Lot = []
example measure.MinimumOrder = []
example measure.OrderMultiple = []
example measure.MinutesPerShopDay = []
example measure.Per = []
example measure.Operation = []
example measure.Setup = []
example measure.Run = codes " (2500 is 2.5 minutes)"
example measure.Desk = []
example measure.Entry = []

-- what a number is, and its limits
abbrev pub limits_words : Measure → ℕ → ℕ → List ℕ
limits_words own least most = noun own ++ (codes ", " ++ (decimal least ++ (codes " to " ++ (decimal most ++ example own))))
