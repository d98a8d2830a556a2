-- What a bundle's version says (profile).
use Rattle.std.specs.Prelude.{ℕ, ◌==◌, Bool, true, false, if◌then◌else◌, List, [], ◌∷◌, codes}
use Rattle.mrp_rows.specs.Columns.{Layout, columns_of, stepped_columns}
use Rattle.mrp_rows.specs.declared.fault.Table.TheVariants as t
use Rattle.mrp_tables.specs.declared.limits.TheConstants as limits
use Rattle.mrp_tables.specs.declared.version.LeadUnit.{LeadUnit}
use Rattle.mrp_tables.specs.declared.version.LeadUnit.TheVariants.{Weeks, ShopDays}
use Rattle.mrp_tables.specs.declared.version.Version.{Version}
use Rattle.mrp_tables.specs.declared.version.Version.TheVariants.{One, Two, Three}

abbrev pub version_of : ℕ → Version
version_of number = if number == 1 then One else if number == 2 then Two else Three

abbrev pub version_number : Version → ℕ
version_number One = 1
version_number Two = 2
version_number Three = 3

-- what lead times are counted in
abbrev pub lead_unit : Version → LeadUnit
lead_unit One = Weeks
lead_unit Two = ShopDays
lead_unit Three = ShopDays

-- the longest lead time
abbrev pub most_lead : Version → ℕ
most_lead One = limits.MOST_LEAD_WEEKS
most_lead Two = limits.MOST_LEAD
most_lead Three = limits.MOST_LEAD

-- whether items have a minimum order quantity and an order multiple
abbrev pub has_steps : Version → Bool
has_steps One = false
has_steps Two = false
has_steps Three = true

-- the columns of the items: two more where they have these
abbrev pub item_columns : Version → List (List ℕ)
item_columns version = if has_steps version then stepped_columns else columns_of t.Items

abbrev pub items_layout : Version → Layout
items_layout version = record { table = t.Items; columns = item_columns version }

-- the words for the kinds of rows of the master schedule, in the order of their places
abbrev pub kind_words : Version → List (List ℕ)
kind_words One = codes "firm" ∷ codes "forecast" ∷ []
kind_words Two = codes "firm" ∷ codes "forecast" ∷ []
kind_words Three = codes "firm" ∷ codes "forecast" ∷ codes "service" ∷ []
