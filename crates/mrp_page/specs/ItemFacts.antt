-- What the tables say of an item.
use Rattle.std.specs.Prelude.{ℕ, ◌/◌, ◌%◌, ◌||◌, nat_lt, List, [], ◌∷◌, ◌++◌, Option, Some, None, codes, decimal, if◌then◌else◌}
use Rattle.mrp_day.specs.declared.section.Section.TheVariants as s
use Rattle.mrp_tables.specs.declared.item.Class.{Class}
use Rattle.mrp_tables.specs.declared.item.Class.TheVariants.{Master, Part}
use Rattle.mrp_tables.specs.declared.item.Item.{Item}
use Rattle.mrp_tables.specs.declared.item.LotRule.{LotRule}
use Rattle.mrp_tables.specs.declared.item.LotRule.TheVariants.{Fixed, LotForLot, Period}
use Rattle.mrp_tables.specs.declared.version.LeadUnit.{LeadUnit}
use Rattle.mrp_tables.specs.declared.version.LeadUnit.TheVariants.{ShopDays, Weeks}
use Rattle.mrp_tables.specs.Versions.{lead_unit}
use Rattle.mrp_facts.specs.Facts.{Facts, item_facts}
use Rattle.mrp_facts.specs.declared.facts.ItemFacts.{ItemFacts}
use Rattle.mrp_page.specs.Html.{number_html}
use Rattle.mrp_page.specs.layout.Items.{facts_end, facts_open, facts_steps}
use Rattle.mrp_page.specs.layout.Records.{safety_line, safety_scale}
use Rattle.mrp_page.specs.Row.{Cells, RowView, cell_at}
use Rattle.mrp_page.specs.Template.{row_html}

abbrev pub class_word : Class → List ℕ
class_word Master = codes "master"
class_word Part = codes "part"

-- what lead times are counted in
abbrev pub unit_word : LeadUnit → List ℕ
unit_word Weeks = codes "weeks"
unit_word ShopDays = codes "days"

abbrev pub lot_word : LotRule → List ℕ
lot_word LotForLot = codes "lfl"
lot_word (Fixed pieces) = codes "fixed"
lot_word (Period weeks) = codes "period"

-- the size of a lot rule, in pieces or weeks; empty if it has none
abbrev pub size_text : LotRule → List ℕ
size_text LotForLot = []
size_text (Fixed pieces) = decimal pieces
size_text (Period weeks) = decimal weeks

-- the texts of an item's facts; its scrap is in per cent, with one decimal
abbrev pub facts_cells : LeadUnit → ItemFacts → Cells
facts_cells unit own =
    class_word own.item.class ∷ decimal own.item.lead ∷ unit_word unit ∷ lot_word own.item.lot ∷ size_text own.item.lot
    ∷ decimal own.item.least ∷ decimal own.item.step ∷ decimal (own.item.scrap / 10) ∷ decimal (own.item.scrap % 10)
    ∷ decimal own.item.safety ∷ decimal own.on_hand ∷ []

-- the same as a row
unfoldable pub facts_row : LeadUnit → ItemFacts → RowView
facts_row unit own = record { section = s.Run; cells = facts_cells unit own }

-- the minimum order quantity and the order multiple, if the item has one
abbrev pub steps_html : Item → RowView → List ℕ
steps_html item row = if nat_lt 0 item.least || nat_lt 1 item.step then row_html facts_steps row else []

-- the facts of an item
unfoldable pub facts_html : LeadUnit → ItemFacts → List ℕ
facts_html unit own =
    row_html facts_open (facts_row unit own)
    ++ (steps_html own.item (facts_row unit own)
    ++ row_html facts_end (facts_row unit own))

-- those of an item that the tables have
abbrev pub facts_or_none : LeadUnit → Option ItemFacts → List ℕ
facts_or_none unit None = []
facts_or_none unit (Some own) = facts_html unit own

abbrev pub own_facts_html : Facts → List ℕ → List ℕ
own_facts_html facts name = facts_or_none (lead_unit facts.tables.version) (item_facts facts.tables name)

-- what the tables say of an item; nothing without tables
abbrev pub item_facts_html : Option Facts → List ℕ → List ℕ
item_facts_html None name = []
item_facts_html (Some facts) name = own_facts_html facts name

-- the facts of an item, if the tables are given and have it
abbrev pub own_facts : Option Facts → List ℕ → Option ItemFacts
own_facts None name = None
own_facts (Some facts) name = item_facts facts.tables name

-- a dashed line at a safety stock, over the weeks of a frame
abbrev pub safety_line_html : ℕ → RowView → List ℕ
safety_line_html pieces frame = row_html safety_line (record { section = s.Run; cells = decimal pieces ∷ cell_at frame 1 ∷ [] })

-- one at the safety stock of an item, if it has one
abbrev pub own_safety_html : ItemFacts → RowView → List ℕ
own_safety_html own frame = if nat_lt 0 own.item.safety then safety_line_html own.item.safety frame else []

abbrev pub safety_or_none : Option ItemFacts → RowView → List ℕ
safety_or_none None frame = []
safety_or_none (Some own) frame = own_safety_html own frame

-- one at the safety stock of the item of a frame
abbrev pub safety_html : Option Facts → RowView → List ℕ
safety_html tables frame = safety_or_none (own_facts tables (cell_at frame 0)) frame

-- what the scale of a picture says of a safety stock
abbrev pub safety_scale_html : ℕ → List ℕ
safety_scale_html pieces = row_html safety_scale (record { section = s.Run; cells = decimal pieces ∷ [] })

-- the same of an item's, if it has one
abbrev pub own_scale_html : ItemFacts → List ℕ
own_scale_html own = if nat_lt 0 own.item.safety then safety_scale_html own.item.safety else []

abbrev pub scale_or_none : Option ItemFacts → List ℕ
scale_or_none None = []
scale_or_none (Some own) = own_scale_html own

-- the same of the item of a frame
abbrev pub scale_html : Option Facts → RowView → List ℕ
scale_html tables frame = scale_or_none (own_facts tables (cell_at frame 0))

-- a cell with an item's safety stock
abbrev pub safety_cell_or_none : Option ItemFacts → List ℕ
safety_cell_or_none None = codes "<td></td>"
safety_cell_or_none (Some own) = number_html (decimal own.item.safety)

-- the same if the tables are given
abbrev pub safety_cell_html : Option Facts → List ℕ → List ℕ
safety_cell_html None name = []
safety_cell_html (Some facts) name = safety_cell_or_none (item_facts facts.tables name)
