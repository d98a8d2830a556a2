-- The lot rules of the tables (APICS Dictionary: lot sizing).
use Rattle.std.specs.Prelude.{ℕ}
use Rattle.mrp_tables.specs.declared.item.Item.{Item}
use Rattle.mrp_tables.specs.declared.item.LotRule.{LotRule}
use Rattle.mrp_tables.specs.declared.item.LotRule.TheVariants.{LotForLot, Fixed, Period}
use Rattle.mrp_lots.specs.Lots.{Rule, fixed, stepped}

-- with a minimum order quantity and an order multiple, which have no effect on fixed lots
abbrev pub rule_for : LotRule → ℕ → ℕ → Rule
rule_for LotForLot least step = stepped 1 least step
rule_for (Fixed size) least step = fixed size
rule_for (Period n) least step = stepped n least step

-- the rule that an item's lots follow
abbrev pub rule_of : Item → Rule
rule_of item = rule_for item.lot item.least item.step
