-- What accepted tables guarantee and the texts of their days depend on (profile).
use Rattle.std.specs.Prelude.{◌≤◌, All, length}
use Rattle.mrp_cal.specs.declared.calendar.TheConstants.{MOST_WEEKS}
use Rattle.mrp_tables.specs.declared.limits.TheConstants.{MOST_ROWS}
use Rattle.mrp_tables.specs.Facts.{AllDiffer, IsScriptRow}
use Rattle.mrp_tables.specs.Items.{names_of}
use Rattle.mrp_tables.specs.Tables.{Tables}
use Rattle.mrp_master.specs.Supply.{IsSupply, supply_of}

-- items and weeks that distinguish the records of a history, a script whose calls fit the tables, and a supply within
-- limits
pub record KeepsLimits (t : Tables) : Type 0 where
  pub names : AllDiffer (names_of t.items)
  pub weeks : t.calendar.weeks ≤ MOST_WEEKS
  pub script : All (IsScriptRow t.calendar.weeks t.items) t.script
  pub few : length t.script ≤ MOST_ROWS
  pub supply : IsSupply (supply_of t)
