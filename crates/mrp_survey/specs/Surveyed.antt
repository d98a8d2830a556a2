-- What a survey of nine tables says (profile).
use Rattle.std.specs.Prelude.{ℕ, List, Option}
use Rattle.mrp_cal.specs.Calendar.{ShopCalendar}
use Rattle.mrp_rows.specs.declared.fault.Table.{Table}
use Rattle.mrp_tables.specs.declared.version.Version.{Version}
use Rattle.mrp_survey.specs.declared.rule.Beside.{Beside}
use Rattle.mrp_survey.specs.Finding.{Told}
use Rattle.mrp_survey.specs.Names.{Names}

-- a way from an item down bill lines back to it: the file and the record of the first of them, the items, and the lines of the file
pub record LoopTold : Type 0 where
  pub file : Table
  pub number : ℕ
  pub names : List (List ℕ)
  pub lines : List ℕ

-- all faults, and of the tables what their words need
pub record Surveyed : Type 0 where
  pub findings : List Told
  pub loops : List LoopTold
  pub version : Option Version
  pub calendar : Option ShopCalendar
  pub items : Option Names
  pub centres : Option Names

-- what is told of the calendar, the items and the work centres, and what other tables look at
pub record SurveyBegun : Type 0 where
  pub findings : List Told
  pub version : Option Version
  pub beside : Beside
