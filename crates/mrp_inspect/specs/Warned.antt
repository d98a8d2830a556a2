-- The warnings of accepted tables (profile).
use Rattle.std.specs.Prelude.{ℕ, ◌≡◌, List, Ok, Option}
use Rattle.mrp_rows.specs.Bundle.{bundle_of}
use Rattle.mrp_tables.specs.Tables.{Tables}
use Rattle.mrp_script.specs.Opened.{IsAccepted}
use Rattle.mrp_survey.specs.declared.source.Source.{Source}
use Rattle.mrp_warn.specs.declared.sheets.Sheet.{Sheet}
use Rattle.mrp_warn.specs.declared.telling.Group.{Group}
use Rattle.mrp_warn.specs.Inspection.{Inspected}
use Rattle.mrp_warn.specs.Tells.{AreWarnings}
use Rattle.mrp_warn.specs.Texts.{Inspects}
use Rattle.mrp_warn.specs.Words.{text_of}
use Rattle.mrp_inspect.specs.Sheets.{AreSheets}

-- the warnings of a shop, kind by kind: its tables are accepted
pub record AreGroupsOf (bundle : List ℕ) (groups : List Group) : Type 0 where
  pub tables : Tables
  pub accepted : IsAccepted bundle tables
  pub texts : List (List ℕ)
  pub split : bundle_of bundle ≡ Ok texts
  pub seen : Inspected
  pub inspects : Inspects texts tables seen
  pub warnings : AreWarnings seen groups

-- the warnings of a shop: its tables are accepted, and each record that is odd is told with its line
pub record WarnsOf (bundle : List ℕ) (sources : List (Option Source)) (text : List ℕ) : Type 0 where
  pub tables : Tables
  pub accepted : IsAccepted bundle tables
  pub texts : List (List ℕ)
  pub split : bundle_of bundle ≡ Ok texts
  pub seen : Inspected
  pub inspects : Inspects texts tables seen
  pub groups : List Group
  pub warnings : AreWarnings seen groups
  pub sheets : List Sheet
  pub places : AreSheets sources sheets
  pub text_is : text ≡ text_of sheets groups
