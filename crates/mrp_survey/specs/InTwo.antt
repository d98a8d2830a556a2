-- What is told of the tables from the stock to the bills, which are read beside those behind them.
use Rattle.std.specs.Prelude.{◌≡◌, List, ◌++◌, Some}
use Rattle.mrp_rows.specs.declared.fault.Table.TheVariants as t
use Rattle.mrp_tables.specs.declared.version.Version.TheVariants.{One}
use Rattle.mrp_survey.specs.declared.rule.Beside.{Beside}
use Rattle.mrp_survey.specs.declared.tables.FirstTold.{FirstTold}
use Rattle.mrp_survey.specs.Finding.{Told}
use Rattle.mrp_survey.specs.Survey.{FindsLoopsIn, Sources, first_told, versioned_told}

-- what is told of the stock and the receipts
abbrev pub stock_told : Sources → Beside → List Told
stock_told sources beside = versioned_told sources beside t.Stock (Some One) ++ versioned_told sources beside t.Receipts (Some One)

-- what is told of the bills
pub record IsBillsTold (sources : Sources) (beside : Beside) (bills : FirstTold) : Type 0 where
  pub findings : bills.findings.items ≡ versioned_told sources beside t.Bills (Some One)
  pub loops : FindsLoopsIn sources beside.items bills.loops.items

-- behind what was told before
pub record IsFirstTold (sources : Sources) (beside : Beside) (before : List Told) (first : FirstTold) : Type 0 where
  pub findings : first.findings.items ≡ before ++ first_told sources beside
  pub loops : FindsLoopsIn sources beside.items first.loops.items
