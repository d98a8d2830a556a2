-- One fault, and where it is (profile).
use Rattle.std.specs.Prelude.{ℕ}
use Rattle.mrp_rows.specs.declared.fault.Table.{Table}
use Rattle.mrp_survey.specs.declared.finding.What.{What}
use Rattle.mrp_survey.specs.Forms.{Row}

pub record Told : Type 0 where
  pub file : Table
  pub table : Table
  pub number : ℕ
  pub line : ℕ
  pub column : ℕ
  pub what : What
  pub cells : Row
