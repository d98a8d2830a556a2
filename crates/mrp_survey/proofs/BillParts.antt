-- Records in two parts are all records.
use Rattle.std.proofs.Common.{◌≡◌, ◌∙◌, ◌-◌, ℕ, List, [], ◌++◌, drop, sym, ap}
use Rattle.mrp_survey.specs.declared.bill_lines.BillLine.{BillLine}
use Rattle.mrp_survey.specs.declared.bill_lines.BillsTold.{BillsTold}
use Rattle.mrp_survey.specs.declared.form.Form.{Form}
use Rattle.mrp_survey.specs.declared.rule.Beside.{Beside}
use Rattle.mrp_survey.specs.BillLines.{bill_lines, lines_from}
use Rattle.mrp_survey.specs.BillParts.{TellsBack, TellsFront, bills_told, lines_left, unless}
use Rattle.mrp_survey.specs.Finding.{Told}
use Rattle.mrp_survey.specs.Forms.{AllCells}
use Rattle.mrp_survey.specs.Headers.{limit_of}
use Rattle.mrp_survey.specs.Records.{Records}
use Rattle.mrp_survey.specs.Tables.{told_from}
use Rattle.mrp_survey.proofs.BillSteps.{behind-same, left-first}

module _ (form : Form) (beside : Beside) (records : Records) (before : List Told) (past : ℕ) (rows again : List AllCells) (front back : BillsTold) (same : again ≡ rows) where
  pub both-told : TellsFront form beside records before rows past front → TellsBack form beside records again past back → front.findings.items ++ unless front.is_end back.findings.items ≡ before ++ told_from form beside records [] 1 rows
  both-told (rest, ahead) behind =
      ap (λ (ts : List Told). front.findings.items ++ ts)
      (behind-same front.is_end back.findings.items (bills_told form beside records past rest)
      (λ e. behind.told ∙ ap (λ (rs : List AllCells). bills_told form beside records past (drop (past - 1) rs)) same ∙ ap (bills_told form beside records past) (sym (ahead.left e))))
      ∙ sym ahead.told

  pub both-lines : TellsFront form beside records before rows past front → TellsBack form beside records again past back → front.lines.items ++ unless front.is_end back.lines.items ≡ bill_lines form beside.items records rows
  both-lines (rest, ahead) behind =
      ap (λ (ls : List BillLine). front.lines.items ++ ls)
      (behind-same front.is_end back.lines.items (lines_left form beside.items records past rest)
      (λ e. behind.lines ∙ ap (λ (rs : List AllCells). lines_left form beside.items records past (drop (past - 1) rs)) same ∙ ap (lines_left form beside.items records past) (sym (ahead.left e))))
      ∙ sym ahead.lines
      ∙ ap (λ (rs : List AllCells). lines_from form beside.items records 1 rs) (sym (left-first (limit_of form) rows))
