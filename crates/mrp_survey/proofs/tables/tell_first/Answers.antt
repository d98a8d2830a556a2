use Rattle.std.proofs.Common.{◌≡◌, ◌∙◌, ◌++◌, List, Result, Vec, ap, ap₂, subst}
use mathlib.Core.List.{append_assoc}
use Rattle.std.specs.Prelude.{IfOk, Some}
use Rattle.std.specs.declared.alloc.Global.{Global}
use Rattle.std.proofs.lemmas.Result.{IfOk-weaker}
use Rattle.mrp_qty.specs.declared.memory.NoMemory.{NoMemory}
use Rattle.mrp_rows.specs.declared.fault.Table.TheVariants as t
use Rattle.mrp_tables.specs.declared.version.Version.TheVariants.{One}
use Rattle.mrp_survey.specs.declared.rule.Beside.{Beside}
use Rattle.mrp_survey.specs.declared.tables.FirstTold.{FirstTold}
use Rattle.mrp_survey.specs.Finding.{Told}
use Rattle.mrp_survey.specs.InTwo.{IsBillsTold, stock_told}
use Rattle.mrp_survey.specs.Survey.{Sources, first_told, versioned_told}
use Rattle.mrp_survey.proofs.tables.tell_first.Goals as goal

-- the stock, the receipts and the bills, one behind the other
first-is : (sources : Sources) (beside : Beside) (old before stock bills : List Told)
    → before ≡ old → stock ≡ stock_told sources beside → bills ≡ versioned_told sources beside t.Bills (Some One) → before ++ stock ++ bills ≡ old ++ first_told sources beside
first-is sources beside old before stock bills same is own =
    let front : before ++ stock ≡ old ++ stock_told sources beside = ap₂ (λ (xs ys : List Told). xs ++ ys) same is in
    ap₂ (λ (xs ys : List Told). xs ++ ys) front own ∙ append_assoc old (stock_told sources beside) (versioned_told sources beside t.Bills (Some One))

pub returns : goal.returns
returns g c =
    let sources = c.args.sources.now in
    let beside = c.args.beside.now in
    let both = c.tell_stock_and_bills-stock in
    let stock : c.in_ok-stock.stock.items ≡ stock_told sources beside = subst (λ (r : Result (Vec Told Global) NoMemory). IfOk r (λ findings. findings.items ≡ stock_told sources beside)) c.in_ok-stock.was both.ensures.stock in
    let bills : IsBillsTold sources beside c.in_ok-bills.bills = subst (λ (r : Result FirstTold NoMemory). IfOk r (IsBillsTold sources beside)) c.in_ok-bills.was both.ensures.bills in
    IfOk-weaker c.put_behind.result _ _
    (λ first is. record {
      findings = is.0 ∙ first-is sources beside c.args.findings.now.items c.replace-before.result.items c.in_ok-stock.stock.items c.in_ok-bills.bills.findings.items (ap (λ (v : Vec Told Global). v.items) c.replace-before.ensures.value) stock bills.findings;
      loops = rw is.1 bills.loops;
    })
    c.put_behind.ensures
