use Rattle.std.proofs.Common.{◌≡◌, ◌∙◌, Err, Result, rules, subst, sym}
use Rattle.std.specs.Prelude.{⊤}
use Rattle.mrp_audit.specs.Input.{input_fault}
use Rattle.mrp_audit.specs.Kept.{KeepsLimits}
use Rattle.mrp_audit.specs.declared.fault.AuditFault.{AuditFault}
use Rattle.mrp_audit.specs.Verdict.{IsVerdict, Judges, Passes}
use Rattle.mrp_audit.proofs.Judged.{judged-of, unopened}
use Rattle.mrp_audit.proofs.OneVerdict.{one-refusal, one-verdict}
use Rattle.mrp_audit.proofs.RightTexts.{passed, unopened-passes}
use Rattle.mrp_audit.proofs.audit.check.Goals as goal

pub returns-in_err-shop-clause-verdict : goal.returns-in_err-shop-clause-verdict
returns-in_err-shop-clause-verdict g c =
    let fails : c.from_residual.result ≡ Err (input_fault c.in_err-shop.field-0.0) = search rules in
    subst (λ (r : Result ⊤ AuditFault). Judges c.args.input.now c.args.output.now r) (sym fails) (unopened c.args.input.now c.args.output.now c.in_err-shop.field-0.0 c.in_err-shop.ensures)

pub returns-in_err-shop-clause-right : goal.returns-in_err-shop-clause-right
returns-in_err-shop-clause-right g c right =
    let fails : c.from_residual.result ≡ Err (input_fault c.in_err-shop.field-0.0) = search rules in
    subst Passes (sym fails) (unopened-passes c.args.input.now c.args.output.now c.in_err-shop.field-0.0 c.in_err-shop.ensures right)

pub returns-clause-verdict : goal.returns-clause-verdict
returns-clause-verdict g c = judged-of c.args.input.now c.args.output.now c.in_ok-shop.shop.tables c.check_text.result c.in_ok-shop.ensures c.check_text.ensures

pub returns-clause-right : goal.returns-clause-right
returns-clause-right g c right =
    let keeps : KeepsLimits c.in_ok-shop.shop.tables = subst KeepsLimits c.tables.ensures.value c.keep_limits.ensures in
    passed c.args.input.now c.args.output.now c.in_ok-shop.shop.tables c.check_text.result c.in_ok-shop.ensures keeps c.check_text.ensures right

pub returns-in_err-shop-clause-one : goal.returns-in_err-shop-clause-one
returns-in_err-shop-clause-one g c other judges own told =
    let fails : c.from_residual.result ≡ Err (input_fault c.in_err-shop.field-0.0) = search rules in
    fails ∙ one-refusal c.args.input.now c.args.output.now c.in_err-shop.field-0.0 other c.in_err-shop.ensures judges (subst IsVerdict fails own) told

pub returns-clause-one : goal.returns-clause-one
returns-clause-one g c other judges own told =
    let keeps : KeepsLimits c.in_ok-shop.shop.tables = subst KeepsLimits c.tables.ensures.value c.keep_limits.ensures in
    one-verdict c.args.input.now c.args.output.now c.in_ok-shop.shop.tables c.check_text.result other c.in_ok-shop.ensures keeps c.check_text.ensures judges own told
