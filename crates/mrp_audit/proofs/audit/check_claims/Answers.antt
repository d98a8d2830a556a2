use Rattle.std.proofs.Common.{◌≡◌, ℕ, List, Err, Result, drop, rules, subst, sym}
use Rattle.std.specs.Prelude.{⊤}
use Rattle.mrp_claims.specs.declared.claim.Claim.{Claim}
use Rattle.mrp_audit.specs.declared.fault.AuditFault.{AuditFault}
use Rattle.mrp_audit.specs.Parts.{ComparesHistory, FollowsClaims}
use Rattle.mrp_audit.specs.Verdict.{IsToldBy, JudgesText}
use Rattle.mrp_audit.proofs.Judged.{judged, unshaped, untold}
use Rattle.mrp_audit.proofs.audit.check_claims.Goals as goal

pub returns-in_err-given : goal.returns-in_err-given
returns-in_err-given g c =
    let fails : c.from_residual.result ≡ Err c.in_err-given.field-0.0 = search rules in
    subst (λ (r : Result ⊤ AuditFault). JudgesText c.args.shop.tables c.args.text.now r) (sym fails) (unshaped c.args.text.now c.args.shop.tables c.in_err-given.field-0.0 c.in_err-given.ensures)

pub returns-in_err-history : goal.returns-in_err-history
returns-in_err-history g c =
    let t = c.args.shop.tables in
    let claims = c.in_ok-given.given.claims.items in
    let fails : c.from_residual-in_err-history.result ≡ Err c.in_err-history.field-0.0 = search rules in
    let untrue : FollowsClaims t claims (Err c.in_err-history.field-0.0) = subst (λ (x : List Claim). FollowsClaims t x (Err c.in_err-history.field-0.0)) c.deref.ensures.value c.in_err-history.ensures in
    subst (λ (r : Result ⊤ AuditFault). JudgesText t c.args.text.now r) (sym fails)
    (untold c.args.text.now t claims (drop c.in_ok-given.given.len c.args.text.now) c.in_err-history.field-0.0 c.in_ok-given.ensures.1 untrue)

pub returns : goal.returns
returns g c =
    let t = c.args.shop.tables in
    let claims = c.in_ok-given.given.claims.items in
    let h = c.in_ok-history.history.entries in
    let told : IsToldBy t h claims = subst (λ (x : List Claim). IsToldBy t h x) c.deref.ensures.value c.in_ok-history.ensures.1 in
    let compared : ComparesHistory t h (drop c.in_ok-given.given.len c.args.text.now) c.check_history.result = subst (λ (x : List ℕ). ComparesHistory t h x c.check_history.result) c.split_at.ensures.back c.check_history.ensures in
    judged c.args.text.now t claims h (drop c.in_ok-given.given.len c.args.text.now) c.check_history.result c.in_ok-given.ensures.1 told compared
