use Rattle.std.proofs.Common.{◌≡◌, ◌∙◌, ◌<◌, ◌≤◌, ◌^◌, List, Err, Result, arith, length, rules, subst, sym}
use Rattle.mrp_claims.specs.declared.claim.Claim.{Claim}
use Rattle.mrp_audit.specs.declared.fault.AuditFault.{AuditFault}
use Rattle.mrp_audit.specs.declared.shape.Given.{Given}
use Rattle.mrp_audit.specs.Reading.{ReadsHistory}
use Rattle.mrp_claims.proofs.ReplyWords.{not-word}
use Rattle.mrp_claims.proofs.Rows.{begins}
use Rattle.mrp_audit.proofs.Shapes.{HasRead, headless, not-shaped, read-more, read-none, shape-refused}
use Rattle.mrp_audit.proofs.shape.read_history.Goals as goal

pub returns-then-not-starts_with : goal.returns-then-not-starts_with
returns-then-not-starts_with c =
    let head = c.as_bytes-head.result.now in
    headless c.args.shop.now.tables c.args.text.now head (c.as_bytes-head.ensures.value ∙ c.head.ensures)
    (λ rest is. not-word c.starts_with.result ((begins c.args.text.now head c.starts_with.result c.starts_with.ensures.value).1 rest) c.if-not-starts_with.true is)

pub loop-number-init : goal.loop-number-init
loop-number-init c =
    let t = c.args.shop.now.tables in
    let text = c.args.text.now in
    let head = c.as_bytes-head.result.now in
    let front = (begins text head c.starts_with.result c.starts_with.ensures.value).0 c.if-not-starts_with.false in
    let within : length head ≤ length text = c.starts_with.ensures.bound c.if-not-starts_with.false in
    subst (λ (claims : List Claim). HasRead t text claims 1 (length head)) (sym c.new-claims.ensures.items) (read-none t text head (c.as_bytes-head.ensures.value ∙ c.head.ensures) within front)

pub returns-in_err-desk : goal.returns-in_err-desk
returns-in_err-desk c =
    let t = c.args.shop.now.tables in
    let text = c.args.text.now in
    let number = c.loop-number.number in
    let fails : c.from_residual.result ≡ Err c.in_err-desk.field-0.0 = search rules in
    let few : number < 2 ^ 63 = omega (arith, c.loop-number-test.true) in
    subst (λ (r : Result Given AuditFault). ReadsHistory t text r) (sym fails)
    (shape-refused t text c.split_at.result.1.now c.loop-number.claims.items number c.loop-number.len c.in_err-desk.field-0.0 c.loop-number.invariant few c.split_at.ensures.back
    (not-word c.is_end.result c.is_end.ensures.1 c.if-is_end.false) c.in_err-desk.ensures)

pub loop-number-preserved : goal.loop-number-preserved
loop-number-preserved c =
    let t = c.args.shop.now.tables in
    let old = c.loop-number.claims.items in
    let claim = c.in_ok-desk.field-0-0 in
    let taken = c.in_ok-desk.ensures in
    read-more t c.args.text.now c.split_at.result.1.now old c.push.new.self.items claim c.loop-number.number c.loop-number.len c.in_ok-desk.taken c.loop-number.invariant c.split_at.ensures.back taken.0 taken.1 taken.2
    c.in_ok-push.ensures.items

pub returns-else-is_end-2 : goal.returns-else-is_end-2
returns-else-is_end-2 c =
    let number = c.loop-number.number in
    let few : number < 2 ^ 63 = omega (arith, c.loop-number.auto.number-end) in
    not-shaped c.args.shop.now.tables c.args.text.now c.split_at-2.result.1.now c.loop-number.claims.items number c.loop-number.len c.loop-number.invariant few c.split_at-2.ensures.back
    (not-word c.is_end-2.result c.is_end-2.ensures.1 c.if-is_end-2.false) (λ claim rest count is spelled more few. omega (arith, more, few, c.loop-number-test.false))
