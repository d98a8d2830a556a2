use Rattle.std.proofs.Common.{◌≡◌, Err, Result, arith, rules, subst, sym}
use Rattle.mrp_book.specs.Books.{OrderBook}
use Rattle.mrp_audit.specs.declared.fault.AuditFault.{AuditFault}
use Rattle.mrp_audit.specs.Parts.{FollowsClaims}
use Rattle.mrp_audit.proofs.Traces.{claims-followed, claims-refused}
use Rattle.mrp_audit.proofs.history.history_of.Goals as goal

pub returns-in_err-retrace : goal.returns-in_err-retrace
returns-in_err-retrace c =
    let t = c.args.shop.now.tables in
    let fails : c.from_residual-in_err-retrace.result ≡ Err c.in_err-retrace.field-0.0 = search rules in
    subst (λ (r : Result OrderBook AuditFault). FollowsClaims t c.args.claims.now r) (sym fails)
    (claims-refused t c.loop-claim.book c.retrace.new.book c.args.claims.now c.loop-claim.claim-index c.claim-item.result c.in_err-retrace.field-0.0 c.loop-claim.invariant.0 c.loop-claim.invariant.1 c.loop-claim-test.true
    c.claim-item.is c.in_err-retrace.ensures)

pub returns : goal.returns
returns c =
    claims-followed c.args.shop.now.tables c.loop-claim.book c.into_history-history.result c.entries-legal.result.now c.args.claims.now c.loop-claim.claim-index c.into_history-history.ensures c.loop-claim.invariant.0 c.loop-claim.invariant.1
    (omega (arith, c.loop-claim-test.false)) c.entries-legal.ensures.entries c.entries-legal.ensures.legal
