use Rattle.std.proofs.Common.{length, refl}
use Rattle.mrp_audit.proofs.Comparisons.{whole-agrees}
use Rattle.mrp_claims.proofs.Rows.{begins}
use Rattle.mrp_audit.proofs.comparing.common_front.Goals as goal

pub returns-then-starts_with : goal.returns-then-starts_with
returns-then-starts_with c =
    let text = c.args.text.now in
    let other = c.args.other.now in
    whole-agrees text other (length other) refl (c.starts_with.ensures.bound c.if-starts_with.true) ((begins text other c.starts_with.result c.starts_with.ensures.value).0 c.if-starts_with.true)
