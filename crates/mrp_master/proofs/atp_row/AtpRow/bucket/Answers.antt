-- A week's bucket is what is available in it and not in the week before.
use Rattle.std.proofs.Common.{ℕ, ◌≡◌, ◌≢◌, ◌+◌, ◌-◌, ◌∙◌, subst, arith}
use Rattle.mrp_master.specs.AtpRow.{AtpRow, IsAtpRow, IsAvailableIn, IsWeekOf, bucket}
use Rattle.mrp_master.proofs.Carried.{bucket_is}
use Rattle.mrp_master.proofs.atp_row.AtpRow.bucket.Goals as goal

-- what is available in a week by one reading of the row, and in the week before by the next
two_weeks : (r one next : AtpRow) (week now before : ℕ) → IsAtpRow r → IsWeekOf r week → week ≢ 1 → one ≡ r → next ≡ one → IsAvailableIn one week now → IsAvailableIn next (week - 1) before → now ≡ before + bucket r week
two_weeks r one next week now before kept inside later is same a b =
    bucket_is r kept.same kept.covered week now inside (subst (λ x. IsAvailableIn x week now) is a) before (λ h. subst (λ x. IsAvailableIn x (week - 1) before) (same ∙ is) b, λ h. absurd (later h))

pub returns-then-week-eq1 : goal.returns-then-week-eq1
returns-then-week-eq1 c =
    let r : AtpRow = c.args.self.now in
    let now : IsAvailableIn r c.args.week c.available_in.result = subst (λ x. IsAvailableIn x c.args.week c.available_in.result) c.nodes-nodes.ensures.row c.available_in.ensures.value in
    let is : c.available_in.result ≡ 0 + bucket r c.args.week =
    bucket_is r c.nodes-nodes.ensures.kept.row.same c.nodes-nodes.ensures.kept.row.covered c.args.week c.available_in.result c.requires now 0 (λ h. absurd (omega (arith, c.if-week-eq1.true)), λ h. omega arith) in
    omega (arith, is, c.quantity-then-week-eq1.ensures, c.value-up_to.ensures.pieces)

pub overflow_sub-up_to : goal.overflow_sub-up_to
overflow_sub-up_to c =
    let is =
    two_weeks c.args.self.now _ _ c.args.week c.available_in.result c.available_in-2.result c.nodes-nodes.ensures.kept.row c.requires c.if-week-eq1.false c.nodes-nodes.ensures.row c.available_in.ensures.same c.available_in.ensures.value
    c.available_in-2.ensures.value in
    omega (arith, is, c.value.ensures.pieces, c.value-up_to.ensures.pieces)

pub returns : goal.returns
returns c =
    let is =
    two_weeks c.args.self.now _ _ c.args.week c.available_in.result c.available_in-2.result c.nodes-nodes.ensures.kept.row c.requires c.if-week-eq1.false c.nodes-nodes.ensures.row c.available_in.ensures.same c.available_in.ensures.value
    c.available_in-2.ensures.value in
    omega (arith, is, c.quantity-2.ensures, c.value.ensures.pieces, c.value-up_to.ensures.pieces)
