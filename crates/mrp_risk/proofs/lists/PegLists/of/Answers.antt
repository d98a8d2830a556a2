use Rattle.std.proofs.Common.{◌≡◌, ◌<◌, length, refl, arith, subst}
use Rattle.std.specs.Prelude.{None}
use Rattle.mrp_risk.specs.declared.peg.Need.TheVariants.{Other}
use Rattle.mrp_risk.specs.Chains.{peg_at}
use Rattle.mrp_risk.specs.PegLists.{AreListsTo}
use Rattle.mrp_risk.proofs.PegListed.{lists-more}
use Rattle.mrp_risk.proofs.lists.PegLists.of.Goals as goal

pub loop-place-preserved : goal.loop-place-preserved
loop-place-preserved c =
    let pegs = c.args.pegs.now in
    let k = c.loop-place.place in
    let inside : k < length c.args.pegs.now = omega arith in
    let more = lists-more c.args.orders pegs k c.loop-place.last.items c.loop-place.previous.items (peg_at pegs k).supply c.loop-place.invariant refl (c.requires k (record { need = Other; supply = None; pieces = 0 }) inside).1 in
    rw (c.note_last-before.ensures.last, c.in_ok-push.ensures.items, c.note_last-before.ensures.before) more

pub returns : goal.returns
returns c =
    let all : c.loop-place.place ≡ length c.args.pegs.now = omega arith in
    subst (λ n. AreListsTo c.args.orders c.args.pegs.now n c.loop-place.last.items c.loop-place.previous.items) all c.loop-place.invariant
