use Rattle.std.proofs.Common.{◌≡◌, ◌+◌, ℕ, List, Option, length, sym, subst, arith}
use Rattle.std.proofs.lemmas.List.{length_push}
use Rattle.mrp_report.specs.section.PegShares.{AreReady}
use Rattle.mrp_report.proofs.lemmas.section.PegShares.{ready_more}
use Rattle.mrp_report.proofs.section.peg_shares.ready_below.Goals as goal

pub loop-number-preserved : goal.loop-number-preserved
loop-number-preserved c =
    let t = c.args.names.now.tables.now in
    let all = c.loop-number.all.items in
    let n = c.loop-number.number in
    let (long, so_far) = c.loop-number.invariant in
    subst (λ (l : List (Option (List ℕ))). (length l ≡ n + 1) × AreReady t c.args.what l) (sym c.in_ok-push.ensures.items)
    (omega (arith, long, length_push all c.ready.result), ready_more t c.args.what all n c.ready.result long so_far c.ready.ensures)
