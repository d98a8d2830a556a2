use Rattle.std.proofs.Common.{◌≢◌, ℕ, List, slice_index, sym, subst, arith}
use Rattle.std.specs.List.{Contains}
use Rattle.std.proofs.lemmas.List.Elements.{All-contains}
use Rattle.mrp_bill.specs.Grouped.{IsListed}
use Rattle.mrp_bill.proofs.Listed.{listed-contains}
use Rattle.mrp_bill.proofs.Linked.{no-round}
use Rattle.mrp_bill.proofs.search.first.path_by_ranks.Goals as goal

pub has_rank-requires : goal.has_rank-requires
has_rank-requires c = λ k d h.
    let item = c.args.item in
    omega (arith, c.requires.within _ item (listed-contains c.args.parents.now item c.group.result.now k d c.group.ensures h), c.requires.size)

pub returns-then-not-has_rank : goal.returns-then-not-has_rank
returns-then-not-has_rank c =
    let item = c.args.item in
    let row = c.group.result.now in
    let ranks = c.args.ranks.now in
    let none = c.has_rank.ensures c.if-not-has_rank.true in
    no-round (IsListed c.args.parents.now) (slice_index ranks) (c.requires.ranks c.if-never_rise.true) item (λ p link.
    All-contains (λ p. slice_index ranks p ≢ slice_index ranks item) row p none (subst (λ (xs : List ℕ). Contains xs p) (sym c.group.ensures) link))
