use Rattle.std.proofs.Common.{arith}
use Rattle.mrp_bill.specs.Links.{Leads, IsRound}
use Rattle.mrp_bill.specs.Grouped.{IsListed}
use Rattle.mrp_bill.proofs.Coded.{listed-inside}
use Rattle.mrp_bill.proofs.Linked.{round-leads, below_one_more}
use Rattle.mrp_bill.proofs.search.first.first_loop.Goals as goal

pub unreachable-requires : goal.unreachable-requires
unreachable-requires c =
    let (i, (n, (p, chain, link))) = c.requires.some in
    c.loop-item.invariant i (omega (arith, listed-inside c.args.parents.now p i link)) (n, (p, chain, link))

pub returns-in-Some : goal.returns-in-Some
returns-in-Some c =
    let round : IsRound (IsListed c.args.parents.now) c.loop-item.item c.in-Some.path.items = rw c.in-Some.is at c.in_ok-path.ensures in
    (c.loop-item.item, record { loop = round-leads (IsListed c.args.parents.now) c.loop-item.item c.in-Some.path.items round; first = c.loop-item.invariant }, round)

pub loop-item-preserved : goal.loop-item-preserved
loop-item-preserved c = λ i h.
    let none : Leads (IsListed c.args.parents.now) c.loop-item.item c.loop-item.item → ⊥ = rw c.in-None.is at c.in_ok-path.ensures in
    below_one_more (λ i. Leads (IsListed c.args.parents.now) i i → ⊥) c.loop-item.item c.loop-item.invariant none i h
