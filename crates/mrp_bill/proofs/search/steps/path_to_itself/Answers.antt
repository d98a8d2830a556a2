use Rattle.std.proofs.Common.{◌≡◌, ℕ, List, sym, ap, subst, ◌∙◌, arith}
use Rattle.std.specs.List.{Contains}
use Rattle.mrp_bill.specs.Grouped.{listed, IsListed}
use Rattle.mrp_bill.specs.Search.{item_at}
use Rattle.mrp_bill.proofs.BillListed.{contains-from_any}
use Rattle.mrp_bill.proofs.Searches.{search-round, never-round, above-more, extends-seen, others-of}
use Rattle.mrp_bill.proofs.search.steps.path_to_itself.Goals as goal

pub returns-then-contains : goal.returns-then-contains
returns-then-contains c =
    let row = c.group-above.result.now in
    let same : row ≡ listed c.args.parents.now c.item.result = c.group-above.ensures in
    let found : Contains row c.args.item = contains-from_any c.args.item row (sym c.if-contains.ensures.value) in
    let link : IsListed c.args.parents.now c.args.item (item_at c.loop-next.search.met.items c.loop-next.next) = subst (λ (x : ℕ). IsListed c.args.parents.now c.args.item x) c.item.ensures.item (subst (λ (xs : List ℕ). Contains xs c.args.item) same found) in
    let (places, trail, is) = c.in_ok-path_down.ensures in
    search-round c.args.parents.now c.loop-next.search c.args.item c.loop-next.next places c.in_ok-path_down.field-0.items c.loop-next.invariant.search c.loop-next.invariant.first (omega arith) link trail is

pub loop-next-preserved : goal.loop-next-preserved
loop-next-preserved c =
    let row = c.group-above.result.now in
    let cur = c.loop-next.search in
    let next = c.loop-next.next in
    let same : row ≡ listed c.args.parents.now c.item.result = c.group-above.ensures in
    let extends = c.in_ok-meet_parents.ensures.extends in
    record {
      search = c.in_ok-meet_parents.ensures.search;
      first = ap (λ m. m.item) (extends.kept 0 c.loop-next.invariant.search.some) ∙ c.loop-next.invariant.first;
      within = omega (arith, extends.longer);
      above = above-more c.args.parents.now cur c.meet_parents.new.self c.args.item next extends (omega arith) c.loop-next.invariant.above
          (extends-seen c.args.parents.now cur c.meet_parents.new.self c.loop-next.invariant.search c.in_ok-meet_parents.ensures.search extends)
          (λ p link. (
            c.in_ok-meet_parents.ensures.seen p link,
            others-of c.args.item row c.if-contains.ensures.cases p
                (subst (λ (xs : List ℕ). Contains xs p) (sym same) (subst (λ (x : ℕ). IsListed c.args.parents.now p x) (sym c.item.ensures.item) link)),
          ));
    }

pub returns : goal.returns
returns c =
    never-round c.args.parents.now c.loop-next.search c.args.item c.loop-next.invariant.search c.loop-next.invariant.first (λ k h. c.loop-next.invariant.above k (omega arith))
