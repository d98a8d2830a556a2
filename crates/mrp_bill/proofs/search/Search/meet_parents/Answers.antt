use Rattle.std.proofs.Common.{◌≡◌, ◌<◌, ℕ, false, length, get_or, refl, sym, ap, subst, ◌∙◌, arith}
use Rattle.std.proofs.lemmas.List.{get_or_default}
use Rattle.mrp_bill.specs.Grouped.{listed, IsListed}
use Rattle.mrp_bill.specs.Search.{IsSeen, item_at}
use Rattle.mrp_bill.proofs.Listed.{listed-contains}
use Rattle.mrp_bill.proofs.Searches.{seen-is, search-meets, meets-extends, extends-on, seen-more, seen-here}
use Rattle.mrp_bill.proofs.search.Search.meet_parents.Goals as goal
use Rattle.mrp_bill.proofs.search.Search.meet_parents.Goals.{then-not-index+in_ok-meet, else-not-index}

pub index-requires : goal.index-requires
index-requires c =
    let inside : c.item-item.result < length c.args.parents.now = omega (arith, c.item-item.ensures.within, c.requires.search.size) in
    let same = c.group-parent-items.ensures in
    omega (arith, c.requires.within _ c.item-item.result (listed-contains c.args.parents.now c.item-item.result c.group-parent-items.result.now c.loop-parent.parent-index 0 same c.loop-parent-test.true), c.loop-parent.invariant.search.size)

pub meet-requires : goal.meet-requires
meet-requires c =
    let inside : c.item-item.result < length c.args.parents.now = omega (arith, c.item-item.ensures.within, c.requires.search.size) in
    let same = c.group-parent-items.ensures in
    omega (arith, c.requires.within _ c.item-item.result (listed-contains c.args.parents.now c.item-item.result c.group-parent-items.result.now c.loop-parent.parent-index 0 same c.loop-parent-test.true), c.loop-parent.invariant.search.size)

pub loop-parent-preserved : goal.loop-parent-preserved
loop-parent-preserved c =
    let row = c.group-parent-items.result.now in
    let n = c.loop-parent.parent-index in
    let parent = get_or row n 0 in
    let cur = c.loop-parent.self in
    let inside : c.item-item.result < length c.args.parents.now = omega (arith, c.item-item.ensures.within, c.requires.search.size) in
    let same = c.group-parent-items.ensures in
    let listed : IsListed c.args.parents.now parent c.item-item.result = listed-contains c.args.parents.now c.item-item.result row n 0 same c.loop-parent-test.true in
    let within : parent < length c.args.parents.now = c.requires.within parent c.item-item.result listed in
    let small : parent < length cur.seen.items = omega (arith, c.loop-parent.invariant.search.size) in
    let low : c.args.place < length cur.met.items = omega (arith, c.requires.place, c.loop-parent.invariant.extends.longer) in
    let kept : item_at cur.met.items c.args.place ≡ c.item-item.result = ap (λ m. m.item) (c.loop-parent.invariant.extends.kept c.args.place c.requires.place) ∙ sym c.item-item.ensures.item in
    let link : IsListed c.args.parents.now parent (item_at cur.met.items c.args.place) = subst (λ (x : ℕ). IsListed c.args.parents.now parent x) (sym kept) listed in
    elim c.if-not-index.branch [
      | then-not-index+in_ok-meet w ↦
          let new : get_or cur.seen.items parent false ≡ false = seen-is cur.seen.items parent c.index.result.now small c.index.ensures ∙ w.if-not-index.true in
          rw w.self-is (record {
            search = search-meets c.args.parents.now cur _ parent c.args.place c.loop-parent.invariant.search w.in_ok-meet.ensures within new low link;
            extends = extends-on c.args.self.now cur _ c.loop-parent.invariant.extends (meets-extends cur _ parent c.args.place w.in_ok-meet.ensures small new);
            seen = seen-more cur _ row n parent c.args.place w.in_ok-meet.ensures small refl c.loop-parent.invariant.seen;
          })
      | else-not-index w ↦
          let old : IsSeen cur.seen.items parent = seen-is cur.seen.items parent c.index.result.now small c.index.ensures ∙ w.if-not-index.false in
          rw w.self-is (record {
            search = c.loop-parent.invariant.search;
            extends = c.loop-parent.invariant.extends;
            seen = seen-here cur row n old c.loop-parent.invariant.seen;
          })
    ]

pub returns-clause-seen : goal.returns-clause-seen
returns-clause-seen c = λ p link.
    let row = c.group-parent-items.result.now in
    let inside : c.item-item.result < length c.args.parents.now = omega (arith, c.item-item.ensures.within, c.requires.search.size) in
    let same = c.group-parent-items.ensures in
    let (m, low, is) = subst (λ (x : ℕ). IsListed c.args.parents.now p x) (sym c.item-item.ensures.item) link in
    let here : get_or row m 0 ≡ p = ap (λ xs. get_or xs m 0) same ∙ get_or_default (listed c.args.parents.now c.item-item.result) m 0 p low ∙ is in
    subst (λ (x : ℕ). IsSeen c.loop-parent.self.seen.items x) here (c.loop-parent.invariant.seen m (omega (arith, ap (length {A = ℕ}) same)))
