use Rattle.std.proofs.Common.{◌≡◌, ◌<◌, ℕ, suc, length, get_or, slice_index, sym, subst, ◌∙◌, arith}
use Rattle.std.specs.List.{Contains}
use Rattle.std.proofs.lemmas.List.{length-set}
use Rattle.std.proofs.lemmas.List.Elements.{All-contains}
use Rattle.mrp_bill.specs.Grouped.{IsListed}
use Rattle.mrp_bill.proofs.Listed.{listed-contains}
use Rattle.mrp_bill.proofs.Coded.{parent-codes, coded-more, low-more, rising-all, low-all}
use Rattle.mrp_bill.proofs.codes.codes_of.Goals as goal

pub code_below-requires-clause-within : goal.code_below-requires-clause-within
code_below-requires-clause-within c = λ k d h.
    let item = slice_index c.args.order.now c.loop-item.item-index in
    let inside : item < length c.args.parents.now = c.requires.all.items c.loop-item.item-index 0 c.loop-item-test.true in
    let same = c.group.ensures in
    omega (arith, c.requires.within _ item (listed-contains c.args.parents.now item c.group.result.now k d same h), c.loop-item.invariant.size, c.deref.ensures.len)

pub code_below-requires-clause-low : goal.code_below-requires-clause-low
code_below-requires-clause-low c = λ k d h.
    let item = slice_index c.args.order.now c.loop-item.item-index in
    let inside : item < length c.args.parents.now = c.requires.all.items c.loop-item.item-index 0 c.loop-item-test.true in
    let same = c.group.ensures in
    let link = listed-contains c.args.parents.now item c.group.result.now k d same h in
    let low = parent-codes c.args.parents.now c.args.order.now c.loop-item.codes.items c.loop-item.item-index (get_or c.group.result.now k d) c.requires.settled c.loop-item-test.true c.loop-item.invariant.low link in
    rw c.deref.ensures.value (omega (arith, low, c.loop-item.invariant.size, c.requires.size))

pub loop-item-preserved : goal.loop-item-preserved
loop-item-preserved c =
    let k = c.loop-item.item-index in
    let item = slice_index c.args.order.now k in
    let codes = c.loop-item.codes.items in
    let inside : item < length c.args.parents.now = c.requires.all.items k 0 c.loop-item-test.true in
    let within : item < length codes = omega (arith, c.loop-item.invariant.size) in
    let same = c.group.ensures in
    let above : (p : ℕ) → IsListed c.args.parents.now p item → get_or codes p 0 < c.code_below.result = λ p link.
    let all = All-contains (λ p. get_or c.deref.result.now p 0 < c.code_below.result) c.group.result.now p c.code_below.ensures.above (subst (λ xs. Contains xs p) (sym same) link) in
    rw c.deref.ensures.value at all in
    let from : (m : ℕ) → c.code_below.result ≡ suc m → (p : ℕ) × IsListed c.args.parents.now p item × (get_or codes p 0 ≡ m) = λ m e.
    let (p, link, is) = c.code_below.ensures.from_one m e in
    (p, subst (λ xs. Contains xs p) same link, rw c.deref.ensures.value at is) in
    record {
      size = length-set codes item c.code_below.result ∙ c.loop-item.invariant.size;
      coded = coded-more c.args.parents.now c.args.order.now codes (length c.args.parents.now) k c.code_below.result c.requires.all c.requires.settled c.loop-item-test.true within c.loop-item.invariant.coded above from;
      low = low-more c.args.parents.now c.args.order.now codes (length c.args.parents.now) k c.code_below.result c.requires.all c.requires.settled c.loop-item-test.true within c.loop-item.invariant.low from;
    }

pub returns-clause-codes : goal.returns-clause-codes
returns-clause-codes c = rising-all c.args.parents.now c.args.order.now c.loop-item.codes.items c.loop-item.invariant.size c.requires.all (λ j h. c.loop-item.invariant.coded j (omega arith))

pub returns-clause-low : goal.returns-clause-low
returns-clause-low c = low-all (length c.args.parents.now) c.args.order.now c.loop-item.codes.items c.loop-item.invariant.size c.requires.size c.requires.all (λ j h. c.loop-item.invariant.low j (omega arith))
