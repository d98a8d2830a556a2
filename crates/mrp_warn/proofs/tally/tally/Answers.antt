use Rattle.std.proofs.Common.{◌≡◌, ℕ, ◌+◌, ◌<◌, length, get_or, set, arith, subst, sym}
use Rattle.std.proofs.lemmas.List.{get_or_read}
use Rattle.mrp_warn.proofs.Tallied.{AreCounted, counted-all, counted-more, counted-past, counted-within}
use Rattle.mrp_warn.proofs.tally.tally.Goals as goal
use Rattle.mrp_warn.proofs.tally.tally.Goals.{then-place-count, else-place-count}

pub overflow_add-index_mut : goal.overflow_add-index_mut
overflow_add-index_mut c =
    let named = c.args.named.now in
    let counts = c.loop-place.times.items in
    let k = c.loop-place.place-index in
    let own = get_or named k 0 in
    let inside : own < length counts = omega (arith, c.loop-place.invariant.size, c.if-place-count.true) in
    let read : c.index_mut.result.now ≡ get_or counts own 0 = get_or_read counts own c.index_mut.result.now inside c.index_mut.ensures.value 0 in
    omega (arith, read, counted-within named c.args.count k counts own c.loop-place.invariant c.if-place-count.true, c.loop-place-test.true)

pub loop-place-preserved : goal.loop-place-preserved
loop-place-preserved c =
    let named = c.args.named.now in
    let count = c.args.count in
    let counts = c.loop-place.times.items in
    let k = c.loop-place.place-index in
    elim c.if-place-count.branch [
      | then-place-count w ↦
          let own = get_or named k 0 in
          let inside : own < length counts = omega (arith, c.loop-place.invariant.size, w.if-place-count.true) in
          let read : w.index_mut.result.now ≡ get_or counts own 0 = get_or_read counts own w.index_mut.result.now inside w.index_mut.ensures.value 0 in
          rw w.times-is (subst (λ (n : ℕ). AreCounted named count (k + 1) (set counts own (n + 1))) (sym read) (counted-more named count k counts c.loop-place.invariant c.loop-place-test.true w.if-place-count.true))
      | else-place-count w ↦ rw w.times-is (counted-past named count k counts c.loop-place.invariant c.loop-place-test.true w.if-place-count.false)
    ]

pub returns : goal.returns
returns c = counted-all c.args.named.now c.args.count c.loop-place.place-index c.loop-place.times.items c.loop-place.invariant (omega (arith, c.loop-place-test.false))
