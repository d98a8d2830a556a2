use Rattle.std.proofs.Common.{◌≡◌, ◌∙◌, ℕ, false, List, Option, Some, None, length, map, sym, ap, subst, arith}
use Rattle.std.specs.Prelude.{replicate}
use Rattle.std.specs.List.{range_with_len}
use Rattle.mrp_tables.specs.Tables.{Tables}
use Rattle.mrp_tables.specs.declared.item.Item.{Item}
use Rattle.mrp_bill.specs.Bill.{parents_of}
use Rattle.mrp_item.specs.Inputs.{Inputs, count}
use Rattle.mrp_item.specs.Places.{ItemOf}
use Rattle.mrp_board.specs.Kept.{KeepsBoard}
use Rattle.mrp_board.proofs.Waiting.{first-waits, kept-new}
use Rattle.mrp_board.proofs.state.BoardState.open.Goals as goal

pub invariant_of-result : goal.invariant_of-result
invariant_of-result c =
    let s = c.in_ok-inputs.inputs.value in
    let items : c.items-count.result.now ≡ s.tables.items =
    c.items-count.ensures.rows ∙ ap (λ (t : Tables). t.items) (c.tables.ensures.value ∙ c.shop.ensures.tables) ∙ ap (λ (x : Inputs). x.tables.items) c.deref.ensures in
    let places : c.loop.counter ≡ count s = omega (arith, c.loop-test.false, c.loop.auto.counter-end, ap (length {A = Item}) items) in
    let out : c.loop.out.items ≡ replicate (count s) None = c.loop.invariant.out ∙ ap (λ (n : ℕ). replicate n None) places in
    let outcomes : c.loop.outcomes.items ≡ replicate (count s) None = c.loop.invariant.outcomes ∙ ap (λ (n : ℕ). replicate n None) places in
    let tables : c.shop-2.result.now.tables ≡ s.tables = c.shop-2.ensures.tables ∙ ap (λ (x : Inputs). x.tables) c.deref-2.ensures in
    let queue : c.in_ok-queue.queue ≡ first-waits s = c.in_ok-queue.ensures ∙ ap (λ (t : Tables). map (λ i. Some (length (parents_of t.bills (length t.items) i))) (range_with_len 0 (length t.items))) tables in
    subst (λ (q : List (Option ℕ)). KeepsBoard (record { inputs = s; out = c.loop.out.items; outcomes = c.loop.outcomes.items; stopped = false }) q) (sym queue)
    (subst (λ (l : List (Option ℕ)). KeepsBoard (record { inputs = s; out = l; outcomes = c.loop.outcomes.items; stopped = false }) (first-waits s)) (sym out)
    (subst (λ (l : List (Option ItemOf)). KeepsBoard (record { inputs = s; out = replicate (count s) None; outcomes = l; stopped = false }) (first-waits s)) (sym outcomes) (kept-new s)))
