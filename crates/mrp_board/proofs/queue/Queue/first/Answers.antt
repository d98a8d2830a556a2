use Rattle.std.proofs.Common.{◌≡◌, ◌∙◌, ◌<◌, ℕ, List, Option, inl, inr, length, refl, sym, ap, arith}
use Rattle.std.proofs.lemmas.Bool.{cases_lt}
use Rattle.std.specs.Prelude.{find}
use Rattle.std.specs.BinaryHeap.{heap_capacity, heap_items}
use Rattle.mrp_board.specs.Queue.{is_due, queue_places}
use Rattle.mrp_board.proofs.Queues.{first-is, first-none}
use Rattle.mrp_board.proofs.Tests.{no}
use Rattle.mrp_board.proofs.queue.Queue.first.Goals as goal

pub returns-in-Some : goal.returns-in-Some
returns-in-Some c =
    let q = c.self.inside in
    let some : 0 < length (heap_items q.due) = omega (arith, c.in-Some.ensures.variant.0 refl, q.due.data.ok.0) in
    sym (first-is q.waits.items (heap_items q.due) (heap_capacity q.due) q.left c.self.invariant c.in-Some.field-0.now some c.in-Some.ensures.lookup (c.in-Some.ensures.greatest c.self.invariant.ordered))
    ∙ ap (λ (w : List (Option ℕ)). find (is_due w) (queue_places w)) c.self.view_is

pub returns-in-None : goal.returns-in-None
returns-in-None c =
    let q = c.self.inside in
    let empty : length (heap_items q.due) ≡ 0 = elim (cases_lt 0 (length (heap_items q.due))) [
      | inl some ↦ no (c.in-None.ensures.variant.1 (omega (arith, some, q.due.data.ok.0)))
      | inr none ↦ omega (arith, none)
    ] in
    sym (first-none q.waits.items (heap_items q.due) (heap_capacity q.due) q.left c.self.invariant empty)
    ∙ ap (λ (w : List (Option ℕ)). find (is_due w) (queue_places w)) c.self.view_is
