use Rattle.std.proofs.Common.{◌≡◌, ◌∙◌, ℕ, true, false, List, length, sym, ap, subst}
use Rattle.std.specs.Prelude.{is_some}
use Rattle.mrp_tables.specs.Tables.{Tables}
use Rattle.mrp_bill.specs.Bill.{children_of}
use Rattle.mrp_item.specs.Inputs.{Inputs, count}
use Rattle.mrp_item.specs.Made.{item_from}
use Rattle.mrp_board.specs.BoardState.{BoardState, has_stored, worker_of}
use Rattle.mrp_board.specs.Queue.{less, occurrences, waits_for}
use Rattle.mrp_board.proofs.Queues.{CanSettle}
use Rattle.mrp_board.proofs.Waiting.{children-settle, kept-stored}
use Rattle.mrp_board.proofs.state.BoardState.store.Goals as goal

pub settle_all-requires : goal.settle_all-requires
settle_all-requires c =
    let b = c.self.inside in
    let s = b.inputs.value in
    let item = c.item-item.result in
    let o = c.args.outcome in
    let here : BoardState = record { inputs = s; out = b.out.items; outcomes = b.outcomes.items; stopped = b.stopped } in
    let from : s ≡ c.args.self.now.inputs = ap (λ (x : BoardState). x.inputs) c.self.view_is in
    let own = ap (λ (x : Inputs). item_from x o.item) (c.requires.inputs ∙ sym from) ∙ ap (item_from s) (sym c.item-item.ensures) in
    let out : is_some (worker_of here item) ≡ true = ap (λ (x : BoardState). is_some (worker_of x item)) c.self.view_is ∙ ap (λ (i : ℕ). is_some (worker_of c.args.self.now i)) c.item-item.ensures ∙ c.requires.out in
    let new : has_stored here item ≡ false = ap (λ (x : BoardState). has_stored x item) c.self.view_is ∙ ap (λ (i : ℕ). has_stored c.args.self.now i) c.item-item.ensures ∙ c.requires.new in
    let children : c.children.result.now ≡ children_of s.tables.bills (count s) item =
    c.children.ensures ∙ ap (λ (t : Tables). children_of t.bills (length t.items) item) (c.shop.ensures.tables ∙ ap (λ (x : Inputs). x.tables) c.deref.ensures) in
    subst (λ (l : List ℕ). CanSettle l b.queue) (sym children) (children-settle here b.queue c.self.invariant item o own out new)

pub invariant_of-self : goal.invariant_of-self
invariant_of-self c =
    let b = c.self.inside in
    let s = b.inputs.value in
    let item = c.item-item.result in
    let o = c.args.outcome in
    let here : BoardState = record { inputs = s; out = b.out.items; outcomes = b.outcomes.items; stopped = b.stopped } in
    let from : s ≡ c.args.self.now.inputs = ap (λ (x : BoardState). x.inputs) c.self.view_is in
    let own = ap (λ (x : Inputs). item_from x o.item) (c.requires.inputs ∙ sym from) ∙ ap (item_from s) (sym c.item-item.ensures) in
    let out : is_some (worker_of here item) ≡ true = ap (λ (x : BoardState). is_some (worker_of x item)) c.self.view_is ∙ ap (λ (i : ℕ). is_some (worker_of c.args.self.now i)) c.item-item.ensures ∙ c.requires.out in
    let new : has_stored here item ≡ false = ap (λ (x : BoardState). has_stored x item) c.self.view_is ∙ ap (λ (i : ℕ). has_stored c.args.self.now i) c.item-item.ensures ∙ c.requires.new in
    let children : c.children.result.now ≡ children_of s.tables.bills (count s) item =
    c.children.ensures ∙ ap (λ (t : Tables). children_of t.bills (length t.items) item) (c.shop.ensures.tables ∙ ap (λ (x : Inputs). x.tables) c.deref.ensures) in
    kept-stored here b.queue c.self.invariant item o own out new c.settle_all.new.self c.settle_all.ensures.size
    (λ i. c.settle_all.ensures.settled i ∙ ap (λ (l : List ℕ). less (occurrences i l) (waits_for b.queue i)) children)
