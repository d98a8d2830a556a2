use Rattle.std.proofs.Common.{◌≡◌, ◌∙◌, ◌<◌, ◌+◌, ◌++◌, ◌∷◌, [], ℕ, List, Option, length, get_or, take, sym, ap}
use Rattle.std.proofs.lemmas.List.{append-nil, take_more}
use Rattle.std.proofs.lemmas.List.Elements.{filter_map-append}
use Rattle.std.specs.Prelude.{Vec, filter_map}
use Rattle.std.specs.declared.alloc.Global.{Global}
use Rattle.std.specs.List.{cons_option}
use Rattle.mrp_item.specs.Places.{ItemOf}
use Rattle.mrp_board.specs.BoardState.{outcome_at}
use Rattle.mrp_board.proofs.state.BoardState.parents_of.Goals as goal
use Rattle.mrp_board.proofs.state.BoardState.parents_of.Goals.{in-Some+in_ok-copy+in_ok-push, in_default}

gives-more : (f : ℕ → Option ItemOf) (items : List ℕ) (k : ℕ) → k < length items → filter_map f (take (k + 1) items) ≡ filter_map f (take k items) ++ cons_option (f (get_or items k 0)) []
gives-more f items k low = ap (filter_map f) (take_more items k 0 low) ∙ filter_map-append f (take k items) (get_or items k 0 ∷ [])

pub loop-parent-preserved : goal.loop-parent-preserved
loop-parent-preserved c =
    let now = c.args.self.now in
    let parents = c.parents-parents.result.now in
    let k = c.loop-parent.parent-index in
    let more = gives-more (outcome_at now) parents k c.loop-parent-test.true in
    let before = filter_map (outcome_at now) (take k parents) in
    elim c.match-outcome.branch [
      | in-Some+in_ok-copy+in_ok-push w ↦
          ap (λ (v : Vec ItemOf Global). v.items) w.outcomes-is ∙ w.in_ok-push.ensures.items
          ∙ ap (λ (o : ItemOf). c.loop-parent.outcomes.items ++ o ∷ []) w.in_ok-copy.ensures
          ∙ ap (λ (l : List ItemOf). l ++ w.in-Some.outcome.now ∷ []) c.loop-parent.invariant
          ∙ sym (more ∙ ap (λ (o : Option ItemOf). before ++ cons_option o []) (sym w.in-Some.ensures.value))
      | in_default w ↦
          ap (λ (v : Vec ItemOf Global). v.items) w.outcomes-is ∙ c.loop-parent.invariant
          ∙ sym (more ∙ ap (λ (o : Option ItemOf). before ++ cons_option o []) (sym w.in_default.ensures.value) ∙ append-nil before)
    ]
