use Rattle.std.proofs.Common.{◌≡◌, All, List, rules, sym, subst}
use Rattle.std.proofs.lemmas.List.Elements.{All-map}
use Rattle.mrp_item.specs.Inputs.{places}
use Rattle.mrp_item.specs.Made.{all_from, item_from}
use Rattle.mrp_item.specs.Places.{ItemOf}
use Rattle.low_tests.proofs.tests.boards.Run.open.Goals as goal

pub invariant_of-result : goal.invariant_of-result
invariant_of-result g c =
    let s = c.made-inputs.result.value in
    let turn = c.two_workers-turn.result.0 in
    let all : c.made-outcomes.result.items ≡ all_from s = search rules in
    record {
      first_of_turn = c.two_workers-turn.ensures.workers.0;
      second_of_turn = c.two_workers-turn.ensures.workers.1;
      of_inputs = subst (λ (outcomes : List ItemOf). All (λ o. o.inputs ≡ turn.about.object) outcomes) (sym all)
          (All-map (λ (o : ItemOf). o.inputs ≡ turn.about.object) (item_from s) (places s) (λ k d h. sym c.two_workers-turn.ensures.board));
    }
