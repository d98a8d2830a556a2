use Rattle.std.proofs.Common.{◌≡◌, ◌∙◌, ◌++◌, [], ℕ, List, ap, arith}
use Rattle.std.specs.Prelude.{flat_map}
use Rattle.std.specs.List.{range_with_len}
use Rattle.std.proofs.lemmas.List.{flat_map_more}
use Rattle.mrp_item.specs.Inputs.{count}
use Rattle.mrp_item.specs.Places.{PlannedItem}
use Rattle.mrp_item.specs.Plan.{outcome_of, plan_in}
use Rattle.mrp_item.proofs.OutcomeLists.{places-more}
use Rattle.mrp_notes.specs.declared.message.Message.{Message}
use Rattle.mrp_notes.specs.Messages.{messages_of}
use Rattle.mrp_notes.proofs.notes.messages.Goals as goal

pub loop-item-preserved : goal.loop-item-preserved
loop-item-preserved c =
    let s = c.args.plan.now.inputs in
    let k = c.loop-item.item in
    let each : ℕ → List Message = λ i. messages_of s i (plan_in (outcome_of s i)) in
    let own = c.as_slice.ensures.value ∙ c.in_ok-own.ensures ∙ ap (λ (p : PlannedItem). messages_of p.inputs p.item p.plan) c.item.ensures in
    record {
      end = c.loop-item.invariant.end;
      messages =
          c.in_ok-extend_from_slice.ensures.items
          ∙ ap (λ (xs : List Message). xs ++ c.as_slice.result.now) c.loop-item.invariant.messages
          ∙ ap (λ (xs : List Message). flat_map each (range_with_len 0 k) ++ xs) own
          ∙ flat_map_more each [] (range_with_len 0 k) k
          ∙ ap (flat_map each) (places-more k);
    }

pub returns : goal.returns
returns c =
    let s = c.args.plan.now.inputs in
    let end : c.loop-item.item ≡ count s = omega (arith, c.loop-item.invariant.end, c.loop-item-test.false) in
    c.loop-item.invariant.messages ∙ ap (λ n. flat_map (λ i. messages_of s i (plan_in (outcome_of s i))) (range_with_len 0 n)) end
