use Rattle.std.proofs.Common.{◌≡◌}
use Rattle.std.specs.Prelude.{flat_map}
use Rattle.std.specs.List.{range_with_len}
use Rattle.mrp_item.specs.Inputs.{count}
use Rattle.mrp_item.specs.Plan.{outcome_of, plan_in}
use Rattle.mrp_notes.specs.Messages.{messages_of}
use Rattle.mrp_notes.proofs.notes.messages.Given as goal

abbrev pub invariant-loop-item : goal.invariant-loop-item
invariant-loop-item l = record {
  end : l.items ≡ count l.plan.inputs;
  messages : l.messages.items ≡ flat_map (λ i. messages_of l.plan.inputs i (plan_in (outcome_of l.plan.inputs i))) (range_with_len 0 l.item);
}
