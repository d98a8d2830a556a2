use Rattle.std.proofs.Common.{◌≡◌, ◌∙◌, arith}
use Rattle.mrp_item.proofs.PlannedStock.{planned-supplies}
use Rattle.mrp_item.proofs.planned.Planned.stock.Goals as goal

pub unreachable-requires : goal.unreachable-requires
unreachable-requires c =
    let inputs : c.deref.result.now ≡ c.args.self.now.inputs = c.deref.ensures ∙ c.inputs.ensures.inputs in
    let past = rw (inputs, c.item.ensures.item) at (c.in-Err-TooLarge.ensures.over c.in-Err-TooLarge.field-0-is) in
    omega (arith, past, planned-supplies c.args.self.now.inputs c.args.self.now.item c.args.self.now.plan c.inputs.ensures.outcome)
