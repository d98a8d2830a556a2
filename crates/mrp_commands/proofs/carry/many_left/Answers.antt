use Rattle.std.proofs.Common.{◌∙◌, ◌++◌, ℕ, List, append_assoc, codes, decimal, sym}
use Rattle.mrp_commands.proofs.carry.many_left.Goals as goal

pub returns : goal.returns
returns c =
    let before : List ℕ = codes " standing bookings were due before " in
    let after : List ℕ = codes " and are not carried" in
    c.in_ok-format.ensures.ok ∙ sym (append_assoc (decimal c.args.count) before (c.args.start.now ++ after))
    ∙ sym (append_assoc (decimal c.args.count ++ before) c.args.start.now after)
