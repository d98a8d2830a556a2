use Rattle.std.proofs.Common.{arith}
use Rattle.mrp_engine.proofs.live.desk_calls.append_call.Goals as goal

pub append-requires : goal.append-requires
append-requires c =
    let (some, most) = c.requires in
    omega (arith, some, most)
