use Rattle.std.proofs.Common.{◌≡◌, drop}
use Rattle.mrp_rows.specs.Devices.{act_at, act_in}
use Rattle.mrp_rows.proofs.devices.Acts.act.Given as goal

abbrev pub invariant-loop-stretch : goal.invariant-loop-stretch
invariant-loop-stretch l = act_in l.self l.fn.call ≡ act_at (drop l.stretch-index l.self.stretches.now) l.self.after l.call
