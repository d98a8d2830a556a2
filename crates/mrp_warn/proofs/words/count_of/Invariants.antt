use Rattle.std.proofs.Common.{◌≡◌, ◌*◌, ◌^◌, ◌≤◌, take}
use Rattle.mrp_warn.specs.Words.{count_of}
use Rattle.mrp_warn.proofs.words.count_of.Given as goal

abbrev pub invariant-loop-group : goal.invariant-loop-group
invariant-loop-group l = (l.count ≡ count_of (take l.group-index l.groups)) × (l.count ≤ l.group-index * 2 ^ 64)
