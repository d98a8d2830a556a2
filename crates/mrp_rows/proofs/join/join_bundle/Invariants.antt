use Rattle.std.proofs.Common.{◌≡◌, ℕ, List, Bor, map, take}
use Rattle.mrp_rows.specs.declared.fault.Table.{Table}
use Rattle.mrp_rows.specs.Joined.{joined}
use Rattle.mrp_rows.proofs.join.join_bundle.Given as goal

abbrev pub invariant-loop-part : goal.invariant-loop-part
invariant-loop-part l = l.bundle.items ≡ joined (map (λ (part : Table × Bor (List ℕ)). (part.0, part.1.now)) (take l.part-index l.parts))
