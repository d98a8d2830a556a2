use Rattle.std.proofs.Common.{◌≡◌, map, take}
use Rattle.mrp_page.proofs.names.ItemNames.slices.Given as goal

abbrev pub invariant-loop-place : goal.invariant-loop-place
invariant-loop-place l = map (λ s. s.now) l.slices.items ≡ take l.place l.self
