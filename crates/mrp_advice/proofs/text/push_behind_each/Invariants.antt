use Rattle.std.proofs.Common.{◌≡◌, ◌++◌, map, take}
use Rattle.std.specs.Prelude.{string_bytes}
use Rattle.mrp_advice.specs.Texts.{behind_each}
use Rattle.mrp_advice.proofs.text.push_behind_each.Given as goal

abbrev pub invariant-loop-piece : goal.invariant-loop-piece
invariant-loop-piece l = string_bytes l.text ≡ string_bytes l.initial.text ++ behind_each l.separator (take l.piece-index (map (λ p. p.now) l.pieces))
