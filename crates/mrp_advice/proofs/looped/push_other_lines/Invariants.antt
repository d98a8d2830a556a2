use Rattle.std.proofs.Common.{◌≡◌, ◌++◌, codes, decimal, map, take}
use Rattle.std.specs.Prelude.{string_bytes}
use Rattle.mrp_advice.specs.Texts.{behind_each}
use Rattle.mrp_advice.proofs.looped.push_other_lines.Given as goal

abbrev pub invariant-loop-line : goal.invariant-loop-line
invariant-loop-line l = string_bytes l.text ≡ string_bytes l.initial.text ++ behind_each (codes ", ") (take l.line-index (map decimal l.lines))
