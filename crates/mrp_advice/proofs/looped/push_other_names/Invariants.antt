use Rattle.std.proofs.Common.{◌≡◌, ◌++◌, codes, take}
use Rattle.std.specs.Prelude.{string_bytes}
use Rattle.mrp_advice.specs.Texts.{behind_each}
use Rattle.mrp_advice.proofs.looped.push_other_names.Given as goal

abbrev pub invariant-loop-name : goal.invariant-loop-name
invariant-loop-name l = string_bytes l.text ≡ string_bytes l.initial.text ++ behind_each (codes " > ") (take l.name-index l.names)
