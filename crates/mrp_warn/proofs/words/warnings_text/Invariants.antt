use Rattle.std.proofs.Common.{◌≡◌, take}
use Rattle.std.specs.Prelude.{flat_map, string_bytes}
use Rattle.mrp_warn.specs.Words.{group_text}
use Rattle.mrp_warn.proofs.words.warnings_text.Given as goal

abbrev pub invariant-loop-group : goal.invariant-loop-group
invariant-loop-group l = string_bytes l.text ≡ flat_map (group_text l.sheets) (take l.group-index l.groups)
