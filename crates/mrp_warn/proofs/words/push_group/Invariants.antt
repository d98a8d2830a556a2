use Rattle.std.proofs.Common.{◌≡◌, ◌++◌, take}
use Rattle.std.specs.Prelude.{flat_map, string_bytes}
use Rattle.mrp_warn.specs.declared.limits.TheConstants.{MOST_OF_A_KIND}
use Rattle.mrp_warn.specs.Words.{warning_text}
use Rattle.mrp_warn.proofs.words.push_group.Given as goal

abbrev pub invariant-loop-warning : goal.invariant-loop-warning
invariant-loop-warning l =
    string_bytes l.text ≡ string_bytes l.initial.text ++ flat_map (warning_text l.sheets l.group.kind) (take l.warning-index (take MOST_OF_A_KIND l.group.warnings.items))
