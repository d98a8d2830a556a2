use Rattle.std.proofs.Common.{◌≡◌, ◌++◌, take}
use Rattle.std.specs.Prelude.{flat_map}
use Rattle.std.specs.Option.{option_to_list}
use Rattle.mrp_survey.specs.Marks.{told_of}
use Rattle.mrp_survey.specs.Rules.{broken, rules_of}
use Rattle.mrp_survey.proofs.tell.tell_rules.Given as goal

abbrev pub invariant-loop-rule : goal.invariant-loop-rule
invariant-loop-rule l = l.findings.items ≡ l.fn.findings.items ++ told_of l.entry (flat_map (λ rule. option_to_list (broken l.beside l.seen l.entry rule)) (take l.rule-index (rules_of l.entry.form.table)))
