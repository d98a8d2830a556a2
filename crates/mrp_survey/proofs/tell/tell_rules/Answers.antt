use Rattle.std.proofs.Common.{◌≡◌, ◌∙◌, List, ap, refl}
use Rattle.std.specs.Option.{option_to_list}
use Rattle.mrp_survey.specs.declared.rule.Rule.{Rule}
use Rattle.mrp_survey.specs.Rules.{broken, rules_of}
use Rattle.mrp_survey.specs.Told.{Mark}
use Rattle.mrp_survey.proofs.Marking.{rules-more, told-more}
use Rattle.mrp_survey.proofs.tell.tell_rules.Goals as goal

pub loop-rule-preserved : goal.loop-rule-preserved
loop-rule-preserved c =
    let f : Rule → List Mark = λ rule. option_to_list (broken c.args.beside.now c.args.seen.now c.args.entry.now rule) in
    let own : c.rules-rule-items.result.now ≡ rules_of c.args.entry.now.form.table = c.rules-rule-items.ensures ∙ ap rules_of c.table.ensures in
    told-more c.args.entry.now c.args.findings.now.items c.loop-rule.findings.items c.tell_rule.new.findings.items _ _ _ c.loop-rule.invariant c.in_ok-tell_rule.ensures
    (rules-more f (rules_of c.args.entry.now.form.table) c.rules-rule-items.result.now c.loop-rule.rule-index _ _ own c.loop-rule-test.true refl)
