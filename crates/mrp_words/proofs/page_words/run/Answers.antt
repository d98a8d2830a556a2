use Rattle.std.proofs.Common.{◌∙◌, ◌≡◌, ap, ap₂, Option, Some, None}
use Rattle.std.specs.Prelude.{◌-◌, ◌^◌}
use Rattle.clap.specs.Walk.{Rule, rule_of}
use Rattle.clap.specs.declared.builder.value_parser.ValueParser.{ValueParser}
use Rattle.clap.specs.declared.builder.value_parser.ValueParser.TheVariants.{Unsigned}
use Rattle.mrp_words.specs.Words.{run_rule}
use Rattle.mrp_words.proofs.page_words.run.Goals as goal

pub returns-clause-rule : goal.returns-clause-rule
returns-clause-rule c =
    let given = c.value_parser.ensures.given in
    let parser : c.value_parser.result.value_parser ≡ Some (Unsigned 1 (2 ^ 64 - 1)) = given.1 ∙ ap (λ (p : ValueParser). Some p) given.2 in
    let before : rule_of c.valued.result ≡ record run_rule { parser = None } = c.valued.ensures.rule in
    let others : rule_of c.value_parser.result ≡ record (rule_of c.valued.result) { parser = c.value_parser.result.value_parser } = ap rule_of c.value_parser.ensures.others in
    others ∙ ap₂ (λ (r : Rule) (p : Option ValueParser). record r { parser = p }) before parser
