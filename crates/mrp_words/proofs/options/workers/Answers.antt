use Rattle.std.proofs.Common.{◌∙◌, ◌≡◌, [], ◌∷◌, ap, ap₂, codes, Option, Some, None}
use Rattle.clap.specs.Walk.{Rule, rule_of}
use Rattle.clap.specs.declared.builder.value_parser.ValueParser.{ValueParser}
use Rattle.clap.specs.declared.builder.value_parser.ValueParser.TheVariants.{Unsigned}
use Rattle.mrp_words.specs.Words.{workers_rule}
use Rattle.mrp_words.proofs.options.workers.Goals as goal

pub returns-clause-rule : goal.returns-clause-rule
returns-clause-rule c =
    let given = c.value_parser.ensures.given in
    let parser : c.value_parser.result.value_parser ≡ Some (Unsigned 1 64) = given.1 ∙ ap (λ (p : ValueParser). Some p) given.2 in
    let before : rule_of c.default_value.result ≡ record workers_rule { parser = None } =
    ap rule_of c.default_value.ensures ∙ ap (λ (r : Rule). record r { defaults = codes "1" ∷ [] }) c.valued.ensures.rule in
    let others : rule_of c.value_parser.result ≡ record (rule_of c.default_value.result) { parser = c.value_parser.result.value_parser } = ap rule_of c.value_parser.ensures.others in
    others ∙ ap₂ (λ (r : Rule) (p : Option ValueParser). record r { parser = p }) before parser
