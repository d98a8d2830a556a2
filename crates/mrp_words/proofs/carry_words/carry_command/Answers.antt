use Rattle.std.proofs.Common.{◌∙◌, ◌≡◌, ◌||◌, Bool, ap₂, codes, rules, false}
use Rattle.std.proofs.lemmas.Result.{IfOk-weaker}
use Rattle.clap.specs.Simple.{app_of, new_app, with_rule}
use Rattle.clap.specs.declared.builder.command.Command.TheViews.{out-Command}
use Rattle.mrp_words.specs.Words.{required_dir_rule, start_rule}
use Rattle.mrp_words.proofs.carry_words.carry_command.Goals as goal

pub returns-clause-app : goal.returns-clause-app
returns-clause-app c =
    let before : app_of c.explained.result ≡ new_app (codes "carry") = c.explained.ensures.app in
    let has_folder : app_of c.in_ok-arg.field-0 ≡ with_rule (new_app (codes "carry")) required_dir_rule = c.in_ok-arg.ensures.shape c.required_dir.ensures.local ∙ ap₂ with_rule before c.required_dir.ensures.rule in
    let has_start : app_of c.in_ok-arg-2.field-0 ≡ with_rule (with_rule (new_app (codes "carry")) required_dir_rule) start_rule =
    c.in_ok-arg-2.ensures.shape c.start.ensures.local ∙ ap₂ with_rule has_folder c.start.ensures.rule in
    IfOk-weaker c.arg-3.result _ _ (λ made h. h.shape c.numbers.ensures.local ∙ ap₂ with_rule has_start c.numbers.ensures.rule) c.arg-3.ensures

pub returns-clause-local : goal.returns-clause-local
returns-clause-local c =
    let first : (out-Command c.in_ok-arg.field-0).has_globals ≡ false = search rules in
    let second : (out-Command c.in_ok-arg-2.field-0).has_globals ≡ false = c.in_ok-arg-2.ensures.globals ∙ ap₂ (λ (x y : Bool). x || y) first c.start.ensures.local in
    IfOk-weaker c.arg-3.result _ _ (λ made h. h.globals ∙ ap₂ (λ (x y : Bool). x || y) second c.numbers.ensures.local) c.arg-3.ensures
