use Rattle.std.proofs.Common.{◌∙◌, ◌≡◌, ◌||◌, Bool, ap₂, codes, rules, false}
use Rattle.std.proofs.lemmas.Result.{IfOk-weaker}
use Rattle.clap.specs.Simple.{app_of, new_app, with_rule}
use Rattle.clap.specs.declared.builder.command.Command.TheViews.{out-Command}
use Rattle.mrp_words.proofs.check_words.check_command.Goals as goal

pub returns-clause-app : goal.returns-clause-app
returns-clause-app c =
    let before : app_of c.explained.result ≡ new_app (codes "check") = c.explained.ensures.app in
    IfOk-weaker c.arg.result _ _ (λ made h. h.shape c.required_dir.ensures.local ∙ ap₂ with_rule before c.required_dir.ensures.rule) c.arg.ensures

pub returns-clause-local : goal.returns-clause-local
returns-clause-local c =
    let before : (out-Command c.explained.result).has_globals ≡ false = search rules in
    IfOk-weaker c.arg.result _ _ (λ made h. h.globals ∙ ap₂ (λ (x y : Bool). x || y) before c.required_dir.ensures.local) c.arg.ensures
