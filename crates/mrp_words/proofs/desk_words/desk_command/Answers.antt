use Rattle.std.proofs.Common.{◌∙◌, ◌≡◌, ◌||◌, Bool, ap₂, codes, rules, false}
use Rattle.std.proofs.lemmas.Result.{IfOk-weaker}
use Rattle.clap.specs.Simple.{app_of, new_app, with_rule}
use Rattle.clap.specs.declared.builder.command.Command.TheViews.{out-Command}
use Rattle.mrp_words.specs.Words.{workers_rule}
use Rattle.mrp_words.proofs.desk_words.desk_command.Goals as goal

pub returns-clause-app : goal.returns-clause-app
returns-clause-app c =
    let before : app_of c.explained.result ≡ new_app (codes "desk") = c.explained.ensures.app in
    let has_workers : app_of c.in_ok-arg.field-0 ≡ with_rule (new_app (codes "desk")) workers_rule = c.in_ok-arg.ensures.shape c.workers.ensures.local ∙ ap₂ with_rule before c.workers.ensures.rule in
    IfOk-weaker c.arg-2.result _ _ (λ made h. h.shape c.required_dir.ensures.local ∙ ap₂ with_rule has_workers c.required_dir.ensures.rule) c.arg-2.ensures

pub returns-clause-local : goal.returns-clause-local
returns-clause-local c =
    let first : (out-Command c.in_ok-arg.field-0).has_globals ≡ false = search rules in
    IfOk-weaker c.arg-2.result _ _ (λ made h. h.globals ∙ ap₂ (λ (x y : Bool). x || y) first c.required_dir.ensures.local) c.arg-2.ensures
