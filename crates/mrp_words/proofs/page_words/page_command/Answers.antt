use Rattle.std.proofs.Common.{◌∙◌, ◌≡◌, ◌||◌, Bool, ap₂, codes, rules, false}
use Rattle.std.proofs.lemmas.Result.{IfOk-weaker}
use Rattle.clap.specs.Simple.{app_of, new_app, with_rule}
use Rattle.clap.specs.declared.builder.command.Command.TheViews.{out-Command}
use Rattle.mrp_words.specs.Words.{items_rule, run_rule, title_rule}
use Rattle.mrp_words.proofs.page_words.page_command.Goals as goal

pub returns-clause-app : goal.returns-clause-app
returns-clause-app c =
    let before : app_of c.explained.result ≡ new_app (codes "page") = c.explained.ensures.app in
    let has_run : app_of c.in_ok-arg.field-0 ≡ with_rule (new_app (codes "page")) run_rule = c.in_ok-arg.ensures.shape c.run.ensures.local ∙ ap₂ with_rule before c.run.ensures.rule in
    let has_items : app_of c.in_ok-arg-2.field-0 ≡ with_rule (with_rule (new_app (codes "page")) run_rule) items_rule =
    c.in_ok-arg-2.ensures.shape c.items.ensures.local ∙ ap₂ with_rule has_run c.items.ensures.rule in
    let has_title : app_of c.in_ok-arg-3.field-0 ≡ with_rule (with_rule (with_rule (new_app (codes "page")) run_rule) items_rule) title_rule =
    c.in_ok-arg-3.ensures.shape c.title.ensures.local ∙ ap₂ with_rule has_items c.title.ensures.rule in
    IfOk-weaker c.arg-4.result _ _ (λ made h. h.shape c.dir.ensures.local ∙ ap₂ with_rule has_title c.dir.ensures.rule) c.arg-4.ensures

pub returns-clause-local : goal.returns-clause-local
returns-clause-local c =
    let first : (out-Command c.in_ok-arg.field-0).has_globals ≡ false = search rules in
    let second : (out-Command c.in_ok-arg-2.field-0).has_globals ≡ false = c.in_ok-arg-2.ensures.globals ∙ ap₂ (λ (x y : Bool). x || y) first c.items.ensures.local in
    let third : (out-Command c.in_ok-arg-3.field-0).has_globals ≡ false = c.in_ok-arg-3.ensures.globals ∙ ap₂ (λ (x y : Bool). x || y) second c.title.ensures.local in
    IfOk-weaker c.arg-4.result _ _ (λ made h. h.globals ∙ ap₂ (λ (x y : Bool). x || y) third c.dir.ensures.local) c.arg-4.ensures
