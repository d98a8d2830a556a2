use Rattle.std.proofs.Common.{◌∙◌, ◌≡◌, ap, codes, true}
use Rattle.std.proofs.lemmas.Result.{IfOk-weaker}
use Rattle.clap.specs.Simple.{App, app_of, app_of_fields, new_app, on_top}
use Rattle.clap.specs.declared.builder.command.Command.{Command}
use Rattle.clap.specs.declared.builder.command.Command.TheOpen.{Command-F}
use Rattle.mrp_words.proofs.command.program.Goals as goal

pub returns : goal.returns
returns c =
    let told : app_of c.about.result ≡ new_app (codes "mrp") = ap app_of_fields c.about.ensures ∙ c.new.ensures.app in
    let versioned : app_of c.version.result ≡ on_top (λ s. record s { has_version = true }) (new_app (codes "mrp")) =
    ap app_of_fields c.version.ensures ∙ ap (λ (a : App). on_top (λ s. record s { has_version = true }) a) told in
    let top_before : app_of c.after_help.result ≡ on_top (λ s. record s { has_version = true }) (new_app (codes "mrp")) = ap app_of_fields c.after_help.ensures ∙ versioned in
    let top_is : app_of c.subcommand_required.result ≡ on_top (λ s. record s { has_version = true; no_binary_name = true; subcommand_required = true }) (new_app (codes "mrp")) =
    ap app_of_fields c.subcommand_required.ensures ∙ ap (λ (f : Command-F Command). app_of_fields (record f { subcommand_required = true })) c.no_binary_name.ensures
    ∙ ap (λ (a : App). on_top (λ s. record s { no_binary_name = true; subcommand_required = true }) a) top_before in
    IfOk-weaker c.bin_name.result _ _ (λ made h. ap app_of_fields h.0 ∙ top_is) c.bin_name.ensures
