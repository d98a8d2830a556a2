use Rattle.clap.specs.Simple.{App, new_app, on_top, with_subcommand}
use Rattle.std.proofs.Common.{codes, true}
use Rattle.mrp_words.specs.Words.{carry_app, check_app, day_app, desk_app, inspect_app, page_app}
use Rattle.mrp_words.specs.declared.day.DayCommand.TheVariants.{Plan, Live}
use Rattle.mrp_words.proofs.command.command.Goals as goal

pub returns : goal.returns
returns c =
    let program : App = on_top (λ s. record s { has_version = true; no_binary_name = true; subcommand_required = true }) (new_app (codes "mrp")) in
    let planned : App = with_subcommand program (day_app Plan).top in
    let lived : App = with_subcommand planned (day_app Live).top in
    let drawn : App = with_subcommand lived page_app.top in
    let checked : App = with_subcommand drawn check_app.top in
    let carried : App = with_subcommand checked carry_app.top in
    let inspected : App = with_subcommand carried inspect_app.top in
    c.with_command.ensures inspected
    (c.with_command-all-6.ensures carried
    (c.with_command-all-5.ensures checked
    (c.with_command-all-4.ensures drawn
    (c.with_command-all-3.ensures lived
    (c.with_command-all-2.ensures planned
    (c.with_command-all.ensures program c.program-all.ensures))))))
