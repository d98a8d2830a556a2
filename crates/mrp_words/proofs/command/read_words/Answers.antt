use Rattle.std.proofs.Common.{◌∙◌, ◌≡◌, [], List, Option, ap, map, subst, sym, true}
use Rattle.std.proofs.lemmas.Result.{IfOk-weaker}
use Rattle.clap.specs.Walk.{Row, Text}
use Rattle.clap.specs.Simple.{App, app_of, is_simple, subcommand_of, subcommand_rows_of}
use Rattle.clap.specs.Kinds.{HasKind}
use Rattle.clap.specs.Faults.{fault_of, is_simple_and_free}
use Rattle.mrp_words.specs.Words.{HasFolder, IsAsAsked, IsEntered, mrp_command, refusals}
use Rattle.mrp_words.proofs.Asked.{asked-by, asked-for, is-plain, is-simple-command}
use Rattle.mrp_words.proofs.Entered.{enters-one}
use Rattle.mrp_words.proofs.command.read_words.Goals as goal

pub request_of-requires : goal.request_of-requires
request_of-requires g c =
    let words : List Text = map g.S.AsStr.text c.args.words.now in
    let app : app_of c.in_ok-command.field-0 ≡ mrp_command = c.in_ok-command.ensures in
    let plain : is_simple_and_free (app_of c.in_ok-command.field-0) ≡ true = ap is_simple_and_free app ∙ is-plain in
    let simple : is_simple (app_of c.in_ok-command.field-0) ≡ true = ap is_simple app ∙ is-simple-command in
    let entered : subcommand_rows_of c.in-Ok.matches ≡ subcommand_of mrp_command words = (c.in-Ok.ensures.matches simple).1 ∙ ap (λ (a : App). subcommand_of a words) app in
    let taken : refusals words ≡ [] = ap (λ (a : App). fault_of a words) (sym app) ∙ c.in-Ok.ensures.kinds plain in
    subst IsEntered (sym entered) (enters-one words taken)

pub returns-in-Ok-clause-asks : goal.returns-in-Ok-clause-asks
returns-in-Ok-clause-asks g c =
    let words : List Text = map g.S.AsStr.text c.args.words.now in
    let app : app_of c.in_ok-command.field-0 ≡ mrp_command = c.in_ok-command.ensures in
    let plain : is_simple_and_free (app_of c.in_ok-command.field-0) ≡ true = ap is_simple_and_free app ∙ is-plain in
    let simple : is_simple (app_of c.in_ok-command.field-0) ≡ true = ap is_simple app ∙ is-simple-command in
    let entered : subcommand_rows_of c.in-Ok.matches ≡ subcommand_of mrp_command words = (c.in-Ok.ensures.matches simple).1 ∙ ap (λ (a : App). subcommand_of a words) app in
    asked-for words c.request_of.result (ap (λ (a : App). fault_of a words) (sym app) ∙ c.in-Ok.ensures.kinds plain)
    (IfOk-weaker c.request_of.result _ _ (λ request is. subst (λ (e : Option (Text × List Row)). IsAsAsked e request) entered is) c.request_of.ensures.asked)
    (IfOk-weaker c.request_of.result _ _ (λ request is. subst (λ (e : Option (Text × List Row)). HasFolder e request) entered is) c.request_of.ensures.folder) c.request_of.ensures.memory

pub returns-in_ok-no_request-in-Err-clause-asks : goal.returns-in_ok-no_request-in-Err-clause-asks
returns-in_ok-no_request-in-Err-clause-asks g c =
    let words : List Text = map g.S.AsStr.text c.args.words.now in
    let app : app_of c.in_ok-command.field-0 ≡ mrp_command = c.in_ok-command.ensures in
    let plain : is_simple_and_free (app_of c.in_ok-command.field-0) ≡ true = ap is_simple_and_free app ∙ is-plain in
    let has : HasKind (refusals words) c.in-Err.error = subst (λ (a : App). HasKind (fault_of a words) c.in-Err.error) app (c.in-Err.ensures.kinds plain) in
    asked-by words c.in-Err.error c.in_ok-no_request-in-Err.field-0 has c.in_ok-no_request-in-Err.ensures
