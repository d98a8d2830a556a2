use Rattle.std.proofs.Common.{◌≡◌, ◌∙◌, Some, ap, codes, sym}
use Rattle.std.specs.Prelude.{is_some}
use Rattle.std.proofs.lemmas.Bool.{false≢true}
use Rattle.std.specs.Box.{box_value}
use Rattle.clap.specs.Matches.{found_of}
use Rattle.clap.specs.Simple.{subcommand_rows_of}
use Rattle.clap.specs.Walk.{rows_of}
use Rattle.clap.specs.declared.parser.matches.ArgMatches.TheViews.{out-ArgMatches, out-SubCommand}
use Rattle.clap.proofs.WalkLemmas.{first_value-rows}
use Rattle.mrp_words.specs.Words.{dir_among}
use Rattle.mrp_words.proofs.AskedPage.{both, no-desk}
use Rattle.mrp_words.proofs.command.uninspected_request.Goals as goal

pub check_or_day-requires : goal.check_or_day-requires
check_or_day-requires c =
    no-desk c.args.matches.now (λ named. false≢true (sym (ap is_some c.in-None.is) ∙ c.subcommand_matches.ensures.found.1 named)) c.requires

pub returns-in_ok-folder-in-Some-clause-asked : goal.returns-in_ok-folder-in-Some-clause-asked
returns-in_ok-folder-in-Some-clause-asked c =
    let rows = rows_of (found_of c.in-Some.found.now) in
    let name = c.subcommand_matches.ensures.found.0 (ap is_some c.in-Some.is) in (
      (
        rows,
        both (λ b. (out-SubCommand (box_value b)).name.now) (λ b. rows_of (found_of (out-SubCommand (box_value b)).matches)) (out-ArgMatches c.args.matches.now).subcommand (codes "desk") rows
            name (rw c.in-Some.is at c.subcommand_matches.ensures.rows),
      ),
      c.workers_taken-workers.ensures.asked,
    )

pub returns-in_ok-folder-in-Some-clause-folder : goal.returns-in_ok-folder-in-Some-clause-folder
returns-in_ok-folder-in-Some-clause-folder c =
    let rows = rows_of (found_of c.in-Some.found.now) in
    let name = c.subcommand_matches.ensures.found.0 (ap is_some c.in-Some.is) in
    let entered : subcommand_rows_of c.args.matches.now ≡ Some (codes "desk", rows) =
    both (λ b. (out-SubCommand (box_value b)).name.now) (λ b. rows_of (found_of (out-SubCommand (box_value b)).matches)) (out-ArgMatches c.args.matches.now).subcommand (codes "desk") rows
    name (rw c.in-Some.is at c.subcommand_matches.ensures.rows) in
    c.in_ok-folder-in-Some.ensures ∙ first_value-rows (found_of c.in-Some.found.now) (codes "dir") ∙ sym (ap dir_among entered)
