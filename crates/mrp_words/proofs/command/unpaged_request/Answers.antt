use Rattle.std.proofs.Common.{◌∙◌, ap, codes, sym}
use Rattle.std.specs.Prelude.{is_some}
use Rattle.std.proofs.lemmas.Bool.{false≢true}
use Rattle.std.specs.Box.{box_value}
use Rattle.clap.specs.Matches.{found_of}
use Rattle.clap.specs.Walk.{rows_of}
use Rattle.clap.specs.declared.parser.matches.ArgMatches.TheViews.{out-ArgMatches, out-SubCommand}
use Rattle.mrp_words.proofs.AskedPage.{both, uncarried}
use Rattle.mrp_words.proofs.command.unpaged_request.Goals as goal

pub uncarried_request-requires : goal.uncarried_request-requires
uncarried_request-requires c =
    uncarried c.args.matches.now (λ named. false≢true (sym (ap is_some c.in-None.is) ∙ c.subcommand_matches.ensures.found.1 named)) c.requires

pub returns-in_ok-carry_words-in-Some-clause-asked : goal.returns-in_ok-carry_words-in-Some-clause-asked
returns-in_ok-carry_words-in-Some-clause-asked c =
    let rows = rows_of (found_of c.in-Some.found.now) in
    let name = c.subcommand_matches.ensures.found.0 (ap is_some c.in-Some.is) in (
      rows,
      both (λ b. (out-SubCommand (box_value b)).name.now) (λ b. rows_of (found_of (out-SubCommand (box_value b)).matches)) (out-ArgMatches c.args.matches.now).subcommand (codes "carry") rows
          name (rw c.in-Some.is at c.subcommand_matches.ensures.rows),
      c.in_ok-carry_words-in-Some.ensures,
    )
