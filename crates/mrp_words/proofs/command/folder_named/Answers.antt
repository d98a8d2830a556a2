use Rattle.std.proofs.Common.{◌∙◌, ℕ, List, Bor, codes}
use Rattle.std.proofs.lemmas.Result.{IfOk-weaker}
use Rattle.clap.specs.Matches.{found_of}
use Rattle.clap.specs.Simple.{subcommand_rows_of}
use Rattle.clap.specs.Walk.{Row, rows_of}
use Rattle.clap.specs.declared.parser.matches.ArgMatches.{ArgMatches}
use Rattle.clap.proofs.WalkLemmas.{first_value-rows}
use Rattle.mrp_words.proofs.Asked.{dir-in, dir-out}
use Rattle.mrp_words.proofs.command.folder_named.Goals as goal

abbrev rows_in : Bor (List ℕ) × Bor ArgMatches → List Row
rows_in found = rows_of (found_of found.1.now)

pub returns-in-Some : goal.returns-in-Some
returns-in-Some c =
    IfOk-weaker c.text_in.result _ _
    (λ folder is. is ∙ first_value-rows (found_of c.in-Some.found.now) (codes "dir")
    ∙ dir-in rows_in c.subcommand.result _ (subcommand_rows_of c.args.matches.now) c.in-Some.is c.subcommand.ensures.rows)
    c.text_in.ensures

pub returns-in-None : goal.returns-in-None
returns-in-None c = dir-out rows_in c.subcommand.result (subcommand_rows_of c.args.matches.now) c.in-None.is c.subcommand.ensures.rows
