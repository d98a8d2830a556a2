use Rattle.std.proofs.Common.{◌≡◌, ◌∙◌, ℕ, List, Some, None, Bor, ap, sym}
use Rattle.std.specs.Prelude.{option_map}
use Rattle.std.specs.Str.Parse.{ExplainsUnsignedError, HasUnsignedDigitsIfOk, ParsesUnsigned}
use Rattle.clap.specs.Matches.{found_of}
use Rattle.clap.specs.Simple.{subcommand_rows_of}
use Rattle.clap.specs.Walk.{Row, Text, rows_of}
use Rattle.clap.specs.declared.parser.matches.ArgMatches.{ArgMatches}
use Rattle.mrp_words.proofs.Workers.{number-of, text-of}
use Rattle.mrp_words.proofs.command.workers_of.Goals as goal

abbrev rows_in : Bor (List ℕ) × Bor ArgMatches → List Row
rows_in found = rows_of (found_of found.1.now)

pub returns-in-Some : goal.returns-in-Some
returns-in-Some c asked p =
    let entered : Some (rows_of (found_of c.in-Some.found.now)) ≡ option_map (λ (q : Text × List Row). q.1) (subcommand_rows_of c.args.matches.now) =
    ap (option_map rows_in) (sym c.in-Some.is) ∙ c.subcommand.ensures.rows in
    number-of (λ t r. ParsesUnsigned 64 10 t r × ExplainsUnsignedError 10 t r × HasUnsignedDigitsIfOk t r) (subcommand_rows_of c.args.matches.now) asked p c.get_one.result (λ t r g. g.0)
    (c.get_one.ensures.value p.text (text-of c.args.matches.now c.in-Some.found.now asked p entered))

pub returns-in-None : goal.returns-in-None
returns-in-None c asked p =
    let entered : option_map rows_in c.subcommand.result ≡ option_map (λ (q : Text × List Row). q.1) (subcommand_rows_of c.args.matches.now) = c.subcommand.ensures.rows in
    let given : option_map (λ (q : Text × List Row). q.1) (subcommand_rows_of c.args.matches.now) ≡ Some p.rows = ap (option_map (λ (q : Text × List Row). q.1)) p.is in
    let none : None ≡ Some p.rows = ap (option_map rows_in) (sym c.in-None.is) ∙ entered ∙ given in
    absurd (cc)
