use Rattle.std.proofs.Common.{◌≡◌, ◌∙◌, ℕ, List, Option, Some, None, Bor, ap, sym}
use Rattle.std.specs.Prelude.{option_map}
use Rattle.clap.specs.Walk.{Row, Text}
use Rattle.mrp_words.specs.Words.{word_of}
use Rattle.mrp_words.proofs.Workers.{day-word, named-as}
use Rattle.mrp_words.proofs.command.command_of.Goals as goal

abbrev text_of : Bor (List ℕ) → List ℕ
text_of name = name.now

same-text : {one other : Text} → Some one ≡ Some other → one ≡ other
same-text e = cc

pub of-requires : goal.of-requires
of-requires c =
    let (command, entered) = c.requires in
    let is : Some c.in-Some.name.now ≡ Some (word_of command) = ap (option_map text_of) (sym c.in-Some.is) ∙ c.subcommand_name.ensures ∙ named-as c.args.matches.now command entered in
    day-word c.in-Some.name.now command (same-text is)

pub returns : goal.returns
returns c =
    let (command, entered) = c.requires in
    let is : Some c.in-Some.name.now ≡ Some (word_of command) = ap (option_map text_of) (sym c.in-Some.is) ∙ c.subcommand_name.ensures ∙ named-as c.args.matches.now command entered in
    let same : word_of command ≡ word_of c.of.result = sym (same-text is) ∙ c.of.ensures in
    let Named : Text → Option (Text × List Row) = λ word. Some (word, entered.0) in
    (entered.0, entered.1 ∙ ap Named same)

pub unreachable-requires : goal.unreachable-requires
unreachable-requires c =
    let (command, entered) = c.requires in
    let none : None ≡ Some (word_of command) = ap (option_map text_of) (sym c.in-None.is) ∙ c.subcommand_name.ensures ∙ named-as c.args.matches.now command entered in
    cc
