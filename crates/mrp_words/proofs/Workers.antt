-- The command and the workers that are asked for, from what clap found.
use Rattle.std.proofs.Common.{◌≡◌, ◌∙◌, ℕ, List, Option, Some, None, Result, Ok, Err, ap, sym, codes, inl, inr}
use Rattle.std.specs.Prelude.{option_map}
use Rattle.std.specs.Box.{box_value}
use Rattle.std.specs.Str.Parse.{ParsesUnsigned}
use Rattle.clap.specs.Matches.{ReadsOne, found_of, one_text, subcommand_name_of}
use Rattle.clap.specs.Simple.{subcommand_rows_of}
use Rattle.clap.specs.Walk.{Row, Text, one_of, rows_of}
use Rattle.clap.specs.declared.parser.matches.ArgMatches.{ArgMatches}
use Rattle.clap.specs.declared.parser.matches.ArgMatches.TheViews.{out-ArgMatches, out-SubCommand}
use Rattle.clap.proofs.WalkLemmas.{one_text-rows}
use Rattle.mrp_words.specs.Words.{Enters, IsBy, IsDayWord, word_of}
use Rattle.mrp_words.specs.declared.day.DayCommand.{DayCommand}
use Rattle.mrp_words.specs.declared.day.DayCommand.TheVariants.{Plan, Live}

named-one : {X : Type 0} (f : X → Text) (g : X → List Row) (o : Option X) (name : Text) (rows : List Row) → option_map {U = Text × List Row} (λ x. (f x, g x)) o ≡ Some (name, rows) → option_map f o ≡ Some name
named-one f g None name rows e = cc
named-one f g (Some x) name rows e =
    let given : Text × List Row = (f x, g x) in
    let asked : Text × List Row = (name, rows) in
    let same : given ≡ asked = cc in
    ap (λ (p : Text × List Row). Some p.0) same

-- the subcommand that was entered has its name
pub named : (m : ArgMatches) (name : Text) (rows : List Row) → subcommand_rows_of m ≡ Some (name, rows) → subcommand_name_of m ≡ Some name
named m name rows entered =
    named-one (λ b. (out-SubCommand (box_value b)).name.now) (λ b. rows_of (found_of (out-SubCommand (box_value b)).matches)) (out-ArgMatches m).subcommand name rows entered

-- the name of what was entered is the command's word
pub named-as : (m : ArgMatches) (command : DayCommand) → Enters (subcommand_rows_of m) command → subcommand_name_of m ≡ Some (word_of command)
named-as m command (rows, entered) = named m (word_of command) rows entered

-- a command's word is a word of a day
pub day-word : (word : Text) (command : DayCommand) → word ≡ word_of command → IsDayWord word
day-word word Plan is = inl is
day-word word Live is = inr is

-- the text of the number of workers
pub text-of : (m found : ArgMatches) (asked : ℕ) → (p : IsBy (subcommand_rows_of m) asked) → Some (rows_of (found_of found)) ≡ option_map (λ (q : Text × List Row). q.1) (subcommand_rows_of m)
    → one_text (found_of found) (codes "workers") ≡ Some p.text
text-of m found asked p entered =
    let rows : Some p.rows ≡ Some (rows_of (found_of found)) = ap (option_map (λ (q : Text × List Row). q.1)) (sym p.is) ∙ sym entered in
    let same : p.rows ≡ rows_of (found_of found) = cc in
    one_text-rows (found_of found) (codes "workers") ∙ ap (one_of (codes "workers")) (sym same) ∙ p.given

-- and the number that is read of it
pub number-of : {E : Type 0} (gives : List ℕ → Result ℕ E → Type 0) (entered : Option (Text × List Row)) (asked : ℕ) (p : IsBy entered asked) (result : Option ℕ)
    → ((t : List ℕ) (r : Result ℕ E) → gives t r → ParsesUnsigned 64 10 t r) → ReadsOne gives p.text result → result ≡ Some asked
number-of gives entered asked p (Some n) parses read = ap (λ (x : ℕ). Some x) ((parses p.text (Ok n) read).1 ∙ sym p.value)
number-of gives entered asked p None parses (e, read) = absurd (parses p.text (Err e) read (p.number.0, p.number.1))
