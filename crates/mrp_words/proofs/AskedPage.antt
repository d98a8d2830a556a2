-- The page that is asked for, from what clap found.
use Rattle.std.proofs.Common.{◌≡◌, ◌∙◌, inl, inr, ℕ, List, Option, Some, None, Result, Ok, Err, ap, ap₂, sym, codes}
use Rattle.std.specs.Prelude.{option_map}
use Rattle.std.specs.Str.Parse.{ParsesUnsigned}
use Rattle.clap.specs.Matches.{ReadsOne, subcommand_name_of}
use Rattle.clap.specs.Simple.{subcommand_rows_of}
use Rattle.clap.specs.Walk.{Row, Text}
use Rattle.clap.specs.declared.parser.matches.ArgMatches.{ArgMatches}
use Rattle.mrp_words.specs.Words.{Enters, EntersCheckOrDay, EntersUncarried, EntersUninspected, EntersUnpaged, IsEntered, IsRunIn}
use Rattle.mrp_words.specs.declared.day.DayCommand.{DayCommand}
use Rattle.mrp_words.proofs.Workers.{named}

-- the number that is read of the text of `--run`
pub run-of : {E : Type 0} (gives : List ℕ → Result ℕ E → Type 0) (rows : List Row) (number : ℕ) (p : IsRunIn rows number) (result : Option ℕ)
    → ((t : List ℕ) (r : Result ℕ E) → gives t r → ParsesUnsigned 64 10 t r) → ReadsOne gives p.text result → result ≡ Some number
run-of gives rows number p (Some n) parses read = ap (λ (x : ℕ). Some x) ((parses p.text (Ok n) read).1 ∙ sym p.value)
run-of gives rows number p None parses (e, read) = absurd (parses p.text (Err e) read (p.number.0, p.number.1))

-- a name and rows that something has make the pair of both
pub both : {X : Type 0} (f : X → Text) (g : X → List Row) (o : Option X) (name : Text) (rows : List Row) → option_map f o ≡ Some name
    → option_map (λ (p : Text × List Row). p.1) (option_map {U = Text × List Row} (λ x. (f x, g x)) o) ≡ Some rows → option_map {U = Text × List Row} (λ x. (f x, g x)) o ≡ Some (name, rows)
both f g None name rows named has = absurd cc
both f g (Some x) name rows named has =
    let is_name : f x ≡ name = cc in
    let is_rows : g x ≡ rows = cc in
    ap₂ (λ (t : Text) (r : List Row). Some (t, r)) is_name is_rows

-- a command that was entered and is not `desk` is `check`, or makes a day
pub no-desk : (m : ArgMatches) → (subcommand_name_of m ≡ Some (codes "desk") → ⊥) → EntersUninspected (subcommand_rows_of m) → EntersCheckOrDay (subcommand_rows_of m)
no-desk m other (inl entered) = entered
no-desk m other (inr (rows, is)) = absurd (other (named m (codes "desk") rows is))

-- a command that was entered and is not `inspect` is one of the others
pub uninspected : (m : ArgMatches) → (subcommand_name_of m ≡ Some (codes "inspect") → ⊥) → EntersUncarried (subcommand_rows_of m) → EntersUninspected (subcommand_rows_of m)
uninspected m other (inl entered) = entered
uninspected m other (inr (rows, is)) = absurd (other (named m (codes "inspect") rows is))

-- a command that was entered and is neither `page` nor `carry` is one of the others
pub uncarried : (m : ArgMatches) → (subcommand_name_of m ≡ Some (codes "carry") → ⊥) → EntersUnpaged (subcommand_rows_of m) → EntersUncarried (subcommand_rows_of m)
uncarried m other (inl entered) = entered
uncarried m other (inr (rows, is)) = absurd (other (named m (codes "carry") rows is))

-- a command that was entered and is not `page` is another one
pub unpaged : (m : ArgMatches) → (subcommand_name_of m ≡ Some (codes "page") → ⊥) → IsEntered (subcommand_rows_of m) → EntersUnpaged (subcommand_rows_of m)
unpaged m other (inl entered) = entered
unpaged m other (inr (rows, is)) = absurd (other (named m (codes "page") rows is))

-- and what is not `check` makes a day
pub day-entered : (m : ArgMatches) → (subcommand_name_of m ≡ Some (codes "check") → ⊥) → EntersCheckOrDay (subcommand_rows_of m) → (command : DayCommand) × Enters (subcommand_rows_of m) command
day-entered m other (inl day) = day
day-entered m other (inr (rows, is)) = absurd (other (named m (codes "check") rows is))
