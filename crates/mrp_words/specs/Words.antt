-- What the words of the command line ask for, as `clap` reads them (profile).
use Rattle.std.specs.Prelude.{ℕ, Bool, ◌≡◌, ◌≢◌, ◌⊎◌, ◌-◌, ◌^◌, List, [], ◌∷◌, Option, Some, None, option_and_then, option_map, string_bytes, true, false, codes, Result, Ok, Err, ⊤}
use Rattle.std.specs.Int.{IsInRange}
use Rattle.std.specs.Str.Parse.{digits_value, without_leading_plus}
use Rattle.clap.specs.Walk.{Row, Rule, Text, first_of, one_of}
use Rattle.clap.specs.Simple.{App, new_app, new_rule, on_top, subcommand_of, with_rule, with_subcommand}
use Rattle.clap.specs.Kinds.{IsAmong, Kinds}
use Rattle.clap.specs.Faults.{fault_of}
use Rattle.clap.specs.Values.{IsUnsignedIn}
use Rattle.clap.specs.declared.builder.action.ArgAction.TheVariants.{Set, SetTrue}
use Rattle.clap.specs.declared.builder.command.Command.{Command}
use Rattle.clap.specs.declared.builder.command.Command.TheViews.{out-Command}
use Rattle.clap.specs.declared.builder.value_parser.ValueParser.TheVariants.{Unsigned}
use Rattle.clap.specs.declared.error.kind.ErrorKind.{ErrorKind}
use Rattle.clap.specs.declared.error.kind.ErrorKind.TheVariants.{DisplayHelp, DisplayVersion, OutOfMemory}
use Rattle.mrp_words.specs.declared.command.TheConstants.{MOST_WORKERS}
use Rattle.mrp_words.specs.declared.command.Request.{Request}
use Rattle.mrp_words.specs.declared.command.Request.TheVariants.{Carry, Check, Day, Desk, Inspect, Page}
use Rattle.mrp_words.specs.declared.command.Subcommand.{Subcommand}
use Rattle.mrp_words.specs.declared.command.Subcommand.TheVariants as subcommand
use Rattle.mrp_words.specs.declared.day.DayCommand.{DayCommand}
use Rattle.mrp_words.specs.declared.carry_words.CarryWords.{CarryWords}
use Rattle.mrp_words.specs.declared.page_words.PageWords.{PageWords}
use Rattle.mrp_words.specs.declared.day.DayCommand.TheVariants.{Plan, Live}
use Rattle.mrp_words.specs.declared.command.NoRequest.{NoRequest}
use Rattle.mrp_words.specs.declared.command.NoRequest.TheVariants.{Help, Usage, NoMemory}

-- `--workers N`, a number from 1 to `MOST_WORKERS`, or 1 if it is left out
abbrev pub workers_rule : Rule
workers_rule = record (new_rule (codes "workers")) {
  long = Some (codes "workers");
  action = Some Set;
  value_names = 1;
  defaults = codes "1" ∷ [];
  parser = Some (Unsigned 1 MOST_WORKERS);
}

-- `--dir D`, a text
abbrev pub dir_rule : Rule
dir_rule = record (new_rule (codes "dir")) {
  long = Some (codes "dir");
  action = Some Set;
  value_names = 1;
}

-- the same, but required
abbrev pub required_dir_rule : Rule
required_dir_rule = record dir_rule { required = true }

-- `--run K`, a number from 1
abbrev pub run_rule : Rule
run_rule = record (new_rule (codes "run")) {
  long = Some (codes "run");
  action = Some Set;
  value_names = 1;
  parser = Some (Unsigned 1 (2 ^ 64 - 1));
}

-- `--items A,B`, a text
abbrev pub items_rule : Rule
items_rule = record (new_rule (codes "items")) {
  long = Some (codes "items");
  action = Some Set;
  value_names = 1;
}

-- `--title TEXT`, a text
abbrev pub title_rule : Rule
title_rule = record (new_rule (codes "title")) {
  long = Some (codes "title");
  action = Some Set;
  value_names = 1;
}

-- `--start DATE`, a text, required
abbrev pub start_rule : Rule
start_rule = record (new_rule (codes "start")) {
  long = Some (codes "start");
  action = Some Set;
  value_names = 1;
  required = true;
}

-- `--numbers`, a flag
abbrev pub numbers_rule : Rule
numbers_rule = record (new_rule (codes "numbers")) {
  long = Some (codes "numbers");
  action = Some SetTrue;
}

-- the word of each command that makes a day
abbrev pub word_of : DayCommand → Text
word_of Plan = codes "plan"
word_of Live = codes "live"

-- a word of one of them
abbrev pub IsDayWord : Text → Type 0
IsDayWord word = (word ≡ word_of Plan) ⊎ (word ≡ word_of Live)

-- such a command: its word, and its options
abbrev pub day_app : DayCommand → App
day_app command = with_rule (with_rule (new_app (word_of command)) workers_rule) dir_rule

-- `page`: its word, and its options
abbrev pub page_app : App
page_app = with_rule (with_rule (with_rule (with_rule (new_app (codes "page")) run_rule) items_rule) title_rule) dir_rule

-- `check`: its word, and its required option
abbrev pub check_app : App
check_app = with_rule (new_app (codes "check")) required_dir_rule

-- `carry`: its word, and its options
abbrev pub carry_app : App
carry_app = with_rule (with_rule (with_rule (new_app (codes "carry")) required_dir_rule) start_rule) numbers_rule

-- `inspect`: its word, and its required option
abbrev pub inspect_app : App
inspect_app = with_rule (new_app (codes "inspect")) required_dir_rule

-- `desk`: its word, and its options
abbrev pub desk_app : App
desk_app = with_rule (with_rule (new_app (codes "desk")) workers_rule) required_dir_rule

-- a command of the program
abbrev pub app_with : Subcommand → App
app_with (subcommand.Day command) = day_app command
app_with subcommand.Page = page_app
app_with subcommand.Check = check_app
app_with subcommand.Carry = carry_app
app_with subcommand.Inspect = inspect_app
app_with subcommand.Desk = desk_app

-- no argument of a command is also one of its subcommands
abbrev pub HasNoGlobals : Command → Type 0
HasNoGlobals command = (out-Command command).has_globals ≡ false

-- `mrp`, without its name: one of its subcommands is required
abbrev pub mrp_command : App
mrp_command =
    with_subcommand (
    with_subcommand (
    with_subcommand (
    with_subcommand (
    with_subcommand (
    with_subcommand (
    with_subcommand (on_top (λ s. record s { has_version = true; no_binary_name = true; subcommand_required = true }) (new_app (codes "mrp")))
    (day_app Plan).top)
    (day_app Live).top)
    page_app.top)
    check_app.top)
    carry_app.top)
    inspect_app.top)
    desk_app.top

-- why clap may refuse the words; help is also a refusal, and words that are accepted have none
abbrev pub refusals : List Text → Kinds
refusals words = fault_of mrp_command words

-- the value of `--dir` in the matches of a subcommand
abbrev pub dir_among : Option (Text × List Row) → Option Text
dir_among found = option_and_then (λ rows. first_of (codes "dir") rows.1) found

-- the folder that words name
abbrev pub folder_in : List Text → Option Text
folder_in words = dir_among (subcommand_of mrp_command words)

-- a refusal that is an answer: help, or a version
abbrev pub IsAnswer : ErrorKind → Type 0
IsAnswer kind = (kind ≡ DisplayHelp) ⊎ (kind ≡ DisplayVersion)

-- help, or the version, was asked for
abbrev pub AskForHelp : List Text → Type 0
AskForHelp words = (kind : ErrorKind) × IsAmong kind (refusals words) × IsAnswer kind

-- the words are wrong
abbrev pub AreWrong : List Text → Type 0
AreWrong words = (kind : ErrorKind) × IsAmong kind (refusals words) × (IsAnswer kind → ⊥)

-- 1 to `MOST_WORKERS` workers
abbrev pub HasWorkers : Request → Type 0
HasWorkers (Day command workers folder) = IsInRange 1 MOST_WORKERS workers
HasWorkers (Page words) = ⊤
HasWorkers (Check folder) = ⊤
HasWorkers (Carry words) = ⊤
HasWorkers (Inspect folder) = ⊤
HasWorkers (Desk workers folder) = IsInRange 1 MOST_WORKERS workers

-- the folder whose files are to be planned or inspected, that a day is to be checked against or that has an order desk, is
-- the one that the words name
abbrev pub HasFolder : Option (Text × List Row) → Request → Type 0
HasFolder entered (Day command workers folder) = option_map string_bytes folder ≡ dir_among entered
HasFolder entered (Page words) = ⊤
HasFolder entered (Check folder) = option_map string_bytes folder ≡ dir_among entered
HasFolder entered (Carry words) = ⊤
HasFolder entered (Inspect folder) = option_map string_bytes folder ≡ dir_among entered
HasFolder entered (Desk workers folder) = option_map string_bytes folder ≡ dir_among entered

-- the subcommand that words enter is this command
abbrev pub Enters : Option (Text × List Row) → DayCommand → Type 0
Enters entered command = (rows : List Row) × (entered ≡ Some (word_of command, rows))

-- the subcommand that words enter is `page`, with these rows
abbrev pub EntersPage : Option (Text × List Row) → List Row → Type 0
EntersPage entered rows = entered ≡ Some (codes "page", rows)

-- the subcommand that words enter is `check`, with these rows
abbrev pub EntersCheck : Option (Text × List Row) → List Row → Type 0
EntersCheck entered rows = entered ≡ Some (codes "check", rows)

-- words enter `check`, or a command that makes a day
abbrev pub EntersCheckOrDay : Option (Text × List Row) → Type 0
EntersCheckOrDay entered = ((command : DayCommand) × Enters entered command) ⊎ ((rows : List Row) × EntersCheck entered rows)

-- the subcommand that words enter is `inspect`, with these rows
abbrev pub EntersInspect : Option (Text × List Row) → List Row → Type 0
EntersInspect entered rows = entered ≡ Some (codes "inspect", rows)

-- the subcommand that words enter is `desk`, with these rows
abbrev pub EntersDesk : Option (Text × List Row) → List Row → Type 0
EntersDesk entered rows = entered ≡ Some (codes "desk", rows)

-- words enter a command other than `page`, `carry` and `inspect`
abbrev pub EntersUninspected : Option (Text × List Row) → Type 0
EntersUninspected entered = EntersCheckOrDay entered ⊎ ((rows : List Row) × EntersDesk entered rows)

-- words enter a command other than `page` and `carry`
abbrev pub EntersUncarried : Option (Text × List Row) → Type 0
EntersUncarried entered = EntersUninspected entered ⊎ ((rows : List Row) × EntersInspect entered rows)

-- the subcommand that words enter is `carry`, with these rows
abbrev pub EntersCarry : Option (Text × List Row) → List Row → Type 0
EntersCarry entered rows = entered ≡ Some (codes "carry", rows)

-- words enter a command other than `page`
abbrev pub EntersUnpaged : Option (Text × List Row) → Type 0
EntersUnpaged entered = EntersUncarried entered ⊎ ((rows : List Row) × EntersCarry entered rows)

-- words enter one of the commands
abbrev pub IsEntered : Option (Text × List Row) → Type 0
IsEntered entered = EntersUnpaged entered ⊎ ((rows : List Row) × EntersPage entered rows)

-- the run that rows name
pub record IsRunIn (rows : List Row) (run : ℕ) : Type 0 where
  pub text : Text
  pub given : one_of (codes "run") rows ≡ Some text
  pub number : IsUnsignedIn 1 (2 ^ 64 - 1) text
  pub value : run ≡ digits_value 10 (without_leading_plus text)

-- rows name this run, or none, these items, this title and this folder of tables
pub record ArePageRows (rows : List Row) (run : Option ℕ) (items title folder : Option Text) : Type 0 where
  pub named : (number : ℕ) → IsRunIn rows number → run ≡ Some number
  pub last : one_of (codes "run") rows ≡ None → run ≡ None
  pub of_items : items ≡ first_of (codes "items") rows
  pub titled : title ≡ first_of (codes "title") rows
  pub of_tables : folder ≡ first_of (codes "dir") rows

-- a page is asked for by what rows name
abbrev pub HasPageWords : List Row → PageWords → Type 0
HasPageWords rows words = ArePageRows rows words.run (option_map string_bytes words.items) (option_map string_bytes words.title) (option_map string_bytes words.folder)

-- words ask for the page of this run, with these items, this title and the tables of this folder
abbrev pub AskForPage : List Text → Option ℕ → Option Text → Option Text → Option Text → Type 0
AskForPage words run items title folder = (rows : List Row) × EntersPage (subcommand_of mrp_command words) rows × ArePageRows rows run items title folder

-- rows name this folder and this start, and have the flag of the numbers or not
pub record AreCarryRows (rows : List Row) (folder start : Option Text) (numbers : Bool) : Type 0 where
  pub of_folder : folder ≡ first_of (codes "dir") rows
  pub from : start ≡ first_of (codes "start") rows
  pub flagged : one_of (codes "numbers") rows ≡ Some (codes "true") → numbers ≡ true
  pub bare : one_of (codes "numbers") rows ≡ Some (codes "false") → numbers ≡ false
  pub absent : one_of (codes "numbers") rows ≡ None → numbers ≡ false

-- bookings are to be carried as rows say
abbrev pub HasCarryWords : List Row → CarryWords → Type 0
HasCarryWords rows words = AreCarryRows rows (option_map string_bytes words.folder) (option_map string_bytes words.start) words.numbers

-- words ask for the bookings of this folder to be carried from this start on, as a script or as a list of numbers
abbrev pub AskForCarry : List Text → Text → Text → Bool → Type 0
AskForCarry words folder start numbers = (rows : List Row) × EntersCarry (subcommand_of mrp_command words) rows × AreCarryRows rows (Some folder) (Some start) numbers

-- words ask for a check against the files of this folder
abbrev pub AskForCheck : List Text → Text → Type 0
AskForCheck words folder = ((rows : List Row) × EntersCheck (subcommand_of mrp_command words) rows) × (folder_in words ≡ Some folder)

-- words ask for the files of this folder to be inspected
abbrev pub AskForInspection : List Text → Text → Type 0
AskForInspection words folder = ((rows : List Row) × EntersInspect (subcommand_of mrp_command words) rows) × (folder_in words ≡ Some folder)

-- the subcommand that words enter has so many workers: the number of `--workers`, or the default
pub record IsBy (entered : Option (Text × List Row)) (workers : ℕ) : Type 0 where
  pub name : Text
  pub rows : List Row
  pub is : entered ≡ Some (name, rows)
  pub text : Text
  pub given : one_of (codes "workers") rows ≡ Some text
  pub number : IsUnsignedIn 1 MOST_WORKERS text
  pub value : workers ≡ digits_value 10 (without_leading_plus text)

-- words ask for a command with so many workers
abbrev pub AskFor : List Text → DayCommand → ℕ → Type 0
AskFor words command workers = Enters (subcommand_of mrp_command words) command × IsBy (subcommand_of mrp_command words) workers

-- words ask for an order desk of this folder, with so many workers
abbrev pub AskForDesk : List Text → Text → ℕ → Type 0
AskForDesk words folder workers = ((rows : List Row) × EntersDesk (subcommand_of mrp_command words) rows) × (folder_in words ≡ Some folder) × IsBy (subcommand_of mrp_command words) workers

-- a request is for the command that words enter, and has the workers, or the words of the page, that are asked for
abbrev pub IsAsAsked : Option (Text × List Row) → Request → Type 0
IsAsAsked entered (Day command workers folder) = Enters entered command × ((asked : ℕ) → IsBy entered asked → workers ≡ asked)
IsAsAsked entered (Page words) = (rows : List Row) × EntersPage entered rows × HasPageWords rows words
IsAsAsked entered (Check folder) = (rows : List Row) × EntersCheck entered rows
IsAsAsked entered (Carry words) = (rows : List Row) × EntersCarry entered rows × HasCarryWords rows words
IsAsAsked entered (Inspect folder) = (rows : List Row) × EntersInspect entered rows
IsAsAsked entered (Desk workers folder) = ((rows : List Row) × EntersDesk entered rows) × ((asked : ℕ) → IsBy entered asked → workers ≡ asked)

-- what an error of `clap` asks for, by its kind
abbrev pub IsOfKind : ErrorKind → NoRequest → Type 0
IsOfKind kind (Help text) = IsAnswer kind
IsOfKind kind (Usage text) = (kind ≢ OutOfMemory) × (IsAnswer kind → ⊥)
IsOfKind kind NoMemory = kind ≡ OutOfMemory

-- what the words ask for, or out of memory
abbrev pub Asks : List Text → Result Request NoRequest → Type 0
Asks words (Ok request) = (refusals words ≡ []) × IsAsAsked (subcommand_of mrp_command words) request × HasFolder (subcommand_of mrp_command words) request
Asks words (Err (Help text)) = AskForHelp words
Asks words (Err (Usage text)) = AreWrong words
Asks words (Err NoMemory) = ⊤
