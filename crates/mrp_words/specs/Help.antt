-- What the help says of the commands that make a day.
use Rattle.std.specs.Prelude.{ℕ, List}
use Rattle.mrp_words.specs.declared.command.TheConstants.{ABOUT_LIVE, ABOUT_PLAN, LINE_LIVE, LINE_PLAN}
use Rattle.mrp_words.specs.declared.day.DayCommand.{DayCommand}
use Rattle.mrp_words.specs.declared.day.DayCommand.TheVariants.{Live, Plan}

-- in one line, among all commands
abbrev pub help_line : DayCommand → List ℕ
help_line Plan = LINE_PLAN.now
help_line Live = LINE_LIVE.now

-- in full
abbrev pub help_text : DayCommand → List ℕ
help_text Plan = ABOUT_PLAN.now
help_text Live = ABOUT_LIVE.now
