-- What is written of how a command ended (profile).
use Rattle.std.specs.Prelude.{ℕ, ◌≡◌, ◌⊎◌, List, [], ◌∷◌, ◌++◌, Option, codes, string_bytes}
use Rattle.mrp_rows.specs.declared.told.Told.{Told}
use Rattle.mrp_rows.specs.declared.streams.TheConstants.{WRITE_TRIES}
use Rattle.mrp_report.specs.Taken.{HasTakenAll}
use Rattle.mrp_report.specs.Written.{HasGivenUp, HasTakenFront}
use Rattle.mrp_commands.specs.declared.ending.Ending.{Ending}
use Rattle.mrp_commands.specs.declared.ending.Ending.TheVariants.{Done, InUse, LeftBehind, Refused, TablesChanged, TooLarge, WrongShape, Wrong, NoRun, NoStart, Usage, NoMemory, Read, Write, WrongTables}

-- what is written to the error stream for an ending
abbrev pub words_of : Ending → List ℕ
words_of Done = []
words_of (LeftBehind text) = string_bytes text ++ 10 ∷ []
words_of (Refused text) = codes "refused: " ++ string_bytes text ++ 10 ∷ []
words_of (TooLarge name) = codes "too large: " ++ name ++ 10 ∷ []
words_of WrongShape = codes "wrong: shape" ++ 10 ∷ []
words_of WrongTables = codes "wrong: tables" ++ 10 ∷ []
words_of InUse = codes "in use" ++ 10 ∷ []
words_of TablesChanged = codes "tables changed" ++ 10 ∷ []
words_of Wrong = []
words_of NoRun = codes "no such run" ++ 10 ∷ []
words_of (NoStart range) = codes "no such start: expected a Monday from " ++ string_bytes range ++ 10 ∷ []
words_of (Usage text) = string_bytes text
words_of NoMemory = codes "no memory" ++ 10 ∷ []
words_of Read = codes "read failed" ++ 10 ∷ []
words_of Write = codes "write failed" ++ 10 ∷ []

-- a text was written, and this is the ending of a command that has written it; or the output gave up with a
-- prefix of it
abbrev pub Says : {W : Type 0} → (W → Option (List ℕ)) → Told W → Told W → List ℕ → Ending → Ending → Type 0
Says contents output written text said end =
    ((end ≡ said) × HasTakenAll contents output written text) ⊎ ((end ≡ Write) × HasGivenUp output written WRITE_TRIES × HasTakenFront contents output written text)
