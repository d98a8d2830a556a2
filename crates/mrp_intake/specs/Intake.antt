-- What an intake holds, and what a batch is (profile).
use Rattle.std.specs.Prelude.{ℕ, ◌≡◌, ◌≢◌, ◌≤◌, ◌+◌, ◌⊎◌, ◌==◌, false, List, [], ◌∷◌, ◌++◌, length, Option, Some, None, IfSome, ⊤}
use Rattle.std.specs.List.{All, concat, list_any}
use Rattle.std.specs.Io.KnownBytes.{Consumes, IsAtEnd}
use Rattle.mrp_rows.specs.declared.told.Told.{Told}
use Rattle.mrp_rows.specs.Told.{HasRisenBy, calls_of, inner_of, interrupted_of}
use Rattle.mrp_intake.specs.Lines.{told_lines}
use Rattle.mrp_intake.specs.declared.intake.TheConstants.{PIECE}
use Rattle.mrp_intake.specs.declared.lines.TheConstants.{LONGEST_LINE}

-- the lines of a batch, and what was read of the next line
pub record Taken : Type 0 where
  pub batch : List ℕ
  pub begun : List ℕ

-- no line ends in a text
abbrev pub IsInLine : List ℕ → Type 0
IsInLine text = list_any (λ byte. byte == 10) text ≡ false

-- so much of a line is held until it ends: no more than shows that it is too long
abbrev pub IsShort : List ℕ → Type 0
IsShort text = length text ≤ LONGEST_LINE + 1

-- a line has begun with this
pub record IsBegun (text : List ℕ) : Type 0 where
  pub in_line : IsInLine text
  pub short : IsShort text

-- a text ends as a line does
pub record IsEnded (text : List ℕ) : Type 0 where
  pub front : List ℕ
  pub is : text ≡ front ++ 10 ∷ []

-- the lines that were to come are those of the batch, and those that are still to come
abbrev pub Brings : Taken → Taken → List ℕ → List ℕ → Type 0
Brings old new before after = told_lines (old.begun ++ before) ≡ told_lines new.batch ++ told_lines (new.begun ++ after)

-- the same, as far as it is known what a reader has left
abbrev pub BringsKnown : Taken → Taken → Option (List ℕ) → Option (List ℕ) → Type 0
BringsKnown old new None after = ⊤
BringsKnown old new (Some before) None = ⊥
BringsKnown old new (Some before) (Some after) = Brings old new before after

-- a line is still to come, as far as it is known what a reader has left
abbrev pub IsLineLeft : List ℕ → Option (List ℕ) → Type 0
IsLineLeft begun left = IfSome left (λ text. told_lines (begun ++ text) ≢ [])

-- a batch has whole lines, or it is what stands behind the last line feed of the input
abbrev pub IsBatch : Taken → Option (List ℕ) → Type 0
IsBatch new after = IsEnded new.batch ⊎ ((new.begun ≡ []) × IsAtEnd after)

-- reads gave no line feed
abbrev pub ReadsOn : Option (List ℕ) → Option (List ℕ) → Type 0
ReadsOn before after = (begun : List ℕ) × Consumes before after begun × IsInLine begun

-- a batch is what one read completed: the reads in front of it gave no line feed, and none follows
pub record IsOneRead (before after : Option (List ℕ)) : Type 0 where
  pub between : Option (List ℕ)
  pub waits : ReadsOn before between
  pub last : List ℕ
  pub brings : Consumes between after last
  pub within : length last ≤ PIECE

-- a part of a line, as a read gives it
pub record IsPart (text : List ℕ) : Type 0 where
  pub some : text ≢ []
  pub in_line : IsInLine text

-- calls of a reader, of which some were interrupted: each of the others gave a part of a line, but for so many more, which gave this
pub record Gives {R : Type 0} (remaining : R → Option (List ℕ)) (old new : Told R) (more : ℕ) (last : List ℕ) : Type 0 where
  pub parts : List (List ℕ)
  pub are : All IsPart parts
  pub bytes : Consumes (remaining (inner_of old)) (remaining (inner_of new)) (concat parts ++ last)
  pub retried : ℕ
  pub interrupted : HasRisenBy retried (interrupted_of old) (interrupted_of new)
  pub few : calls_of new ≤ calls_of old + (length parts + retried + more)

-- a reader was read from as long as it gave parts of a line: no call follows one that gave a line feed, or the end
abbrev pub StopsReading : {R : Type 0} → (R → Option (List ℕ)) → Told R → Told R → Type 0
StopsReading remaining old new = (last : List ℕ) × Gives remaining old new 1 last

-- a call that was interrupted is tried again
abbrev pub retries_of : Option ℕ → ℕ
retries_of None = 1
retries_of (Some count) = 0
