-- What an order desk has done with the lines of its input (profile).
use Rattle.std.specs.Prelude.{ℕ, ◌≡◌, ◌≢◌, ◌≤◌, ◌⊎◌, ◌+◌, List, [], ◌++◌, Option, Some, None, IfSome, ⊤, option_map}
use Rattle.std.specs.Io.KnownBytes.{Appends, Keeps}
use Rattle.mrp_rows.specs.Streams.{WritesFront}
use Rattle.mrp_rows.specs.Told.{HasRisenBy, calls_of, failures_of, greatest_count, inner_of, interrupted_of}
use Rattle.mrp_rows.specs.declared.streams.TheConstants.{READ_CALLS, WRITE_TRIES}
use Rattle.mrp_rows.specs.declared.told.Told.{Told}
use Rattle.mrp_book.specs.Standing.{History}
use Rattle.mrp_intake.specs.Lines.{told_lines}
use Rattle.mrp_journal.specs.Held.{AppendsFront, Becomes, Held}
use Rattle.mrp_journal.specs.Journal.{KeepsSafely, with_more}
use Rattle.mrp_folder.specs.Sealed.{failures_of_sealed, journal_of}
use Rattle.mrp_folder.specs.declared.sealing.SealedJournal.{SealedJournal}
use Rattle.mrp_calls.specs.Answers.{Answers}
use Rattle.mrp_calls.specs.Desk.{Desk}
use Rattle.mrp_commands.specs.declared.ending.Ending.{Ending}
use Rattle.mrp_commands.specs.declared.ending.Ending.TheVariants as ending
use Rattle.mrp_words.specs.Folder.{Known}
use Rattle.mrp_open.specs.Runs.{Handed, HandsAllMissing, HandsOverAll}

-- an input: what is left of it, as far as that is known, and how many of its calls were made, were interrupted and failed
pub record Source : Type 0 where
  pub left : Option (List ℕ)
  pub calls : ℕ
  pub interrupted : ℕ
  pub failures : ℕ

-- a reader as an input
abbrev pub source_of : {R : Type 0} → (R → Option (List ℕ)) → Told R → Source
source_of remaining input = record { left = remaining (inner_of input); calls = calls_of input; interrupted = interrupted_of input; failures = failures_of input }

-- a desk with its journal and its output, as far as these are known; and how many calls of the journal failed, and of the
-- output were made, failed and were interrupted
pub record Stand : Type 0 where
  pub desk : Desk
  pub journal : Option Held
  pub journal_failures : ℕ
  pub output : Option (List ℕ)
  pub output_calls : ℕ
  pub output_failures : ℕ
  pub output_interrupted : ℕ

-- a desk with the file of its journal and with a writer
abbrev pub stand_of : {S W : Type 0} → (S → Option Held) → (S → ℕ) → (W → Option (List ℕ)) → Desk → S → Told W → Stand
stand_of held failures contents desk journal output = record {
  desk = desk;
  journal = held journal;
  journal_failures = failures journal;
  output = contents (inner_of output);
  output_calls = calls_of output;
  output_failures = failures_of output;
  output_interrupted = interrupted_of output;
}

-- the same where the journal is sealed: the calls that put its seal there count too
abbrev pub sealed_stand : {S D W : Type 0} → (S → Option Held) → (S → ℕ) → (W → Option (List ℕ)) → Desk → SealedJournal S D → Told W → Stand
sealed_stand {S} {D} held failures contents desk journal output =
    stand_of (λ (j : SealedJournal S D). held (journal_of j)) (λ (j : SealedJournal S D). failures_of_sealed j + failures (journal_of j)) contents desk journal output

-- a text was written to an output, which then was called once more and kept what was written, as a flush does
pub record Flushes (old new : Stand) (text : List ℕ) : Type 0 where
  pub written : Option (List ℕ)
  pub calls : ℕ
  pub appends : Appends old.output written text
  pub keeps : Keeps written new.output
  pub called : HasRisenBy 1 calls new.output_calls

-- lines were answered: their records are durable behind the journal, and then their answers were written and, if there are
-- any, flushed; no call failed
pub record Settles (lines : List (List ℕ)) (old new : Stand) : Type 0 where
  pub answers : List ℕ
  pub records : List ℕ
  pub answered : Answers lines old.desk answers records new.desk
  pub kept : new.journal ≡ option_map (with_more records) old.journal
  pub told : Appends old.output new.output answers
  pub flushed : ((lines ≡ []) × (new ≡ old)) ⊎ Flushes old new answers
  pub sound : new.journal_failures ≡ old.journal_failures
  pub clear : new.output_failures ≡ old.output_failures

-- a call of the journal has failed, or one of the output, or that was interrupted too often
abbrev pub FailsToSettle : Stand → Stand → Type 0
FailsToSettle old new =
    HasRisenBy 1 old.journal_failures new.journal_failures ⊎ (HasRisenBy 1 old.output_failures new.output_failures ⊎ HasRisenBy WRITE_TRIES old.output_interrupted new.output_interrupted)

-- lines were answered, and then the journal or the output failed: of the records a front may be there, and nothing was tried
-- again or cut off; of the answers a front was written, but none before all records were durable
pub record Breaks (lines : List (List ℕ)) (old new : Stand) : Type 0 where
  pub answers : List ℕ
  pub records : List ℕ
  pub answered : Answers lines old.desk answers records new.desk
  pub safe : Becomes (KeepsSafely records) old.journal new.journal
  pub front : WritesFront old.output new.output answers
  pub durable : Keeps old.output new.output ⊎ (new.journal ≡ option_map (with_more records) old.journal)
  pub left : AppendsFront records old.journal new.journal ⊎ (new.journal ≡ option_map (with_more records) old.journal)
  pub fails : FailsToSettle old new

-- lines were not settled: there was no memory, and nothing has changed or failed; or the journal or the output failed
abbrev pub Fails : List (List ℕ) → Stand → Stand → Ending → Type 0
Fails lines old new end = ((end ≡ ending.NoMemory) × (new ≡ old)) ⊎ ((end ≡ ending.Write) × Breaks lines old new)

-- no more lines were settled, and nothing has changed or failed but the input; or the journal or the output failed
abbrev pub Stops : List (List ℕ) → Stand → Stand → Ending → Type 0
Stops lines old new end = ((end ≢ ending.Write) × (new ≡ old)) ⊎ ((end ≡ ending.Write) × Breaks lines old new)

-- the runs of the entries that a desk has made since were handed over
pub record HandsMore (old new : History) (handed_old handed_new : Handed) : Type 0 where
  pub more : History
  pub is : new ≡ old ++ more
  pub handed : HandsOverAll more handed_old handed_new

-- lines were settled, and then their runs were handed over
pub record SettlesRuns (lines : List (List ℕ)) (old new : Stand) (handed_old handed_new : Handed) : Type 0 where
  pub settled : Settles lines old new
  pub handed : HandsMore old.desk.entries new.desk.entries handed_old handed_new

-- the lines that were to come, behind what was read of the first, were these and those that are still to come, as far as
-- that is known
abbrev pub BringsLines : List ℕ → Option (List ℕ) → List (List ℕ) → List ℕ → Option (List ℕ) → Type 0
BringsLines begun None lines next left = ⊤
BringsLines begun (Some before) lines next None = ⊥
BringsLines begun (Some before) lines next (Some after) = told_lines (begun ++ before) ≡ lines ++ told_lines (next ++ after)

-- lines of an input were settled, and then their runs were handed over; no call of the input failed
pub record Advances (begun : List ℕ) (given : Source) (next : List ℕ) (left : Source) (old new : Stand) (handed_old handed_new : Handed) : Type 0 where
  pub lines : List (List ℕ)
  pub brings : BringsLines begun given.left lines next left.left
  pub heard : left.failures ≡ given.failures
  pub settles : SettlesRuns lines old new handed_old handed_new

-- why an order desk that was open ends
abbrev pub IsServingEnd : Ending → Type 0
IsServingEnd end = (end ≡ ending.Done) ⊎ ((end ≡ ending.NoMemory) ⊎ ((end ≡ ending.Read) ⊎ (end ≡ ending.Write)))

-- a call of an input has failed, or it was interrupted as often as can be counted, or read from as often as may be
-- without a line
abbrev pub FailsToRead : Source → Source → Type 0
FailsToRead old new = HasRisenBy 1 old.failures new.failures ⊎ ((greatest_count ≤ new.interrupted) ⊎ HasRisenBy READ_CALLS old.calls new.calls)

-- an order desk has stopped in a batch of lines, or as it read them; where it is done, no line is left, and where it had no
-- memory, a line was to come
pub record StopsAt (begun : List ℕ) (given left : Source) (old new : Stand) (end : Ending) : Type 0 where
  pub lines : List (List ℕ)
  pub rest : List (List ℕ)
  pub given_are : IfSome given.left (λ text. told_lines (begun ++ text) ≡ lines ++ rest)
  pub stopped : Stops lines old new end
  pub fails : end ≡ ending.Read → FailsToRead given left
  pub clear : end ≢ ending.Read → left.failures ≡ given.failures
  pub all : end ≡ ending.Done → (lines ≡ []) × (rest ≡ []) × (new ≡ old)
  pub memory : end ≡ ending.NoMemory → lines ++ rest ≢ []
  pub ends : IsServingEnd end

-- an order desk has answered lines of its input, one after the other, handed over their runs, and stopped in a batch of
-- more lines, or as it read them; at the end of the input all lines are answered; where it had no memory, a line was to come;
-- what has failed failed in that batch, and is what the end tells
pub record Serves (given left : Source) (old new : Stand) (handed_old handed_new : Handed) (end : Ending) : Type 0 where
  pub lines : List (List ℕ)
  pub more : List (List ℕ)
  pub rest : List (List ℕ)
  pub waiting : Source
  pub between : Stand
  pub given_are : IfSome given.left (λ text. told_lines text ≡ lines ++ (more ++ rest))
  pub heard : waiting.failures ≡ given.failures
  pub settles : SettlesRuns lines old between handed_old handed_new
  pub stopped : Stops more between new end
  pub fails : end ≡ ending.Read → FailsToRead waiting left
  pub clear : end ≢ ending.Read → left.failures ≡ waiting.failures
  pub all : end ≡ ending.Done → (more ≡ []) × (rest ≡ []) × (new ≡ between)
  pub memory : end ≡ ending.NoMemory → more ++ rest ≢ []
  pub ends : IsServingEnd end

-- runs of the journal without a file in the folder are handed over, and then lines of the input are answered
abbrev pub MakesUp : Known → List ℕ → Source → Source → Stand → Stand → Handed → Handed → Ending → Type 0
MakesUp known folder given left old new handed_old handed_new end =
    (handed : Handed) × HandsAllMissing known folder old.desk.entries handed_old handed × Serves given left old new handed handed_new end
