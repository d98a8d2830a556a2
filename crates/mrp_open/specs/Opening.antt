-- What the calls of the folder that an order desk is opened on, and of its journal, have come to (profile).
use Rattle.std.specs.Prelude.{ℕ, ◌≡◌, ◌≢◌, ◌≤◌, ◌⊎◌, Bool, true, false, Option}
use Rattle.mrp_rows.specs.Told.{HasRisenBy, counted, failures_of, interrupted_of}
use Rattle.mrp_rows.specs.declared.streams.TheConstants.{WRITE_TRIES}
use Rattle.mrp_rows.specs.declared.told.Told.{Told}
use Rattle.mrp_journal.specs.Held.{Becomes, Held}
use Rattle.mrp_journal.specs.Journal.{BeginsSafely}
use Rattle.mrp_commands.specs.declared.ending.Ending.{Ending}
use Rattle.mrp_commands.specs.declared.ending.Ending.TheVariants as ending
use Rattle.mrp_open.specs.declared.finding.Found.{Found}

-- whether it is locked, or there is no such folder; whether its journal was opened; whether the names of its files are
-- durable; how often another desk had the lock; and how many other calls failed, of the folder or of its journal
pub record Opening : Type 0 where
  pub is_held : Bool
  pub is_opened : Bool
  pub is_lasting : Bool
  pub in_use : ℕ
  pub failures : ℕ

-- no call was made yet
abbrev pub unopened : Opening
unopened = record { is_held = false; is_opened = false; is_lasting = false; in_use = 0; failures = 0 }

-- the names of its files are durable
abbrev pub lasting : Opening → Opening
lasting o = record o { is_lasting = true }

-- its journal was opened, and its name may be new
abbrev pub with_journal : Opening → Opening
with_journal o = record o { is_opened = true; is_lasting = false }

-- one more call failed
abbrev pub with_failure : Opening → Opening
with_failure o = record o { failures = counted 1 o.failures }

-- the same but for how many calls failed
abbrev pub with_failures : ℕ → Opening → Opening
with_failures failures o = record o { failures = failures }

-- a call failed
pub record HasFailed (old new : Opening) : Type 0 where
  pub risen : HasRisenBy 1 old.failures new.failures
  pub held : new.is_held ≡ old.is_held

-- another desk had the lock
pub record IsInUse (old new : Opening) : Type 0 where
  pub risen : HasRisenBy 1 old.in_use new.in_use
  pub held : new.is_held ≡ old.is_held

-- why a journal was not opened
abbrev pub FailsToOpenJournal : Opening → Opening → Ending → Type 0
FailsToOpenJournal old new end = ((end ≡ ending.NoMemory) × (new ≡ old)) ⊎ ((end ≡ ending.Write) × HasFailed old new)

-- a journal that could not be begun is as it was, or is what it may be while it begins
abbrev pub IsHalfBegun : Found → Option Held → Option Held → Type 0
IsHalfBegun found before after = (after ≡ before) ⊎ Becomes (BeginsSafely found.script.items found.header.now) before after

-- why a journal was not begun: there was no memory to open it, and it is as it was; or a call has failed, of its folder or of
-- its file
abbrev pub FailsToBeginJournal : Found → Opening → Opening → Option Held → Option Held → Ending → Type 0
FailsToBeginJournal found old new before after end =
    ((end ≡ ending.NoMemory) × (new ≡ old) × (after ≡ before)) ⊎ ((end ≡ ending.Write) × HasFailed old new × IsHalfBegun found before after)

-- a call of a folder has failed, or one of its journal
abbrev pub FailsToWrite : Opening → Opening → Type 0
FailsToWrite old new = HasRisenBy 1 old.failures new.failures

-- an output has failed, or was interrupted too often
abbrev pub FailsToAnswer : {W : Type 0} → ℕ → Told W → Type 0
FailsToAnswer failures written = HasRisenBy 1 failures (failures_of written) ⊎ (WRITE_TRIES ≤ interrupted_of written)

-- where a desk that was open ends by a failed write, a call of its journal has failed, or one of its output, or that was
-- interrupted too often; where it ends otherwise, or its output has failed, no other call has
pub record FailsToServe {W : Type 0} (old new : Opening) (output written : Told W) (end : Ending) : Type 0 where
  pub fails : end ≡ ending.Write → FailsToWrite old new ⊎ FailsToAnswer (failures_of output) written
  pub clear : end ≢ ending.Write → new.failures ≡ old.failures
  pub answering : FailsToAnswer (failures_of output) written → new.failures ≡ old.failures

-- where it ends otherwise than by a failed write, no journal was opened
abbrev pub IsUntouched : Opening → Opening → Ending → Type 0
IsUntouched before opened end = (end ≡ ending.Write) ⊎ (opened.is_opened ≡ before.is_opened)

-- and the journal's file is as it was, as far as it is known; or a write has failed, and it is what it may be while it begins
abbrev pub IsUnwritten : Found → Option Held → Option Held → Ending → Type 0
IsUnwritten found before after end = (after ≡ before) ⊎ ((end ≡ ending.Write) × Becomes (BeginsSafely found.script.items found.header.now) before after)
