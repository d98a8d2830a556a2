-- What making a day leaves of its reader and its writer.
use Rattle.std.specs.Prelude.{ℕ, ◌≡◌, ◌≢◌, ◌≤◌, ◌+◌, ◌⊎◌, List, Option, IfErr, IfSome, OnErr, OnOk, Result, Ok, Err, length, ⊤}
use Rattle.std.specs.Io.KnownBytes.{IsAtEnd}
use Rattle.mrp_rows.specs.Streams.{TakesFront}
use Rattle.mrp_rows.specs.declared.fault.Fault.{Fault}
use Rattle.mrp_rows.specs.declared.told.Told.{Told}
use Rattle.mrp_rows.specs.declared.streams.TheConstants.{GREATEST_BUNDLE, READ_CALLS, WRITE_TRIES}
use Rattle.mrp_rows.specs.Told.{calls_of, failures_of, inner_of, moved_of, HasRisenBy}
use Rattle.mrp_report.specs.Written.{HasGivenUp, HasTakenFront}
use Rattle.mrp_report.specs.Taken.{HasTakenAll}
use Rattle.mrp_engine.specs.declared.day.fault.DayFault.{DayFault}
use Rattle.mrp_engine.specs.declared.day.fault.DayFault.TheVariants.{Refused, TooLarge, Read, Write, NoMemory}
use Rattle.mrp_engine.specs.day.Day.{Answering, IsDayBy, IsTooLargeBy}
use Rattle.mrp_script.specs.Opened.{IsRefused}
use Rattle.mrp_rows.specs.declared.faults.TheConstants as faults

-- a bundle is what a reader had left, if that is known of the reader, and no longer than a bundle
-- may be
abbrev pub IsRead : Option (List ℕ) → List ℕ → Type 0
IsRead given bundle = IfSome given (λ bytes. bundle ≡ bytes) × (length bundle ≤ GREATEST_BUNDLE)

-- a reader has not failed, and was not called more often than it may be
abbrev pub IsReadWithin : {R : Type 0} → Told R → Told R → Type 0
IsReadWithin old new = (failures_of new ≡ failures_of old) × (calls_of new ≤ calls_of old + READ_CALLS)

-- a writer has not failed
abbrev pub HasNotFailed : {W : Type 0} → Told W → Told W → Type 0
HasNotFailed old new = failures_of new ≡ failures_of old

-- a reader failed, passed its limit of calls, or gave more bytes than a bundle may have
abbrev pub HasPassedLimits : {R : Type 0} → Told R → Told R → Type 0
HasPassedLimits old new =
    HasRisenBy 1 (failures_of old) (failures_of new) ⊎ HasRisenBy READ_CALLS (calls_of old) (calls_of new) ⊎ HasRisenBy (GREATEST_BUNDLE + 1) (moved_of old) (moved_of new)

-- the text of a day of the bundle that was read, in which its script is answered like this
abbrev pub TellsDayBy : Answering → Option (List ℕ) → List ℕ → Type 0
TellsDayBy Answers given text = (bundle : List ℕ) × IsRead given bundle × IsDayBy Answers bundle text

-- a writer took a prefix of the text of a day in which the script is answered like this
abbrev pub WritesFrontBy : Answering → {W : Type 0} → (W → Option (List ℕ)) → Option (List ℕ) → Told W → Told W → Type 0
WritesFrontBy Answers contents given old new = (text : List ℕ) × TellsDayBy Answers given text × HasTakenFront contents old new text

-- a refusal before anything is written
abbrev pub IsBeforeWriting : DayFault → Type 0
IsBeforeWriting (Refused f) = ⊤
IsBeforeWriting (TooLarge name) = ⊤
IsBeforeWriting Read = ⊤
IsBeforeWriting Write = ⊥
IsBeforeWriting NoMemory = ⊥

-- a refusal while the text is written
abbrev pub IsWhileWriting : DayFault → Type 0
IsWhileWriting (Refused f) = ⊥
IsWhileWriting (TooLarge name) = ⊥
IsWhileWriting Read = ⊥
IsWhileWriting Write = ⊤
IsWhileWriting NoMemory = ⊤

-- an end after the reader was read to its end
abbrev pub IsAfterReading : {X : Type 0} → Result X DayFault → Type 0
IsAfterReading (Ok x) = ⊤
IsAfterReading (Err (Refused f)) = ⊤
IsAfterReading (Err (TooLarge name)) = ⊤
IsAfterReading (Err Read) = ⊥
IsAfterReading (Err Write) = ⊤
IsAfterReading (Err NoMemory) = ⊥

-- a writer took a text whole, or a prefix of it: it gave up, or memory ran out and it did not fail
pub record WritesText {W X : Type 0} (contents : W → Option (List ℕ)) (old new : Told W) (text : List ℕ) (result : Result X DayFault) : Type 0 where
  pub whole : OnOk result (HasTakenAll contents old new text)
  pub front : OnErr result (HasTakenFront contents old new text)
  pub gave_up : result ≡ Err Write → HasGivenUp old new WRITE_TRIES
  pub unfailed : result ≡ Err NoMemory → HasNotFailed old new
  pub writing : IfErr result IsWhileWriting

-- what is written of the bundle that was given: the text of a day of it, in which its script is answered like this, or
-- a prefix of such a text, or nothing. If memory ran out, a prefix is left only if `ended` holds; a failed read means
-- that `failed` holds
pub record WritesDay (Answers : Answering) {W : Type 0} (contents : W → Option (List ℕ)) (given : Option (List ℕ)) (ended failed : Type 0) (old new : Told W) (result : Result (Unit {0}) DayFault) : Type 0 where
  -- the text of a day of the bundle was written
  pub day : OnOk result ((text : List ℕ) × TellsDayBy Answers given text × HasTakenAll contents old new text)
  pub refused : (f : Fault) → result ≡ Err (Refused f) → (bundle : List ℕ) × IsRead given bundle × IsRefused bundle f × (f.code ≢ faults.NO_MEMORY)
  pub too_large : (name : List ℕ) → result ≡ Err (TooLarge name) → (bundle : List ℕ) × IsRead given bundle × IsTooLargeBy Answers bundle name
  pub read : result ≡ Err Read → failed
  pub write : result ≡ Err Write → WritesFrontBy Answers contents given old new
  pub gave_up : result ≡ Err Write → HasGivenUp old new WRITE_TRIES
  pub memory : result ≡ Err NoMemory → (new ≡ old) ⊎ (ended × WritesFrontBy Answers contents given old new)
  pub unfailed : result ≡ Err NoMemory → HasNotFailed old new
  -- nothing is written before every run is planned
  pub unwritten : IfErr result (λ fault. IsBeforeWriting fault → new ≡ old)

-- what is written of what a reader had left, and what becomes of the reader: it was read to its end, within the
-- limits, and a prefix of it was taken
pub record MakesDay (Answers : Answering) {R W : Type 0} (remaining : R → Option (List ℕ)) (contents : W → Option (List ℕ)) (reader read : Told R) (writer written : Told W) (result : Result (Unit {0}) DayFault) : Type 0 where
  pub writes : WritesDay Answers contents (remaining (inner_of reader)) (IsAtEnd (remaining (inner_of read))) (HasPassedLimits reader read) writer written result
  pub unfailed : result ≡ Err NoMemory → IsReadWithin reader read
  pub end : IsAfterReading result → IsAtEnd (remaining (inner_of read))
  pub within : IsAfterReading result → IsReadWithin reader read
  pub taken : TakesFront (remaining (inner_of reader)) (remaining (inner_of read)) (moved_of reader) (moved_of read)
