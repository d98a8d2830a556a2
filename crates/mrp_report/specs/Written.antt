-- What a `Told` writer has taken of a text (profile).
use Rattle.std.specs.Prelude.{ℕ, ◌≡◌, ◌≤◌, ◌+◌, ◌-◌, ◌++◌, ◌⊎◌, List, Option, Result, Err, OnOk, OnErr}
use Rattle.std.specs.Io.KnownBytes.{Appends}
use Rattle.mrp_rows.specs.declared.told.Told.{Told}
use Rattle.mrp_rows.specs.Told.{inner_of, failures_of, interrupted_of, HasRisenBy}
use Rattle.mrp_rows.specs.declared.streams.TheConstants.{WRITE_TRIES}
use Rattle.mrp_rows.specs.Streams.{RisesBy, WritesFront}
use Rattle.mrp_report.specs.declared.fault.ReportFault.{ReportFault}
use Rattle.mrp_report.specs.declared.fault.ReportFault.TheVariants.{NoMemory, Write}

-- a writer took a text whole: it didn't fail, and that many interrupted writes were tried again
pub record HasTaken {W : Type 0} (contents : W → Option (List ℕ)) (old new : Told W) (text : List ℕ) (retried : ℕ) : Type 0 where
  pub bytes : Appends (contents (inner_of old)) (contents (inner_of new)) text
  pub failures : failures_of new ≡ failures_of old
  pub interrupted : RisesBy retried (interrupted_of old) (interrupted_of new)

-- a writer took a prefix of a text
abbrev pub HasTakenFront : {W : Type 0} → (W → Option (List ℕ)) → Told W → Told W → List ℕ → Type 0
HasTakenFront contents old new text = WritesFront (contents (inner_of old)) (contents (inner_of new)) text

-- a writer failed, or was interrupted more often than writes may be tried again
abbrev pub HasGivenUp : {W : Type 0} → Told W → Told W → ℕ → Type 0
HasGivenUp old new tries =
    HasRisenBy 1 (failures_of old) (failures_of new) ⊎ HasRisenBy (tries + 1) (interrupted_of old) (interrupted_of new)

-- a writer did not fail, and was interrupted no more often than writes may be tried again
abbrev pub HasGoneOn : {W : Type 0} → Told W → Told W → ℕ → Type 0
HasGoneOn old new tries = (failures_of new ≡ failures_of old) × (interrupted_of new ≤ interrupted_of old + tries)

-- a page's text, or a prefix of it, is passed on to a writer, and the rest is left on the page
pub record PassesOn {W : Type 0} (contents : W → Option (List ℕ)) (old new : Told W) (page left : List ℕ) (retried : ℕ) : Type 0 where
  pub passed : List ℕ
  pub split : page ≡ passed ++ left
  pub taken : HasTaken contents old new passed retried

-- a writer took a text whole, within the tries of one call
abbrev pub HasTakenWhole : {W : Type 0} → (W → Option (List ℕ)) → Told W → Told W → List ℕ → Type 0
HasTakenWhole contents old new text = (retried : ℕ) × (retried ≤ WRITE_TRIES) × HasTaken contents old new text retried

-- how a call ends that should write a text and has so many tries: it has done that, or a prefix of the text is taken.
-- It fails because the writer gave up, or because it ran out of memory, and then the writer has gone on
pub record Ends {W T : Type 0} (contents : W → Option (List ℕ)) (old new : Told W) (text : List ℕ) (allowed left : ℕ) (result : Result T ReportFault) (Done : Type 0) : Type 0 where
  pub whole : OnOk result Done
  pub tries : left ≤ allowed
  pub front : OnErr result (HasTakenFront contents old new text)
  pub refused : result ≡ Err Write → HasGivenUp old new allowed
  pub memory : result ≡ Err NoMemory → HasGoneOn old new allowed

-- a text is written; so many of the allowed tries are left
abbrev pub Writes : {W T : Type 0} → (W → Option (List ℕ)) → Told W → Told W → List ℕ → ℕ → ℕ → Result T ReportFault → Type 0
Writes contents old new text allowed left result = Ends contents old new text allowed left result (HasTaken contents old new text (allowed - left))

-- a text, or a prefix of it, is written, and the rest is on a page
abbrev pub Passes : {W T : Type 0} → (W → Option (List ℕ)) → Told W → Told W → List ℕ → List ℕ → ℕ → ℕ → Result T ReportFault → Type 0
Passes contents old new text page allowed left result = Ends contents old new text allowed left result (PassesOn contents old new text page (allowed - left))

-- a text is written within the tries of one call
abbrev pub WritesWhole : {W T : Type 0} → (W → Option (List ℕ)) → Told W → Told W → List ℕ → Result T ReportFault → Type 0
WritesWhole contents old new text result = Ends contents old new text WRITE_TRIES 0 result (HasTakenWhole contents old new text)
