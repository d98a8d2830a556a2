-- How the check of a day ends (profile).
use Rattle.std.specs.Prelude.{ℕ, ◌≡◌, ◌⊎◌, ◌^◌, ◌++◌, ◌∷◌, List, [], Option, IfSome, Result, Ok, Err, ⊤, codes, decimal}
use Rattle.std.specs.Io.KnownBytes.{IsAtEnd}
use Rattle.mrp_rows.specs.declared.told.Told.{Told}
use Rattle.mrp_rows.specs.declared.streams.ReadFault.{ReadFault}
use Rattle.mrp_rows.specs.declared.streams.ReadFault.TheVariants as read
use Rattle.mrp_rows.specs.declared.streams.TheConstants.{READ_CALLS}
use Rattle.mrp_rows.specs.Streams.{TakesFront}
use Rattle.mrp_rows.specs.Told.{HasRisenBy, calls_of, failures_of, inner_of, moved_of}
use Rattle.mrp_engine.specs.day.Run.{IsReadWithin}
use Rattle.mrp_audit.specs.declared.fault.AuditFault.{AuditFault}
use Rattle.mrp_audit.specs.declared.fault.AuditFault.TheVariants as found
use Rattle.mrp_audit.specs.Verdict.{Judges}
use Rattle.mrp_commands.specs.declared.ending.Ending.{Ending}
use Rattle.mrp_commands.specs.declared.ending.Ending.TheVariants.{Done, Wrong, NoMemory}
use Rattle.mrp_words.specs.Folder.{IsReadFrom, Known}
use Rattle.mrp_commands.specs.Telling.{Says}
use Rattle.mrp_commands.specs.Refusal.{TellsFault, end_of_read}

-- the text that a reader had left, of any length, and it is at its end; or why it was not read: a read failed, or there
-- were too many, or more bytes than a machine can count; or out of memory, and no read failed
abbrev pub IsDayRead : {R : Type 0} → (R → Option (List ℕ)) → Told R → Told R → Result (List ℕ) ReadFault → Type 0
IsDayRead remaining old new (Ok text) = IfSome (remaining (inner_of old)) (λ left. text ≡ left) × IsAtEnd (remaining (inner_of new)) × IsReadWithin old new
IsDayRead remaining old new (Err read.Read) =
    HasRisenBy 1 (failures_of old) (failures_of new) ⊎ HasRisenBy READ_CALLS (calls_of old) (calls_of new) ⊎ HasRisenBy (2 ^ 64) (moved_of old) (moved_of new)
IsDayRead remaining old new (Err read.NoMemory) = failures_of new ≡ failures_of old

-- a reader's text was read, or a prefix of it
abbrev pub ReadsDay : {R : Type 0} → (R → Option (List ℕ)) → Told R → Told R → Result (List ℕ) ReadFault → Type 0
ReadsDay remaining old new day = IsDayRead remaining old new day × TakesFront (remaining (inner_of old)) (remaining (inner_of new)) (moved_of old) (moved_of new)

-- the bundle of a folder's files and the text that a reader had left were read, in this order; or the first of them
-- that was not
abbrev pub AreRead : Known → List ℕ → {R : Type 0} → (R → Option (List ℕ)) → Told R → Told R → Result (List ℕ × List ℕ) ReadFault → Type 0
AreRead known folder remaining old new (Ok both) = IsReadFrom known folder (Ok both.0) × ReadsDay remaining old new (Ok both.1)
AreRead known folder remaining old new (Err fault) =
    (IsReadFrom known folder (Err fault) × (new ≡ old)) ⊎ ((bundle : List ℕ) × IsReadFrom known folder (Ok bundle) × ReadsDay remaining old new (Err fault))

-- why a day was not found right is reported: what is wrong with it on the output, and nothing there if its bundle was
-- refused or memory ran out
abbrev pub TellsAudit : {W : Type 0} → (W → Option (List ℕ)) → Told W → Told W → AuditFault → Ending → Type 0
TellsAudit contents output written (found.Input f) end = TellsFault f end × (written ≡ output)
TellsAudit contents output written found.Shape end = Says contents output written (codes "wrong: shape" ++ 10 ∷ []) Wrong end
TellsAudit contents output written (found.HistoryNotLegal entry) end = Says contents output written (codes "wrong: history " ++ decimal entry ++ 10 ∷ []) Wrong end
TellsAudit contents output written (found.DeskRows desk) end = Says contents output written (codes "wrong: desk " ++ decimal desk ++ 10 ∷ []) Wrong end
TellsAudit contents output written (found.ReportDiffers run) end = Says contents output written (codes "wrong: report " ++ decimal run ++ 10 ∷ []) Wrong end
TellsAudit contents output written found.NoMemory end = (end ≡ NoMemory) × (written ≡ output)

-- what was found of a day is reported
abbrev pub TellsFound : {W : Type 0} → (W → Option (List ℕ)) → Told W → Told W → Result ⊤ AuditFault → Ending → Type 0
TellsFound contents output written (Ok done) end = Says contents output written (codes "right" ++ 10 ∷ []) Done end
TellsFound contents output written (Err fault) end = TellsAudit contents output written fault end

-- how a check ends, by what was read: with the report of the verdict on the bundle and the text; or with what kept them
-- from being read, and nothing was written
abbrev pub EndsBy : {W : Type 0} → (W → Option (List ℕ)) → Told W → Told W → Result (List ℕ × List ℕ) ReadFault → Ending → Type 0
EndsBy contents output written (Ok both) end = (verdict : Result ⊤ AuditFault) × Judges both.0 both.1 verdict × TellsFound contents output written verdict end
EndsBy contents output written (Err fault) end = (end ≡ end_of_read fault) × (written ≡ output)

-- how the check of the day that a reader had left against the bundle of a folder's files ends
pub record CheckEnds {R W : Type 0} (known : Known) (folder : List ℕ) (remaining : R → Option (List ℕ)) (contents : W → Option (List ℕ)) (input read : Told R) (output written : Told W) (end : Ending) : Type 0 where
  pub both : Result (List ℕ × List ℕ) ReadFault
  pub are_read : AreRead known folder remaining input read both
  pub ends : EndsBy contents output written both end
