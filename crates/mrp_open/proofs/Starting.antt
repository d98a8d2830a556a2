-- Why an order desk does not open.
use Rattle.std.proofs.Common.{◌≡◌, ◌∙◌, ℕ, List, Err, inl, inr, ap, length, refl, sym}
use Rattle.std.proofs.lemmas.List.{length-map}
use Rattle.mrp_rows.specs.declared.streams.ReadFault.{ReadFault}
use Rattle.mrp_rows.specs.declared.streams.ReadFault.TheVariants as read
use Rattle.mrp_tables.specs.Tables.{Tables}
use Rattle.mrp_book.specs.declared.call.Call.{Call}
use Rattle.mrp_book.specs.History.{asked}
use Rattle.mrp_book.specs.Standing.{History}
use Rattle.mrp_script.specs.Opened.{Opens}
use Rattle.mrp_script.specs.Script.{script_of}
use Rattle.mrp_script.specs.declared.fault.OpenFault.{OpenFault}
use Rattle.mrp_script.specs.declared.fault.OpenFault.TheVariants as opening
use Rattle.mrp_words.specs.Folder.{IsTooLongAt, Known}
use Rattle.mrp_commands.specs.Refusal.{TellsOpening, end_of_read}
use Rattle.mrp_commands.specs.declared.ending.Ending.{Ending}
use Rattle.mrp_open.specs.Start.{FailsToOpen, HasOtherSum, IsTooLong, TellsRefused, sum_path}
use Rattle.mrp_open.specs.declared.start.TheConstants.{MOST_SUM}

-- a folder could not be read
pub fails-read : (known : Known) (folder : List ℕ) (fault : ReadFault) (end : Ending) → end ≡ end_of_read fault → (fault ≡ read.Read → IsTooLong known folder) → FailsToOpen known folder end
fails-read known folder read.Read end is past = inr (inl (is, past refl))
fails-read known folder read.NoMemory end is past = inr (inr is)

-- a bundle was refused
pub tells-refused : (bundle : List ℕ) (fault : OpenFault) (end : Ending) → Opens bundle (Err fault) → TellsOpening fault end → TellsRefused bundle end
tells-refused bundle (opening.Refused f) end opens tells = inl (f, opens.0, tells)
tells-refused bundle opening.NoMemory end opens tells = inr tells

-- a file of the sum could not be read
pub sum-unread : (known : Known) (folder : List ℕ) (records : ℕ) (sum : List ℕ) (fault : ReadFault) (end : Ending) → end ≡ end_of_read fault → (fault ≡ read.Read → IsTooLongAt known (sum_path folder) MOST_SUM)
    → HasOtherSum known folder records sum end
sum-unread known folder records sum read.Read end is past = inr (inl (is, past refl))
sum-unread known folder records sum read.NoMemory end is past = inr (inr is)

-- as many entries as records
pub as-many : (h : History) (tables : Tables) → asked h ≡ script_of tables → length h ≡ length (script_of tables)
as-many h tables e = sym (length-map h (λ e. (e.who, e.call))) ∙ ap (length {A = ℕ × Call}) e
