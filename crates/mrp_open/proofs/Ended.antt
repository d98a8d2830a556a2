-- How an order desk on a folder ends.
use Rattle.std.proofs.Common.{◌≡◌, ◌⊎◌, ◌∙◌, ℕ, true, List, Option, Result, Ok, Err, inl, inr, ap, arith, length, refl, subst, sym}
use Rattle.std.specs.Prelude.{IfErr, IfOk, IsErrAnd, IsTrue, OnOk, string_bytes}
use Rattle.mrp_rows.specs.Told.{HasRisenBy, failures_of}
use Rattle.mrp_rows.specs.declared.told.Told.{Told}
use Rattle.mrp_journal.specs.Held.{Held}
use Rattle.mrp_tables.specs.Tables.{Tables}
use Rattle.mrp_script.specs.Script.{script_of}
use Rattle.mrp_words.specs.Folder.{Known}
use Rattle.mrp_commands.specs.declared.ending.Ending.{Ending}
use Rattle.mrp_open.specs.Ends.{FailsToBegin, FailsToStart, FailsWithLock, IsServed, IsUnbegun, ServesPrepared}
use Rattle.mrp_open.specs.Opening.{FailsToAnswer, FailsToBeginJournal, FailsToOpenJournal, FailsToServe, FailsToWrite, HasFailed, IsUntouched, IsUnwritten, Opening, with_failure, with_journal}
use Rattle.mrp_open.specs.Start.{FailsToOpen, HasOtherSum, IsPrepared}
use Rattle.mrp_open.specs.declared.finding.Found.{Found}

-- why a desk has ended by a failed write, since nothing had failed before
pub why-since : {W : Type 0} (first before opened : Opening) (failures count : ℕ) (written : Told W) → before.failures ≡ first.failures → failures ≡ count
    → FailsToWrite before opened ⊎ FailsToAnswer failures written → FailsToWrite first opened ⊎ FailsToAnswer count written
why-since first before opened failures count written same is (inl risen) = inl (subst (λ (n : ℕ). HasRisenBy 1 n opened.failures) same risen)
why-since first before opened failures count written same is (inr failed) = inr (subst (λ (n : ℕ). FailsToAnswer n written) is failed)

-- and how
ends-since : {W : Type 0} (first before opened : Opening) (output written : Told W) (end : Ending) → before.failures ≡ first.failures → FailsToServe before opened output written end → FailsToServe first opened output written end
ends-since first before opened output written end same s = record {
  fails = λ is. why-since first before opened (failures_of output) (failures_of output) written same refl (s.fails is);
  clear = λ other. s.clear other ∙ same;
  answering = λ failed. s.answering failed ∙ same;
}

module _ {R W E : Type 0} (before opened : Opening) (known : Known) (folder : List ℕ) (remaining : R → Option (List ℕ)) (contents : W → Option (List ℕ)) (heard : E → Option (List ℕ)) (input read : Told R) (output written : Told W) (errors told : Told E) where
  -- a desk that was opened has answered lines
  pub is-served : (found : Found) (tables : Tables) (r : Result Ending Ending) → opened.is_held ≡ true → OnOk r (opened.is_lasting ≡ true) → IsPrepared known folder found tables
      → IfOk r (ServesPrepared known folder found tables remaining contents heard input read output written errors told) → IfOk r (FailsToServe before opened output written)
      → IfOk r (IsServed before opened known folder remaining contents heard input read output written errors told)
  is-served found tables (Err end) held lasting prepared serves fails = tt
  is-served found tables (Ok end) held lasting prepared serves fails =
      record { held = held; lasting = lasting; found = found; tables = tables; prepared = prepared; serves = serves; fails = fails }

  -- so it has where nothing had failed before
  pub served-since : (first : Opening) (r : Result Ending Ending) → before.failures ≡ first.failures → IfOk r (IsServed before opened known folder remaining contents heard input read output written errors told)
      → IfOk r (IsServed first opened known folder remaining contents heard input read output written errors told)
  served-since first (Err end) same served = tt
  served-since first (Ok end) same served = record {
    held = served.held;
    lasting = served.lasting;
    found = served.found;
    tables = served.tables;
    prepared = served.prepared;
    serves = served.serves;
    fails = ends-since first before opened output written end same served.fails;
  }

-- a journal that was not opened before a folder was locked
pub untouched-since : (first before opened : Opening) (r : Result Ending Ending) → before.is_opened ≡ first.is_opened → IfErr r (IsUntouched before opened) → IfErr r (IsUntouched first opened)
untouched-since first before opened (Ok end) same is = tt
untouched-since first before opened (Err end) same (inl is) = inl is
untouched-since first before opened (Err end) same (inr is) = inr (is ∙ same)

-- one that started from the same opening, or from one since which nothing was opened
pub starts-since : (known : Known) (folder : List ℕ) (first before opened : Opening) (r : Result Ending Ending) → before ≡ first → IfErr r (FailsToStart before opened known folder) → IfErr r (FailsToStart first opened known folder)
starts-since known folder first before opened r same fails = subst (λ (o : Opening). IfErr r (FailsToStart o opened known folder)) same fails

-- what holds of an end holds where it is passed on
pub passed-on : {T : Type 0} (r : Result T Ending) (end : Ending) (P : Ending → Type 0) → IsErrAnd r (λ e. e ≡ end) → P end → IfErr r P
passed-on (Ok x) end P is p = tt
passed-on (Err e) end P is p = subst P (sym is) p

-- a call has failed
pub has-failed : (old new : Opening) → new ≡ with_failure old → HasFailed old new
has-failed old new is =
    let same : HasFailed old (with_failure old) = record { risen = omega arith; held = refl } in
    subst (HasFailed old) (sym is) same

-- one has failed behind a journal that was opened
pub failed-behind : (old opened new : Opening) → opened ≡ with_journal old → HasFailed opened new → HasFailed old new
failed-behind old opened new is failed = subst (λ (o : Opening). HasFailed o new → HasFailed old new) (sym is) (λ (f : HasFailed (with_journal old) new). record { risen = f.risen; held = f.held }) failed

-- a journal that was not begun
module _ (found : Found) (old new : Opening) (before after : Option Held) where
  -- as it was not opened
  pub unopened-journal : (end : Ending) → FailsToOpenJournal old new end → after ≡ before → FailsToBeginJournal found old new before after end
  unopened-journal end (inl (is, same)) left = inl (is, same, left)
  unopened-journal end (inr (is, failed)) left = inr (is, failed, inl left)

  -- its folder is locked as it was
  pub held-unbegun : (end : Ending) → FailsToBeginJournal found old new before after end → new.is_held ≡ old.is_held
  held-unbegun end (inl (is, same, left)) = ap (λ (o : Opening). o.is_held) same
  held-unbegun end (inr (is, failed, left)) = failed.held

  -- it was not opened, unless a write has failed
  pub untouched-unbegun : (end : Ending) → FailsToBeginJournal found old new before after end → IsUntouched old new end
  untouched-unbegun end (inl (is, same, left)) = inr (ap (λ (o : Opening). o.is_opened) same)
  untouched-unbegun end (inr (is, failed, left)) = inl is

  -- and it is as it was
  pub unwritten-unbegun : (end : Ending) → FailsToBeginJournal found old new before after end → IsUnwritten found before after end
  unwritten-unbegun end (inl (is, same, left)) = inl left
  unwritten-unbegun end (inr (is, failed, inl left)) = inl left
  unwritten-unbegun end (inr (is, failed, inr safe)) = inr (is, safe)

  -- so its desk is not begun
  pub desk-unbegun : (known : Known) (folder : List ℕ) (tables : Tables) (end : Ending) → IsTrue found.takes_records → FailsToBeginJournal found old new before after end
      → FailsToBegin old new known folder found tables end
  desk-unbegun known folder tables end takes (inl (is, same, left)) = inl (inr is)
  desk-unbegun known folder tables end takes (inr (is, failed, left)) = inr (takes, inr (is, failed.risen))

-- a desk is not begun whose tables have another sum
pub other-sum : (before opened : Opening) (known : Known) (folder : List ℕ) (found : Found) (tables : Tables) (records : ℕ) (end : Ending) → IsTrue found.takes_records → records ≡ length (script_of tables)
    → HasOtherSum known folder records (string_bytes found.sum) end → FailsToBegin before opened known folder found tables end
other-sum before opened known folder found tables records end takes count other =
    inr (takes, inl (subst (λ (n : ℕ). HasOtherSum known folder n (string_bytes found.sum) end) count other))

module _ (known : Known) (folder : List ℕ) where
  module _ (before opened : Opening) where
    -- one whose folder was not opened
    pub not-opened : (end : Ending) → opened.is_held ≡ true → FailsToOpen known folder end → FailsWithLock before opened known folder end
    not-opened end held fails = record { held = held; fails = inl fails }

    -- one that did not begin
    pub not-begun : (found : Found) (tables : Tables) (r : Result Ending Ending) → opened.is_held ≡ true → IsPrepared known folder found tables
        → IfErr r (FailsToBegin before opened known folder found tables) → IfErr r (FailsWithLock before opened known folder)
    not-begun found tables (Ok end) held prepared fails = tt
    not-begun found tables (Err end) held prepared fails = record { held = held; fails = inr (found, tables, prepared, fails) }

    -- nothing has failed before
    begin-since : (first : Opening) (found : Found) (tables : Tables) (end : Ending) → before.failures ≡ first.failures → FailsToBegin before opened known folder found tables end
        → FailsToBegin first opened known folder found tables end
    begin-since first found tables end same (inl takes) = inl takes
    begin-since first found tables end same (inr (takes, inl sum)) = inr (takes, inl sum)
    begin-since first found tables end same (inr (takes, inr (is, failed))) = inr (takes, inr (is, subst (λ (n : ℕ). HasRisenBy 1 n opened.failures) same failed))

    fails-since : (first : Opening) (end : Ending) → before.failures ≡ first.failures → FailsToOpen known folder end ⊎ IsUnbegun before opened known folder end → FailsToOpen known folder end ⊎ IsUnbegun first opened known folder end
    fails-since first end same (inl unopened) = inl unopened
    fails-since first end same (inr (found, tables, prepared, begins)) = inr (found, tables, prepared, begin-since first found tables end same begins)

    lock-since : (first : Opening) (end : Ending) → before.failures ≡ first.failures → FailsWithLock before opened known folder end → FailsWithLock first opened known folder end
    lock-since first end same with_lock = record { held = with_lock.held; fails = fails-since first end same with_lock.fails }

    -- one that had the lock
    pub with-lock : (first : Opening) (r : Result Ending Ending) → before.failures ≡ first.failures → IfErr r (IsUntouched first opened) → IfErr r (FailsWithLock before opened known folder) → IfErr r (FailsToStart first opened known folder)
    with-lock first (Ok end) same untouched fails = tt
    with-lock first (Err end) same untouched fails = record { untouched = untouched; fails = inr (lock-since first end same fails) }
