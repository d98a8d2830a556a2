-- The texts of a day are written one after the other.
use Rattle.std.proofs.Common.{◌≡◌, ◌∙◌, ℕ, List, ◌++◌, Option, Result, Ok, Err, ap, refl, arith}
use Rattle.std.proofs.lemmas.Result.{on_err_weaker, on_ok_weaker}
use Rattle.mrp_rows.specs.declared.told.Told.{Told}
use Rattle.mrp_report.specs.Written.{HasGivenUp, HasTakenFront}
use Rattle.mrp_report.proofs.Progress.{taken-none}
use Rattle.mrp_rows.specs.declared.streams.TheConstants.{WRITE_TRIES}
use Rattle.mrp_report.specs.declared.fault.ReportFault.{ReportFault}
use Rattle.mrp_report.specs.declared.fault.ReportFault.TheVariants as report
use Rattle.mrp_engine.specs.day.Fault.{writing_fault}
use Rattle.mrp_report.specs.Taken.{HasTakenAll}
use Rattle.mrp_report.proofs.TakenAll.{all-both, front-of-more, front-then, given-up-later}
use Rattle.mrp_engine.specs.day.Run.{HasNotFailed, WritesText}
use Rattle.mrp_engine.specs.declared.day.fault.DayFault.{DayFault}
use Rattle.mrp_engine.specs.declared.day.fault.DayFault.TheVariants.{Write, NoMemory}

-- a writer that did not fail in a later part did not fail in the whole
pub not-failed-later : {W : Type 0} (contents : W → Option (List ℕ)) (a b c : Told W) (s : List ℕ) → HasTakenAll contents a b s → HasNotFailed b c → HasNotFailed a c
not-failed-later contents a b c s (m, taken) later = later ∙ taken.failures

-- a text that is taken whole is written
pub all-written : {W : Type 0} (contents : W → Option (List ℕ)) (a b : Told W) (s : List ℕ) → HasTakenAll contents a b s → WritesText contents a b s (Ok (tt {0}))
all-written contents a b s taken = record { whole = taken; front = tt; gave_up = λ e. (cc); unfailed = λ e. (cc); writing = tt }

-- a text stops where its writer gives up, or memory runs out
pub stopped : {W : Type 0} (X : Type 0) (contents : W → Option (List ℕ)) (a b : Told W) (s : List ℕ) (f : ReportFault) → HasTakenFront contents a b s
    → (f ≡ report.Write → HasGivenUp a b WRITE_TRIES) → (f ≡ report.NoMemory → HasNotFailed a b) → WritesText {X = X} contents a b s (Err (writing_fault f))
stopped X contents a b s report.Write front gave_up unfailed = record { whole = tt; front = front; gave_up = λ e. gave_up refl; unfailed = λ e. (cc); writing = tt }
stopped X contents a b s report.NoMemory front gave_up unfailed = record { whole = tt; front = front; gave_up = λ e. (cc); unfailed = λ e. unfailed refl; writing = tt }

-- and so does a longer text
pub stopped-more : {W X : Type 0} (Y : Type 0) (contents : W → Option (List ℕ)) (a b : Told W) (s t : List ℕ) (f : DayFault) → WritesText {X = X} contents a b s (Err f) → WritesText {X = Y} contents a b (s ++ t) (Err f)
stopped-more Y contents a b s t f writes = record {
  whole = tt;
  front = front-of-more contents a b s t writes.front;
  gave_up = λ e. let same : f ≡ Write = cc in writes.gave_up (ap (λ (x : DayFault). Err x) same);
  unfailed = λ e. let same : f ≡ NoMemory = cc in writes.unfailed (ap (λ (x : DayFault). Err x) same);
  writing = writes.writing;
}

-- a text is written after one that was taken
pub written-then : {W : Type 0} (contents : W → Option (List ℕ)) (a b c : Told W) (s t : List ℕ) (r : Result (Unit {0}) DayFault) → HasTakenAll contents a b s → WritesText contents b c t r
    → WritesText contents a c (s ++ t) r
written-then contents a b c s t r taken writes = record {
  whole = on_ok_weaker r (λ (next : HasTakenAll contents b c t). all-both contents a b c s t taken next) writes.whole;
  front = on_err_weaker r (λ (next : HasTakenFront contents b c t). front-then contents a b c s t taken next) writes.front;
  gave_up = λ e. given-up-later contents a b c s WRITE_TRIES taken (writes.gave_up e);
  unfailed = λ e. not-failed-later contents a b c s taken (writes.unfailed e);
  writing = writes.writing;
}

-- memory runs out before anything is written
pub stopped-at_once : {W : Type 0} (X : Type 0) (contents : W → Option (List ℕ)) (w : Told W) (s : List ℕ) → WritesText {X = X} contents w w s (Err NoMemory)
stopped-at_once X contents w s = record { whole = tt; front = (0, omega arith, (taken-none contents w).bytes); gave_up = λ e. (cc); unfailed = λ e. refl; writing = tt }
