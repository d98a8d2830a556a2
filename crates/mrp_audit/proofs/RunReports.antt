-- A text compared with the reports of a history's runs, entry by entry.
use Rattle.std.proofs.Common.{◌≡◌, ◌≢◌, ◌∙◌, ℕ, ◌+◌, ◌<◌, ◌≤◌, List, [], ◌∷◌, ◌++◌, length, take, drop, get_or, Option, Some, None, Result, Ok, Err, sym, ap, subst, refl, inl, inr, arith, append_assoc}
use Rattle.std.specs.Prelude.{⊤}
use Rattle.std.proofs.lemmas.List.{take_all, length-append, append-nil}
use Rattle.std.proofs.lemmas.List.Concat.{flat_map-append}
use Rattle.mrp_turn.specs.declared.log.Entry.{Entry}
use Rattle.mrp_tables.specs.Tables.{Tables}
use Rattle.mrp_book.specs.declared.call.Call.{Call}
use Rattle.mrp_book.specs.declared.reply.Reply.{Reply}
use Rattle.mrp_book.specs.declared.reply.Reply.TheVariants as reply
use Rattle.mrp_book.specs.Snapshot.{Snapshot}
use Rattle.mrp_book.specs.Standing.{History}
use Rattle.mrp_item.specs.Inputs.{Inputs, inputs_of}
use Rattle.mrp_item.specs.Places.{WholePlan}
use Rattle.mrp_report.specs.ReportText.{report_text}
use Rattle.mrp_engine.specs.day.Day.{planned_from, runs_of}
use Rattle.mrp_qty.specs.declared.memory.NoMemory.{NoMemory}
use Rattle.mrp_explode.specs.Explosion.{Explodes}
use Rattle.mrp_explode.specs.declared.fault.RunFault.{RunFault}
use Rattle.mrp_explode.specs.declared.fault.RunFault.TheVariants as fail
use Rattle.mrp_engine.specs.day.RightDay.{run_report, text_of_plan}
use Rattle.mrp_engine.proofs.lemmas.day.RunsPlanned.{runs-cut, runs-more}
use Rattle.mrp_audit.specs.declared.fault.AuditFault.{AuditFault}
use Rattle.mrp_audit.specs.declared.fault.AuditFault.TheVariants as fault
use Rattle.mrp_audit.specs.Parts.{ComparesFront, ComparesReports, IsEndJudged, IsPlannedFront, IsRunJudged}
use Rattle.mrp_audit.specs.Verdict.{HasMore, IsFirstMissing, reports_text}

-- a text begins with the reports of the runs of so many entries, and this is left after them
pub record HasCompared (t : Tables) (h : History) (k : ℕ) (text left : List ℕ) (run : ℕ) : Type 0 where
  pub stand : text ≡ reports_text (runs_of t (take k h)) ++ left
  pub count : run ≡ length (runs_of t (take k h)) + 1
  pub few : run ≤ k + 1

-- none are looked at yet
pub compared-none : (t : Tables) (h : History) (text : List ℕ) → HasCompared t h 0 text text 1
compared-none t h text = record { stand = refl; count = refl; few = omega arith }

one-report : (s : Inputs) → reports_text (s ∷ []) ≡ run_report s
one-report s = append-nil (run_report s)

reports-more : (runs : List Inputs) (s : Inputs) → reports_text (runs ++ s ∷ []) ≡ reports_text runs ++ run_report s
reports-more runs s = flat_map-append run_report runs (s ∷ []) ∙ ap (λ (r : List ℕ). reports_text runs ++ r) (one-report s)

-- the next report is there
compared-more : (t : Tables) (h : History) (k : ℕ) (e : Entry Call Reply) (snapshot : Snapshot) (text left rest : List ℕ) (run : ℕ) → k < length h → e ≡ get_or h k e → e.reply ≡ reply.Taken snapshot
    → HasCompared t h k text left run → left ≡ run_report (inputs_of t snapshot) ++ rest → HasCompared t h (k + 1) text rest (run + 1)
compared-more t h k e snapshot text left rest run within is taken before next =
    let s = inputs_of t snapshot in
    let runs = runs_of t (take k h) in
    let more : runs_of t (take (k + 1) h) ≡ runs ++ s ∷ [] = runs-more t h k e within is ∙ ap (λ (r : Reply). runs ++ planned_from t r) taken in
    let counts : length (runs ++ s ∷ []) ≡ length runs + 1 = length-append runs (s ∷ []) in
    record {
      stand = before.stand ∙ ap (λ (r : List ℕ). reports_text runs ++ r) next ∙ sym (append_assoc (reports_text runs) (run_report s) rest)
          ∙ ap (λ (r : List ℕ). r ++ rest) (sym (ap reports_text more ∙ reports-more runs s));
      count = ap (λ (n : ℕ). n + 1) (before.count ∙ sym counts ∙ ap (length {A = Inputs}) (sym more));
      few = let upto = before.few in omega (arith, upto);
    }

-- an entry that is no run
pub compared-same : (t : Tables) (h : History) (k : ℕ) (e : Entry Call Reply) (text left : List ℕ) (run : ℕ) → k < length h → e ≡ get_or h k e → planned_from t e.reply ≡ [] → HasCompared t h k text left run
    → HasCompared t h (k + 1) text left run
compared-same t h k e text left run within is none before =
    let runs = runs_of t (take k h) in
    let same : runs_of t (take (k + 1) h) ≡ runs = runs-more t h k e within is ∙ ap (λ (r : List Inputs). runs ++ r) none ∙ append-nil runs in
    record {
      stand = before.stand ∙ ap (λ (r : List Inputs). reports_text r ++ left) (sym same);
      count = before.count ∙ ap (λ (r : List Inputs). length r + 1) (sym same);
      few = let upto = before.few in omega (arith, upto);
    }

-- the next report is not there
compared-missing : (t : Tables) (h : History) (k : ℕ) (e : Entry Call Reply) (snapshot : Snapshot) (text left : List ℕ) (run : ℕ) → k < length h → e ≡ get_or h k e → e.reply ≡ reply.Taken snapshot
    → HasCompared t h k text left run → ((rest : List ℕ) → left ≡ run_report (inputs_of t snapshot) ++ rest → ⊥) → IsFirstMissing (runs_of t h) text run
compared-missing t h k e snapshot text left run within is taken before differs = record {
  before = runs_of t (take k h);
  run = inputs_of t snapshot;
  after = runs_of t (drop (k + 1) h);
  left = left;
  place = runs-cut t h k e within is ∙ ap (λ (r : Reply). runs_of t (take k h) ++ (planned_from t r ++ runs_of t (drop (k + 1) h))) taken;
  number_is = before.count;
  stand = before.stand;
  missing = differs;
}

-- all reports are there, and more
compared-over : (t : Tables) (h : History) (k : ℕ) (text left : List ℕ) (run : ℕ) → length h ≤ k → HasCompared t h k text left run → left ≢ [] → HasMore (runs_of t h) text run
compared-over t h k text left run all before more =
    let whole = ap (runs_of t) (take_all k h all) in
    record {
      left = left;
      stand = before.stand ∙ ap (λ (r : List Inputs). reports_text r ++ left) whole;
      some = more;
      number_is = before.count ∙ ap (λ (r : List Inputs). length r + 1) whole;
    }

-- what is judged of the end is right, for a history given by its entries
pub end-judged : (t : Tables) (items h : History) (k : ℕ) (text left : List ℕ) (run : ℕ) (r : Result ⊤ AuditFault) → items ≡ h → length items ≤ k → HasCompared t items k text left run → IsEndJudged run left r
    → ComparesReports (runs_of t h) text r
end-judged t items h k text left run (Ok done) same all before none =
    let runs = runs_of t (take k items) in
    before.stand ∙ ap (λ (r : List ℕ). reports_text runs ++ r) none ∙ append-nil (reports_text runs) ∙ ap (λ (x : History). reports_text (runs_of t x)) (take_all k items all ∙ same)
end-judged t items h k text left run (Err f) same all before (is, some) =
    subst (λ (x : AuditFault). ComparesReports (runs_of t h) text (Err x)) (sym is)
    (inr (subst (λ (x : History). HasMore (runs_of t x) text run) same (compared-over t items k text left run all before some)))

-- so many bytes are the report that was looked for, if it is judged so
stands : (report left : List ℕ) (run len : ℕ) (front : Result (Option ℕ) NoMemory) → ComparesFront report left front → IsRunJudged run front (Ok len) → (len ≤ length left) × (left ≡ report ++ drop len left)
stands report left run len (Ok (Some own)) compares judged =
    let same : own ≡ len = cc in
    subst (λ (n : ℕ). (n ≤ length left) × (left ≡ report ++ drop n left)) same compares
stands report left run len (Ok None) compares judged = (cc)
stands report left run len (Err refused) compares judged = (cc)

pub stands-within : (report left : List ℕ) (run len : ℕ) (front : Result (Option ℕ) NoMemory) → ComparesFront report left front → IsRunJudged run front (Ok len) → len ≤ length left
stands-within report left run len front compares judged = (stands report left run len front compares judged).0

-- then the next run's report is there
pub run-stands : (t : Tables) (h : History) (k : ℕ) (e : Entry Call Reply) (snapshot : Snapshot) (text left rest : List ℕ) (run len : ℕ) (front : Result (Option ℕ) NoMemory) → k < length h → e ≡ get_or h k e
    → e.reply ≡ reply.Taken snapshot → HasCompared t h k text left run → ComparesFront (run_report (inputs_of t snapshot)) left front → IsRunJudged run front (Ok len) → rest ≡ drop len left
    → HasCompared t h (k + 1) text rest (run + 1)
run-stands t h k e snapshot text left rest run len front within is taken before compares judged cut =
    let report = run_report (inputs_of t snapshot) in
    compared-more t h k e snapshot text left rest run within is taken before ((stands report left run len front compares judged).1 ∙ ap (λ (r : List ℕ). report ++ r) (sym cut))

-- it is not there, or memory ran out, if it is judged so, for a history given by its entries
pub run-judged : (t : Tables) (items h : History) (k : ℕ) (e : Entry Call Reply) (snapshot : Snapshot) (text left : List ℕ) (run : ℕ) (front : Result (Option ℕ) NoMemory) (f : AuditFault) → items ≡ h → k < length items
    → e ≡ get_or items k e → e.reply ≡ reply.Taken snapshot → HasCompared t items k text left run → ComparesFront (run_report (inputs_of t snapshot)) left front → IsRunJudged run front (Err f)
    → ComparesReports (runs_of t h) text (Err f)
run-judged t items h k e snapshot text left run (Ok None) f same within is taken before compares judged =
    let differs : f ≡ fault.ReportDiffers run = cc in
    subst (λ (x : AuditFault). ComparesReports (runs_of t h) text (Err x)) (sym differs)
    (inl (subst (λ (x : History). IsFirstMissing (runs_of t x) text run) same (compared-missing t items k e snapshot text left run within is taken before compares)))
run-judged t items h k e snapshot text left run (Ok (Some len)) f same within is taken before compares judged = (cc)
run-judged t items h k e snapshot text left run (Err refused) f same within is taken before compares judged =
    let memory : f ≡ fault.NoMemory = cc in
    subst (λ (x : AuditFault). ComparesReports (runs_of t h) text (Err x)) (sym memory) tt

-- the report of a run's plan is the run's, and a run that gets too large has none
pub planned : (s : Inputs) (text : List ℕ) (r : Result WholePlan RunFault) (front : Result (Option ℕ) NoMemory) → Explodes s r → IsPlannedFront r text front → ComparesFront (run_report s) text front
planned s text (Ok plan) front (same, explodes) is =
    subst (λ (report : List ℕ). ComparesFront report text front) (ap report_text same ∙ sym (ap (text_of_plan s) explodes)) is
planned s text (Err (fail.TooLarge item)) front explodes is =
    let none : run_report s ≡ [] = ap (text_of_plan s) explodes in
    subst (λ (r : Result (Option ℕ) NoMemory). ComparesFront (run_report s) text r) (sym is) (omega arith, ap (λ (r : List ℕ). r ++ text) (sym none))
planned s text (Err fail.NoMemory) front explodes (none, is) = subst (λ (r : Result (Option ℕ) NoMemory). ComparesFront (run_report s) text r) (sym is) tt
