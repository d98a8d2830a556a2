-- Days that are right days.
use Rattle.std.proofs.Common.{◌≡◌, ◌∙◌, ℕ, ◌==◌, Bool, true, false, cond, if◌then◌else◌, List, [], ◌∷◌, ◌++◌, get_or, ap, ap₂, arith, refl, subst, sym}
use Rattle.std.specs.Prelude.{All, Contains}
use Rattle.std.proofs.lemmas.Bool.{eq-eqb}
use Rattle.std.proofs.lemmas.List.{get_or-map, length-map}
use Rattle.std.proofs.lemmas.List.Elements.{All-cons, All-contains_itself, All-filter, All-head, All-map, All-nil, All-push, All-tail, recursion_from_All}
use Rattle.std.specs.List.{AllByRecursion, flat_map, list_any}
use Rattle.mrp_tables.specs.declared.rows.ScriptCall.TheVariants as s
use Rattle.mrp_tables.specs.Tables.{Tables}
use Rattle.mrp_turn.specs.declared.log.Entry.{Entry}
use Rattle.mrp_book.specs.declared.call.Call.{Call}
use Rattle.mrp_book.specs.declared.call.Call.TheVariants as call
use Rattle.mrp_book.specs.declared.reply.Reply.{Reply}
use Rattle.mrp_book.specs.Standing.{History}
use Rattle.mrp_book.specs.History.{asked}
use Rattle.mrp_item.specs.Inputs.{Inputs}
use Rattle.mrp_report.specs.section.HistoryText.{history_text}
use Rattle.mrp_report.specs.ReportText.{report_text}
use Rattle.mrp_engine.specs.day.Day.{IsDay, IsDayBy, IsPlannable, runs_of}
use Rattle.mrp_script.specs.Script.{AnswersScript, Script, is_run, record_of, script_of, with_run}
use Rattle.mrp_engine.specs.Laws.{CallsByWords, CallsFromScript, IsOfWord}
use Rattle.mrp_engine.specs.day.RightDay.{AnswersDesks, IsRightDay, asked_by, run_report, text_of_plan}

-- row order is an order of the desks
pub in-order : (t : Tables) (h : History) → AnswersScript t h → AnswersDesks t h
in-order t h answers = record { legal = answers.legal; by_desk = λ desk. ap (asked_by desk) answers.in_order }

-- a list has what it has under each number
pub parts-hold : (P : ℕ × Call → Type 0) (xs : Script) → ((d : ℕ) → All P (asked_by d xs)) → All P xs
parts-hold P [] each = All-nil P
parts-hold P (x ∷ xs) each =
    let own : asked_by x.0 (x ∷ xs) ≡ x ∷ asked_by x.0 xs = ap (λ (b : Bool). cond b (x ∷ asked_by x.0 xs) (asked_by x.0 xs)) (eq-eqb x.0 x.0 refl) in
    All-cons P x xs (All-head P x (asked_by x.0 xs) (subst (All P) own (each x.0))) (parts-hold P xs (λ d. rest d (x.0 == d) (each d)))
  where
    rest : (d : ℕ) (b : Bool) → All P (cond b (x ∷ asked_by d xs) (asked_by d xs)) → All P (asked_by d xs)
    rest d true all = All-tail P x (asked_by d xs) all
    rest d false all = all

-- what holds of each record of the script and of the added run holds of each call of the history
of-records : (P : ℕ × Call → Type 0) (t : Tables) (h : History) → AnswersDesks t h → All P (with_run (script_of t)) → All (λ e. P (e.who, e.call)) h
of-records P t h answers records k d within =
    let all : All P (asked h) = parts-hold P (asked h) (λ desk. subst (All P) (sym (answers.by_desk desk)) (All-filter (λ r. r.0 == desk) P (with_run (script_of t)) records)) in
    let long = length-map {B = ℕ × Call} h (λ e. (e.who, e.call)) in
    subst P (get_or-map (λ (e : Entry Call Reply). (e.who, e.call)) h k d (d.who, d.call) within) (all k (d.who, d.call) (omega (arith, within, long)))

pub from-script : (t : Tables) (h : History) → AnswersDesks t h → CallsFromScript t h
from-script t h answers = of-records (Contains (with_run (script_of t))) t h answers (All-contains_itself (with_run (script_of t)))

pub by-words : (t : Tables) (h : History) → AnswersDesks t h → CallsByWords h
by-words t h answers = of-records Worded t h answers (added (list_any (λ r. is_run r.1) (script_of t)))
  where
    Worded : ℕ × Call → Type 0
    Worded r = IsOfWord r.1

    worded : All Worded (script_of t)
    worded = All-map Worded record_of t.script (λ k d within. ((get_or t.script k d).call, refl))

    added : (b : Bool) → All Worded (if b then script_of t else script_of t ++ (1, call.Snapshot) ∷ [])
    added true = worded
    added false = All-push Worded (script_of t) (1, call.Snapshot) worded (s.Run, refl)

-- if each run is planned, each has its report
all-reported : (runs : List Inputs) → AllByRecursion IsPlannable runs → flat_map run_report runs ≡ flat_map report_text runs
all-reported [] all = refl
all-reported (run ∷ runs) all = ap₂ (λ (x y : List ℕ). x ++ y) (ap (text_of_plan run) all.0.1) (all-reported runs all.1)

pub live-right : (bundle text : List ℕ) → IsDayBy AnswersDesks bundle text → IsRightDay bundle text
live-right bundle text (t, accepted, h, answers, plans, is) =
    (t, accepted, h, answers, is ∙ ap (λ (reports : List ℕ). history_text t h ++ reports) (sym (all-reported (runs_of t h) (recursion_from_All IsPlannable (runs_of t h) plans))))

pub day-right : (bundle text : List ℕ) → IsDay bundle text → IsRightDay bundle text
day-right bundle text (t, accepted, h, answers, plans, is) = live-right bundle text (t, accepted, h, in-order t h answers, plans, is)
