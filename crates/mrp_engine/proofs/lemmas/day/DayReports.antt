-- The reports of a history's runs, entry by entry.
use Rattle.std.proofs.Common.{◌≡◌, ◌∙◌, ℕ, ◌+◌, ◌<◌, ◌⊎◌, List, [], ◌∷◌, ◌++◌, length, take, drop, get_or, Option, None, Some, ap, inl, inr, subst, sym}
use Rattle.std.proofs.lemmas.List.{append-nil}
use Rattle.std.proofs.lemmas.List.Concat.{flat_map-append}
use Rattle.std.proofs.lemmas.List.Elements.{All-head, All-tail}
use Rattle.std.specs.Prelude.{All, IfSome}
use Rattle.std.specs.List.{flat_map}
use Rattle.mrp_turn.specs.declared.log.Entry.{Entry}
use Rattle.mrp_tables.specs.Tables.{Tables}
use Rattle.mrp_book.specs.declared.call.Call.{Call}
use Rattle.mrp_book.specs.declared.reply.Reply.{Reply}
use Rattle.mrp_book.specs.declared.reply.Reply.TheVariants as reply
use Rattle.mrp_book.specs.Snapshot.{Snapshot}
use Rattle.mrp_book.specs.Standing.{History}
use Rattle.mrp_item.specs.Inputs.{Inputs, inputs_of}
use Rattle.mrp_item.specs.Places.{WholePlan}
use Rattle.mrp_report.specs.ReportText.{report_text}
use Rattle.mrp_engine.specs.day.Day.{IsPlannable, planned_from, runs_of}
use Rattle.mrp_engine.specs.day.RunPlans.{IsOfFirst}
use Rattle.mrp_engine.proofs.lemmas.day.RunsPlanned.{runs-cut, runs-more, runs-same}

abbrev pub reports : Tables → History → List ℕ
reports t h = flat_map report_text (runs_of t h)

-- one more run
pub reports-more : (t : Tables) (h : History) (k : ℕ) (e : Entry Call Reply) (snapshot : Snapshot) → k < length h → e ≡ get_or h k e → e.reply ≡ reply.Taken snapshot
    → reports t (take (k + 1) h) ≡ reports t (take k h) ++ report_text (inputs_of t snapshot)
reports-more t h k e snapshot within is taken =
    ap (flat_map report_text) (runs-more t h k e within is ∙ ap (λ (r : Reply). runs_of t (take k h) ++ planned_from t r) taken)
    ∙ flat_map-append report_text (runs_of t (take k h)) (inputs_of t snapshot ∷ [])
    ∙ ap (λ (x : List ℕ). reports t (take k h) ++ x) (append-nil (report_text (inputs_of t snapshot)))

-- the runs are those up to an entry, that entry's run and those after it
pub runs-around : (t : Tables) (h : History) (k : ℕ) (e : Entry Call Reply) (snapshot : Snapshot) → k < length h → e ≡ get_or h k e → e.reply ≡ reply.Taken snapshot
    → runs_of t h ≡ runs_of t (take k h) ++ inputs_of t snapshot ∷ runs_of t (drop (k + 1) h)
runs-around t h k e snapshot within is taken =
    runs-cut t h k e within is ∙ ap (λ (r : Reply). runs_of t (take k h) ++ (planned_from t r ++ runs_of t (drop (k + 1) h))) taken

pub reports-around : (t : Tables) (h : History) (k : ℕ) (e : Entry Call Reply) (snapshot : Snapshot) → k < length h → e ≡ get_or h k e → e.reply ≡ reply.Taken snapshot
    → reports t h ≡ reports t (take k h) ++ (report_text (inputs_of t snapshot) ++ reports t (drop (k + 1) h))
reports-around t h k e snapshot within is taken =
    ap (flat_map report_text) (runs-around t h k e snapshot within is taken)
    ∙ flat_map-append report_text (runs_of t (take k h)) (inputs_of t snapshot ∷ runs_of t (drop (k + 1) h))

-- an entry that is no run has no report
pub reports-same : (t : Tables) (h : History) (k : ℕ) (e : Entry Call Reply) → k < length h → e ≡ get_or h k e → planned_from t e.reply ≡ [] → reports t (take (k + 1) h) ≡ reports t (take k h)
reports-same t h k e within is none = ap (flat_map report_text) (runs-same t h k e within is none)

-- each run can be planned
pub run-plannable : (t : Tables) (h : History) (k : ℕ) (e : Entry Call Reply) (snapshot : Snapshot) → k < length h → e ≡ get_or h k e → e.reply ≡ reply.Taken snapshot
    → All IsPlannable (runs_of t h) → IsPlannable (inputs_of t snapshot)
run-plannable t h k e snapshot within is taken all =
    (within-list (runs_of t (take k h)) (inputs_of t snapshot) (runs_of t (drop (k + 1) h)) (subst (All IsPlannable) (runs-around t h k e snapshot within is taken) all))
  where
    within-list : (before : List Inputs) (s : Inputs) (after : List Inputs) → All IsPlannable (before ++ s ∷ after) → IsPlannable s
    within-list [] s after holds = All-head IsPlannable s after holds
    within-list (x ∷ xs) s after holds = within-list xs s after (All-tail IsPlannable x (xs ++ s ∷ after) holds)

-- a plan that is made already is that of the next run: no run stands before it
abbrev pub IsReady : Tables → History → Option WholePlan → ℕ → Option WholePlan → Type 0
IsReady t h first k made = (made ≡ None) ⊎ ((runs_of t (take k h) ≡ []) × (made ≡ first))

pub made-is-next : (t : Tables) (h : History) (first : Option WholePlan) (k : ℕ) (e : Entry Call Reply) (snapshot : Snapshot) (made : Option WholePlan) → k < length h → e ≡ get_or h k e → e.reply ≡ reply.Taken snapshot
    → IsOfFirst (runs_of t h) first → IsReady t h first k made → IfSome made (λ p. p.inputs ≡ inputs_of t snapshot)
made-is-next t h first k e snapshot made within is taken of (inl none) = subst (λ (m : Option WholePlan). IfSome m (λ p. p.inputs ≡ inputs_of t snapshot)) (sym none) tt
made-is-next t h first k e snapshot made within is taken of (inr (no_run, same)) =
    let runs : runs_of t h ≡ inputs_of t snapshot ∷ runs_of t (drop (k + 1) h) =
    runs-around t h k e snapshot within is taken ∙ ap (λ (r : List Inputs). r ++ inputs_of t snapshot ∷ runs_of t (drop (k + 1) h)) no_run in
    by made (subst (λ (m : Option WholePlan). IsOfFirst (inputs_of t snapshot ∷ runs_of t (drop (k + 1) h)) m) (sym same) (subst (λ (r : List Inputs). IsOfFirst r first) runs of))
  where
    by : (m : Option WholePlan) → IsOfFirst (inputs_of t snapshot ∷ runs_of t (drop (k + 1) h)) m → IfSome m (λ p. p.inputs ≡ inputs_of t snapshot)
    by None of = tt
    by (Some p) of = cc

-- after an entry that is no run it still is
pub still-ready : (t : Tables) (h : History) (first : Option WholePlan) (k : ℕ) (e : Entry Call Reply) (made : Option WholePlan) → k < length h → e ≡ get_or h k e → planned_from t e.reply ≡ []
    → IsReady t h first k made → IsReady t h first (k + 1) made
still-ready t h first k e made within is none (inl gone) = inl gone
still-ready t h first k e made within is none (inr (no_run, same)) = inr (runs-same t h k e within is none ∙ no_run, same)
