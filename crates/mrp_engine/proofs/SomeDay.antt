-- A bundle has a day.
use Rattle.std.proofs.Common.{◌≡◌, ◌⊎◌, ℕ, Bool, true, false, if◌then◌else◌, List, [], ◌∷◌, ◌++◌, length, Result, Ok, Err, inl, inr, refl, ap, arith}
use Rattle.std.proofs.lemmas.List.Elements.{All-nil, All-cons, All-map, All-push, All-weaker}
use Rattle.std.specs.Prelude.{All}
use Rattle.std.specs.List.{list_any}
use Rattle.mrp_turn.specs.Log.{IsSeatNumber}
use Rattle.mrp_rows.specs.Bundle.{bundle_of}
use Rattle.mrp_rows.specs.declared.fault.Fault.{Fault}
use Rattle.mrp_tables.specs.declared.rows.ScriptRow.{ScriptRow}
use Rattle.mrp_tables.specs.Facts.{IsScriptRow}
use Rattle.mrp_tables.specs.Tables.{AreTables, Tables, tables_in, tables_of}
use Rattle.mrp_bill.specs.Bill.{AreWithin, IsCode, IsFirstLoop, NeedsItself}
use Rattle.mrp_bill.proofs.Accepted.{are-within}
use Rattle.mrp_tables.specs.declared.rows.BillLine.{BillLine}
use Rattle.mrp_master.specs.Supply.{Supply, supply_of}
use Rattle.mrp_book.specs.declared.call.Call.{Call}
use Rattle.mrp_book.specs.declared.call.Call.TheVariants as call
use Rattle.mrp_book.specs.Standing.{History}
use Rattle.mrp_book.specs.History.{Fits, IsLegal, asked}
use Rattle.mrp_item.specs.Inputs.{Inputs, item_at}
use Rattle.mrp_item.specs.Plan.{ItemPlan, plan_of}
use Rattle.mrp_engine.specs.day.Day.{IsPlannable, day_text, runs_of}
use Rattle.mrp_script.specs.Opened.{IsAccepted, loop_fault}
use Rattle.mrp_script.specs.Script.{AnswersScript, Script, is_run, record_of, script_of, with_run}
use Rattle.mrp_engine.specs.Laws.{ArePlannedOrRefused, HasDay, HasReading, HasLoopOrNone}
use Rattle.mrp_script.proofs.ScriptCalls.{call-fits}
use Rattle.mrp_script.proofs.ShopFaults.{sections-refused, tables-are}

-- what the laws that this one rests on say: tables keep their limits
abbrev pub KeepLimits : Type 0
KeepLimits = (texts : List (List ℕ)) (tables : Tables) → tables_in texts ≡ Ok tables → AreTables tables

-- a bill has a first loop, or none
abbrev pub HaveLoops : Type 0
HaveLoops =
    (count : ℕ) (lines : List BillLine) → AreWithin count lines
    → ((i : ℕ) × IsFirstLoop lines i) ⊎ (((i : ℕ) → NeedsItself lines i → ⊥) × ((i : ℕ) → (n : ℕ) × IsCode lines i n))

-- calls of desks that fit have a history
abbrev MayCall : Supply → ℕ × Call → Type 0
MayCall s a = IsSeatNumber a.0 × Fits s a.1

abbrev pub HaveHistories : Type 0
HaveHistories = (s : Supply) (calls : List (ℕ × Call)) → All (MayCall s) calls → (h : History) × IsLegal s h × (asked h ≡ calls)

-- a bundle has tables, or a first fault
pub reading : KeepLimits → (bundle : List ℕ) → HasReading bundle
reading keep bundle = by (bundle_of bundle) refl
  where
    of : (texts : List (List ℕ)) (r : Result Tables Fault) → bundle_of bundle ≡ Ok texts → tables_in texts ≡ r → HasReading bundle
    of texts (Ok tables) split e = inl (tables, tables-are bundle texts (Ok tables) split e, keep texts tables e)
    of texts (Err f) split e = inr (f, tables-are bundle texts (Err f) split e)

    by : (split : Result (List (List ℕ)) Fault) → bundle_of bundle ≡ split → HasReading bundle
    by (Err f) e = inr (f, sections-refused bundle f e)
    by (Ok texts) e = of texts (tables_in texts) e refl

-- an item of tables needs itself, a first one, or none does
pub bill : HaveLoops → (tables : Tables) → AreTables tables → HasLoopOrNone tables.bills
bill have tables kept = by (have (length tables.items) tables.bills (are-within tables.items tables.bills kept.bills))
  where
    by : ((i : ℕ) × IsFirstLoop tables.bills i) ⊎ (((i : ℕ) → NeedsItself tables.bills i → ⊥) × ((i : ℕ) → (n : ℕ) × IsCode tables.bills i n)) → HasLoopOrNone tables.bills
    by (inl first) = inl first
    by (inr none) = inr none.0

-- each record of a script may be called
record-fits : (t : Tables) (row : ScriptRow) → IsScriptRow t.calendar.weeks t.items row → MayCall (supply_of t) (record_of row)
record-fits t row is = ((is.desk.0, is.desk.1), call-fits t row.call is.call)

with-run-fits : (P : ℕ × Call → Type 0) (script : Script) (b : Bool) → P (1, call.Snapshot) → All P script → All P (if b then script else script ++ (1, call.Snapshot) ∷ [])
with-run-fits P script true one all = all
with-run-fits P script false one all = All-push P script (1, call.Snapshot) all one

script-fits : (t : Tables) → AreTables t → All (MayCall (supply_of t)) (with_run (script_of t))
script-fits t kept =
    let P : ℕ × Call → Type 0 = MayCall (supply_of t) in
    let rows : All (λ r. P (record_of r)) t.script = All-weaker (IsScriptRow t.calendar.weeks t.items) (λ r. P (record_of r)) (record-fits t) t.script kept.script in
    with-run-fits P (script_of t) (list_any (λ r. is_run r.1) (script_of t)) ((omega arith, omega arith), tt) (All-map P record_of t.script rows)

-- the script of tables has a history that answers it
pub history : HaveHistories → (tables : Tables) → AreTables tables → (h : History) × AnswersScript tables h
history have tables kept =
    let (h, legal, order) = have (supply_of tables) (with_run (script_of tables)) (script-fits tables kept) in
    (h, record { legal = legal; in_order = order })

-- all runs are planned, or one is the first that is refused
pub runs : (all : List Inputs) → ArePlannedOrRefused all
runs [] = inl (All-nil IsPlannable)
runs (s ∷ rest) = by (plan_of s) refl (runs rest)
  where
    by : (r : Result (List ItemPlan) ℕ) → plan_of s ≡ r → ArePlannedOrRefused rest → ArePlannedOrRefused (s ∷ rest)
    by (Err item) e later = inr ((item_at s item).name, ([], s, rest, refl, All-nil IsPlannable, (item, e, refl)))
    by (Ok plans) e (inl all) = inl (All-cons IsPlannable s rest (plans, e) all)
    by (Ok plans) e (inr (name, (before, t, after, cut, all, refused))) =
        inr (name, (s ∷ before, t, after, ap (λ (xs : List Inputs). s ∷ xs) cut, All-cons IsPlannable s before (plans, e) all, refused))

-- so a bundle has a text, a fault or a name
pub day : KeepLimits → HaveLoops → HaveHistories → (bundle : List ℕ) → HasDay bundle
day keep loops histories bundle = read (reading keep bundle)
  where
    planned : (tables : Tables) (h : History) → IsAccepted bundle tables → AnswersScript tables h → ArePlannedOrRefused (runs_of tables h) → HasDay bundle
    planned tables h accepted answers (inl all) = inl (day_text tables h, (tables, accepted, h, answers, all, refl))
    planned tables h accepted answers (inr (name, refused)) = inr (inr (name, (tables, accepted, h, answers, refused)))

    accepted : (tables : Tables) → IsAccepted bundle tables → AreTables tables → HasDay bundle
    accepted tables is kept = let (h, answers) = history histories tables kept in planned tables h is answers (runs (runs_of tables h))

    billed : (tables : Tables) → tables_of bundle ≡ Ok tables → AreTables tables → HasLoopOrNone tables.bills → HasDay bundle
    billed tables e kept (inl (item, first)) = inr (inl (loop_fault item, inr (tables, item, record { tables_are = e; loop = first }, refl)))
    billed tables e kept (inr none) = accepted tables (record { tables_are = e; no_loop = none }) kept

    read : HasReading bundle → HasDay bundle
    read (inl (tables, e, kept)) = billed tables e kept (bill loops tables kept)
    read (inr (f, e)) = inr (inl (f, inl e))
