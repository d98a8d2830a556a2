-- A day that was checked.
use Rattle.std.proofs.Common.{◌≡◌, ◌≢◌, ◌∙◌, ℕ, suc, ◌+◌, ◌<◌, List, [], ◌∷◌, ◌++◌, length, get_or, Result, Ok, Err, sym, ap, subst, refl, arith, inl, inr}
use Rattle.std.specs.Prelude.{All, decimal, flat_map, map, ⊤, ◌==◌}
use Rattle.std.specs.Int.{IsInRange}
use Rattle.std.specs.List.{enumerate_from, list_any}
use Rattle.std.proofs.lemmas.Bool.{cases_Bool, cases_lt, ne_eqb}
use Rattle.std.proofs.lemmas.List.Elements.{filter-append}
use Rattle.mrp_tables.specs.declared.rows.ScriptRow.{ScriptRow}
use Rattle.mrp_tables.specs.Facts.{IsScriptRow}
use Rattle.mrp_tables.specs.Tables.{Tables}
use Rattle.mrp_master.specs.Supply.{supply_of}
use Rattle.mrp_turn.specs.declared.log.Entry.{Entry}
use Rattle.mrp_book.specs.declared.call.Call.{Call}
use Rattle.mrp_book.specs.declared.call.Call.TheVariants as call
use Rattle.mrp_book.specs.declared.reply.Reply.{Reply}
use Rattle.mrp_book.specs.declared.reply.Reply.TheVariants as reply
use Rattle.mrp_book.specs.Standing.{History}
use Rattle.mrp_book.specs.History.{IsLegal, asked}
use Rattle.mrp_report.specs.section.HistoryText.{call_cells, entry_text, history_head, history_text, reply_cells}
use Rattle.mrp_report.specs.page.Rows.{row}
use Rattle.mrp_script.specs.Script.{Script, is_run, record_of, script_of, with_run}
use Rattle.mrp_engine.specs.day.Day.{runs_of}
use Rattle.mrp_script.specs.Opened.{IsAccepted, Opens}
use Rattle.mrp_engine.specs.day.RightDay.{FollowsDesks, asked_by}
use Rattle.mrp_claims.specs.declared.claim.Claim.{Claim}
use Rattle.mrp_audit.specs.declared.fault.AuditFault.{AuditFault}
use Rattle.mrp_audit.specs.declared.fault.AuditFault.TheVariants as fault
use Rattle.mrp_claims.specs.Claims.{claim_of, claim_text, claimed, claimed_cells, claims_from, claims_text}
use Rattle.mrp_script.specs.declared.fault.OpenFault.{OpenFault}
use Rattle.mrp_script.specs.declared.fault.OpenFault.TheVariants as opening
use Rattle.mrp_audit.specs.Parts.{ComparesDesks, ComparesHistory, ComparesReports, FollowsClaims}
use Rattle.mrp_audit.specs.Input.{input_fault}
use Rattle.mrp_audit.specs.Reading.{ReadsHistory}
use Rattle.mrp_claims.specs.Shape.{BeginsWith}
use Rattle.mrp_audit.specs.Verdict.{IsDeskRight, IsToldBy, Judges, JudgesText}

replies-same : (r : Reply) → reply_cells r ≡ claimed_cells (claimed r)
replies-same (reply.Booked n) = refl
replies-same (reply.Short n) = refl
replies-same reply.Cancelled = refl
replies-same reply.NotStanding = refl
replies-same reply.NotYours = refl
replies-same (reply.Available n) = refl
replies-same (reply.Week n) = refl
replies-same reply.NoWeek = refl
replies-same (reply.Taken snapshot) = refl
replies-same (reply.Front n) = refl

entries-same : (t : Tables) (number : ℕ) (h : History) → flat_map (entry_text t) (enumerate_from number h) ≡ claims_from t number (map claim_of h)
entries-same t number [] = refl
entries-same t number (e ∷ h) =
    ap (λ (x : List (List ℕ)). row (decimal number ∷ decimal e.who ∷ (call_cells t e.call ++ x)) ++ flat_map (entry_text t) (enumerate_from (number + 1) h)) (replies-same e.reply)
    ∙ ap (λ (x : List ℕ). claim_text t (number, claim_of e) ++ x) (entries-same t (number + 1) h)

-- a history is spelled as its claims are
pub history-claims : (t : Tables) (h : History) → history_text t h ≡ claims_text t (map claim_of h)
unfolding history_text
history-claims t h = ap (λ (x : List ℕ). history_head ++ x) (entries-same t 1 h)

-- the result of comparing a legal history that a text begins with
pub judged : (text : List ℕ) (t : Tables) (claims : List Claim) (h : History) (rest : List ℕ) (r : Result ⊤ AuditFault) → BeginsWith t text claims rest → IsToldBy t h claims → ComparesHistory t h rest r → JudgesText t text r
judged text t claims h rest (Ok done) begins told (desks, reports) = (
  h,
  record { legal = told.legal; by_desk = desks },
  begins.spelled ∙ ap (λ (x : List Claim). claims_text t x ++ rest) (sym told.told) ∙ ap (λ (x : List ℕ). x ++ rest) (sym (history-claims t h)) ∙ ap (λ (x : List ℕ). history_text t h ++ x) reports,
)
judged text t claims h rest (Err (fault.DeskRows desk)) begins told first = (h, rest, (subst (λ (x : List Claim). BeginsWith t text x rest) (sym told.told) begins, told.legal), first)
judged text t claims h rest (Err (fault.ReportDiffers run)) begins told (desks, first) =
    (h, rest, (subst (λ (x : List Claim). BeginsWith t text x rest) (sym told.told) begins, told.legal), desks, first)
judged text t claims h rest (Err fault.NoMemory) begins told is = tt
judged text t claims h rest (Err fault.Shape) begins told is = absurd is
judged text t claims h rest (Err (fault.Input f)) begins told is = is
judged text t claims h rest (Err (fault.HistoryNotLegal entry)) begins told is = absurd is

-- what refuses a bundle, a shape or a claim is judged so
pub unopened : (bundle text : List ℕ) (f : OpenFault) → Opens bundle (Err f) → Judges bundle text (Err (input_fault f))
unopened bundle text (opening.Refused f) is = is
unopened bundle text opening.NoMemory is = tt

pub unshaped : (text : List ℕ) (t : Tables) (f : AuditFault) → ReadsHistory t text (Err f) → JudgesText t text (Err f)
unshaped text t fault.Shape is = is
unshaped text t fault.NoMemory is = tt
unshaped text t (fault.Input f) is = is
unshaped text t (fault.HistoryNotLegal entry) is = absurd is
unshaped text t (fault.DeskRows desk) is = absurd is
unshaped text t (fault.ReportDiffers run) is = absurd is

pub untold : (text : List ℕ) (t : Tables) (claims : List Claim) (rest : List ℕ) (f : AuditFault) → BeginsWith t text claims rest → FollowsClaims t claims (Err f) → JudgesText t text (Err f)
untold text t claims rest (fault.HistoryNotLegal entry) begins is = (claims, rest, begins, is)
untold text t claims rest fault.NoMemory begins is = tt
untold text t claims rest fault.Shape begins is = absurd is
untold text t claims rest (fault.Input f) begins is = is
untold text t claims rest (fault.DeskRows desk) begins is = absurd is
untold text t claims rest (fault.ReportDiffers run) begins is = absurd is

-- a verdict for accepted tables is one for their bundle
pub judged-of : (bundle text : List ℕ) (t : Tables) (r : Result ⊤ AuditFault) → IsAccepted bundle t → JudgesText t text r → Judges bundle text r
judged-of bundle text t (Ok done) accepted (h, answers, is) = (t, accepted, h, answers, is)
judged-of bundle text t (Err (fault.Input f)) accepted is = absurd is
judged-of bundle text t (Err fault.NoMemory) accepted is = tt
judged-of bundle text t (Err fault.Shape) accepted is = (t, accepted, is)
judged-of bundle text t (Err (fault.HistoryNotLegal entry)) accepted is = (t, accepted, is)
judged-of bundle text t (Err (fault.DeskRows desk)) accepted is = (t, accepted, is)
judged-of bundle text t (Err (fault.ReportDiffers run)) accepted is = (t, accepted, is)

-- a number that no desk has
abbrev NoDesk : ℕ → Type 0
NoDesk desk = (who : ℕ) → IsInRange 1 64 who → who ≢ desk

script-none : (desk : ℕ) (rows : List ScriptRow) → ((k : ℕ) (d : ScriptRow) → k < length rows → (get_or rows k d).desk ≢ desk) → asked_by desk (map record_of rows) ≡ []
script-none desk [] other = refl
script-none desk (r ∷ rows) other =
    rw (ne_eqb r.desk desk (other 0 r (omega arith))) (script-none desk rows (λ (k : ℕ) (d : ScriptRow) (within : k < length rows). other (suc k) d (omega (arith, within))))

with-run-none : (desk : ℕ) (script : Script) → 1 ≢ desk → asked_by desk script ≡ [] → asked_by desk (with_run script) ≡ []
with-run-none desk script other none = elim (cases_Bool (list_any (λ r. is_run r.1) script)) [
  | inl some ↦ rw some none
  | inr without ↦
      let last : asked_by desk ((1, call.Snapshot) ∷ []) ≡ [] = rw (ne_eqb 1 desk other) refl in
      rw without (filter-append (λ (r : ℕ × Call). r.0 == desk) script ((1, call.Snapshot) ∷ []) ∙ ap (λ (x : Script). x ++ asked_by desk ((1, call.Snapshot) ∷ [])) none ∙ last)
]

history-none : (desk : ℕ) (h : History) → ((before : History) (e : Entry Call Reply) (after : History) → h ≡ before ++ e ∷ after → e.who ≢ desk) → asked_by desk (asked h) ≡ []
history-none desk [] other = refl
history-none desk (e ∷ h) other =
    rw (ne_eqb e.who desk (other [] e h refl)) (history-none desk h (λ (before : History) (x : Entry Call Reply) (after : History) (is : h ≡ before ++ x ∷ after). other (e ∷ before) x after (ap (λ (y : History). e ∷ y) is)))

-- the calls of a number that no desk has are the same
nobody : (t : Tables) (h : History) (desk : ℕ) → NoDesk desk → IsLegal (supply_of t) h → All (IsScriptRow t.calendar.weeks t.items) t.script → IsDeskRight t h desk
nobody t h desk none legal rows =
    history-none desk h (λ (before : History) (e : Entry Call Reply) (after : History) (is : h ≡ before ++ e ∷ after). none e.who (legal before e after is).0)
    ∙ sym (with-run-none desk (script_of t) (none 1 (omega arith, omega arith)) (script-none desk t.script (λ (k : ℕ) (d : ScriptRow) (within : k < length t.script). none (get_or t.script k d).desk (rows k d within).desk)))

low-desk : (desk : ℕ) → desk < 1 → NoDesk desk
low-desk desk low who within same = omega (arith, low, within.0, same)

high-desk : (desk : ℕ) → 64 < desk → NoDesk desk
high-desk desk high who within same = omega (arith, high, within.1, same)

-- if each desk's calls are the same, they are so for every number
pub all-desks : (t : Tables) (h : History) → IsLegal (supply_of t) h → All (IsScriptRow t.calendar.weeks t.items) t.script → ComparesDesks (asked h) (with_run (script_of t)) (Ok tt) → FollowsDesks t h
all-desks t h legal rows compares desk = elim (cases_lt desk 1) [
  | inl low ↦ nobody t h desk (low-desk desk low) legal rows
  | inr some ↦ elim (cases_lt 64 desk) [
    | inl high ↦ nobody t h desk (high-desk desk high) legal rows
    | inr few ↦ compares desk (some, few)
  ]
]

-- if those of a desk are not, it is the first
pub desk-refused : (t : Tables) (h : History) (text : List ℕ) (f : AuditFault) → IsLegal (supply_of t) h → All (IsScriptRow t.calendar.weeks t.items) t.script → ComparesDesks (asked h) (with_run (script_of t)) (Err f) → ComparesHistory t h text (Err f)
desk-refused t h text (fault.DeskRows desk) legal rows (differs, least) = record {
  differs = differs;
  least = λ other before. elim (cases_lt other 1) [
    | inl low ↦ nobody t h other (low-desk other low) legal rows
    | inr some ↦ least other some before
  ];
}
desk-refused t h text fault.NoMemory legal rows is = absurd is
desk-refused t h text fault.Shape legal rows is = is
desk-refused t h text (fault.Input f) legal rows is = is
desk-refused t h text (fault.HistoryNotLegal entry) legal rows is = is
desk-refused t h text (fault.ReportDiffers run) legal rows is = absurd is

-- the reports of a history whose desks are right
pub reports-compared : (t : Tables) (h : History) (text : List ℕ) (r : Result ⊤ AuditFault) → FollowsDesks t h → ComparesReports (runs_of t h) text r → ComparesHistory t h text r
reports-compared t h text (Ok done) desks is = (desks, is)
reports-compared t h text (Err (fault.ReportDiffers run)) desks is = (desks, is)
reports-compared t h text (Err fault.NoMemory) desks is = tt
reports-compared t h text (Err fault.Shape) desks is = is
reports-compared t h text (Err (fault.Input f)) desks is = is
reports-compared t h text (Err (fault.HistoryNotLegal entry)) desks is = is
reports-compared t h text (Err (fault.DeskRows desk)) desks is = absurd is
