-- A right day has no fault.
use Rattle.std.proofs.Common.{◌≡◌, ◌∙◌, ℕ, ◌<◌, ◌≤◌, ◌==◌, Bool, true, false, if◌then◌else◌, nat_le, Option, Some, None, Result, Ok, Err, List, [], ◌∷◌, ◌++◌, length, get_or, sym, ap, ap₂, subst, refl, arith, inl, inr}
use Rattle.std.specs.Prelude.{All, find, map, ⊤}
use Rattle.std.specs.List.{list_any}
use Rattle.std.proofs.lemmas.List.{append-nil, append_cancel_left, length-append, length-map}
use Rattle.std.proofs.lemmas.List.Concat.{flat_map-append}
use Rattle.std.proofs.lemmas.List.Elements.{All-cons, All-filter, All-head, All-map, All-nil, All-push, All-tail}
use Rattle.mrp_tables.specs.declared.rows.ScriptCall.{ScriptCall}
use Rattle.mrp_tables.specs.declared.rows.ScriptCall.TheVariants as s
use Rattle.mrp_tables.specs.Facts.{IsScriptCall, IsScriptRow}
use Rattle.mrp_tables.specs.Tables.{Tables}
use Rattle.mrp_turn.specs.declared.log.Entry.{Entry}
use Rattle.mrp_turn.proofs.Logs.{one_more}
use Rattle.mrp_master.specs.declared.line.Line.{Line}
use Rattle.mrp_master.specs.Supply.{IsAvailable, IsMaster, IsSupply, IsWeek, Supply, due_by, line, supply, supply_of}
use Rattle.mrp_master.proofs.Available.{due_by_more, share, share_here}
use Rattle.mrp_book.specs.declared.booking.Booking.{Booking}
use Rattle.mrp_book.specs.declared.call.Call.{Call}
use Rattle.mrp_book.specs.declared.call.Call.TheVariants as call
use Rattle.mrp_book.specs.declared.reply.Reply.{Reply}
use Rattle.mrp_book.specs.declared.reply.Reply.TheVariants as reply
use Rattle.mrp_book.specs.Standing.{History, booked, standing}
use Rattle.mrp_book.specs.History.{Fits, IsLegal, IsReply, asked, cancel_reply, next_number}
use Rattle.mrp_book.proofs.Histories.{history-unique, legal-front}
use Rattle.mrp_item.specs.Inputs.{Inputs}
use Rattle.mrp_item.specs.Plan.{ItemPlan, plan_of}
use Rattle.mrp_report.specs.ReportText.{report_text}
use Rattle.mrp_day.specs.Sections.{head_of}
use Rattle.mrp_script.specs.Script.{Script, call_of, is_run, record_of, script_of, with_run}
use Rattle.mrp_engine.specs.day.Day.{runs_of}
use Rattle.mrp_script.specs.Opened.{IsAccepted, Opens}
use Rattle.mrp_engine.specs.day.RightDay.{AnswersDesks, FollowsDesks, IsRightDay, asked_by, right_text, run_report, text_of_plan}
use Rattle.mrp_script.proofs.OneOpening.{accepted-not-refused, same-tables}
use Rattle.mrp_engine.proofs.RightDays.{parts-hold}
use Rattle.mrp_script.proofs.ScriptCalls.{call-fits}
use Rattle.mrp_claims.specs.declared.claim.Claim.{Claim}
use Rattle.mrp_audit.specs.declared.fault.AuditFault.{AuditFault}
use Rattle.mrp_audit.specs.declared.fault.AuditFault.TheVariants as fault
use Rattle.mrp_claims.specs.Claims.{IsClaim, IsClaimable, IsScripted, claim_of, claimed}
use Rattle.mrp_audit.specs.Kept.{KeepsLimits}
use Rattle.mrp_claims.specs.Shape.{BeginsWith, EndsHistory}
use Rattle.mrp_script.specs.declared.fault.OpenFault.{OpenFault}
use Rattle.mrp_script.specs.declared.fault.OpenFault.TheVariants as opening
use Rattle.mrp_audit.specs.Input.{input_fault}
use Rattle.mrp_audit.specs.Verdict.{HasMore, IsFirstFalse, IsFirstMissing, IsWrong, JudgesText, Passes, reports_text}
use Rattle.mrp_engine.proofs.lemmas.live.DeskCounts.{few-by-number}
use Rattle.mrp_engine.proofs.lemmas.live.DeskHistories.{run-adds}
use Rattle.mrp_audit.proofs.Judged.{history-claims}
use Rattle.mrp_audit.proofs.OneHistory.{begins-once}

-- Legal histories by their claims.

same-asked : (h : History) → asked h ≡ map (λ (c : Claim). (c.desk, c.call)) (map claim_of h)
same-asked [] = refl
same-asked (e ∷ h) = ap (λ (xs : Script). (e.who, e.call) ∷ xs) (same-asked h)

pub told-once : (b : Supply) (g h : History) → IsLegal b g → IsLegal b h → map claim_of g ≡ map claim_of h → g ≡ h
told-once b g h one other same = history-unique b g h one other (same-asked g ∙ ap (map (λ (c : Claim). (c.desk, c.call))) same ∙ sym (same-asked h))

-- a history whose claims are cut is cut there
record IsCut (h : History) (before : List Claim) (claim : Claim) : Type 0 where
  front : History
  entry : Entry Call Reply
  after : History
  place : h ≡ front ++ entry ∷ after
  told : map claim_of front ≡ before
  is : claim_of entry ≡ claim

cut-at : (h : History) (before : List Claim) (claim : Claim) (after : List Claim) → map claim_of h ≡ before ++ claim ∷ after → IsCut h before claim
cut-at [] [] claim after same = absurd cc
cut-at [] (b ∷ before) claim after same = absurd cc
cut-at (e ∷ h) [] claim after same = record { front = []; entry = e; after = h; place = refl; told = refl; is = cc }
cut-at (e ∷ h) (b ∷ before) claim after same =
    let head : claim_of e ≡ b = cc in
    let tail : map claim_of h ≡ before ++ claim ∷ after = cc in
    let rest = cut-at h before claim after tail in
    record {
      front = e ∷ rest.front;
      entry = rest.entry;
      after = rest.after;
      place = ap (λ (x : History). e ∷ x) rest.place;
      told = ap₂ (λ (x : Claim) (xs : List Claim). x ∷ xs) head rest.told;
      is = rest.is;
    }

-- no claim of a legal history is false
pub none-false : (t : Tables) (h : History) (claims : List Claim) (number : ℕ) → IsLegal (supply_of t) h → map claim_of h ≡ claims → IsFirstFalse t claims number → ⊥
none-false t h claims number legal told first =
    let b = supply_of t in
    let cut = cut-at h (map claim_of first.before) first.claim first.after (told ∙ first.place) in
    let front : IsLegal b cut.front = legal-front b cut.front (cut.entry ∷ cut.after) (subst (IsLegal b) cut.place legal) in
    let same : cut.front ≡ first.before = told-once b cut.front first.before front first.legal cut.told in
    let may = (legal cut.front cut.entry cut.after cut.place).1 in
    let here : IsReply b first.before cut.entry.who cut.entry.call cut.entry.reply = subst (λ (x : History). IsReply b x cut.entry.who cut.entry.call cut.entry.reply) same may in
    let by : IsReply b first.before first.claim.desk cut.entry.call cut.entry.reply =
    subst (λ (n : ℕ). IsReply b first.before n cut.entry.call cut.entry.reply) (ap (λ (c : Claim). c.desk) cut.is) here in
    let made : IsReply b first.before first.claim.desk first.claim.call cut.entry.reply =
    subst (λ (c : Call). IsReply b first.before first.claim.desk c cut.entry.reply) (ap (λ (c : Claim). c.call) cut.is) by in
    first.refuted cut.entry.reply made (ap (λ (c : Claim). c.reply) cut.is)

-- The claims of a history that answers a script.

scripted : (t : Tables) (c : ScriptCall) → IsScriptCall t.calendar.weeks t.items c → IsScripted t (call_of c)
scripted t (s.Book item week quantity) is = call-fits t (s.Book item week quantity) is
scripted t (s.Cancel entry) is = is.cancel entry refl
scripted t (s.Ask item week) is = call-fits t (s.Ask item week) is
scripted t (s.When item quantity) is = call-fits t (s.When item quantity) is
scripted t s.Run is = tt

abbrev Scripted : Tables → ℕ × Call → Type 0
Scripted t r = IsScripted t r.1

records-scripted : (t : Tables) → All (IsScriptRow t.calendar.weeks t.items) t.script → All (Scripted t) (with_run (script_of t))
records-scripted t rows = added (list_any (λ r. is_run r.1) (script_of t))
  where
    own : All (Scripted t) (script_of t)
    own = All-map (Scripted t) record_of t.script (λ k d within. scripted t (get_or t.script k d).call (rows k d within).call)

    added : (b : Bool) → All (Scripted t) (if b then script_of t else script_of t ++ (1, call.Snapshot) ∷ [])
    added true = own
    added false = All-push (Scripted t) (script_of t) (1, call.Snapshot) own tt

pub all-scripted : (t : Tables) (h : History) → All (IsScriptRow t.calendar.weeks t.items) t.script → FollowsDesks t h → All (Scripted t) (asked h)
all-scripted t h rows follows =
    parts-hold (Scripted t) (asked h)
    (λ (d : ℕ). subst (All (Scripted t)) (sym (follows d)) (All-filter (λ (r : ℕ × Call). r.0 == d) (Scripted t) (with_run (script_of t)) (records-scripted t rows)))

-- a legal history has desks of a range
seats-from : (b : Supply) (h before later : History) → IsLegal b h → h ≡ before ++ later → All (λ (r : ℕ × Call). r.0 < 65) (asked later)
seats-from b h before [] legal cut = All-nil (λ (r : ℕ × Call). r.0 < 65)
seats-from b h before (e ∷ later) legal cut =
    let seat = (legal before e later cut).0.1 in
    All-cons (λ (r : ℕ × Call). r.0 < 65) (e.who, e.call) (asked later) (omega (arith, seat)) (seats-from b h (before ++ e ∷ []) later legal (cut ∙ one_more before e later))

-- and no more entries than its script has records, with one more
pub few-entries : (t : Tables) (h : History) → KeepsLimits t → IsLegal (supply_of t) h → FollowsDesks t h → length h ≤ 100001
few-entries t h keeps legal follows =
    let here = length-map {B = ℕ × Call} h (λ (e : Entry Call Reply). (e.who, e.call)) in
    let most = few-by-number (λ (r : ℕ × Call). r.0) (λ (r : ℕ × Call). r.0) (asked h) (with_run (script_of t)) 65 (seats-from (supply_of t) h [] h legal refl)
    (λ d below. let same = ap (length {A = ℕ × Call}) (follows d) in omega (arith, same)) in
    let adds = run-adds (script_of t) in
    let rows = length-map {B = ℕ × Call} t.script record_of in
    let few = keeps.few in
    omega (arith, here, most, adds, rows, few)

-- what is available is no more than the supply
little-available : (b : Supply) (lines : List Line) (item week a : ℕ) → IsSupply b → IsMaster b item → IsWeek b week → IsAvailable b lines item week a → a ≤ 1000000000000000
little-available b lines item week a kept master inside available =
    let due : due_by item week (lines ++ line item week a ∷ []) ≤ supply b item week = available.fits item master week inside in
    let sum = due_by_more lines item week item week a in
    let here : share item week item week a ≡ a = share_here item week week a (omega arith) in
    let little = kept.little item week in
    omega (arith, due, sum, here, little)

booking-claimable : (b : Bool) (number a : ℕ) → number ≤ 1000000000000000 → a ≤ 1000000000000000 → IsClaimable (claimed (if b then reply.Booked number else reply.Short a))
booking-claimable true number a low little = low
booking-claimable false number a low little = little

own-claimable : (b : Bool) → IsClaimable (claimed (if b then reply.Cancelled else reply.NotYours))
own-claimable true = tt
own-claimable false = tt

cancel-claimable : (desk : ℕ) (o : Option Booking) → IsClaimable (claimed (cancel_reply desk o))
cancel-claimable desk None = tt
cancel-claimable desk (Some b) = own-claimable (b.desk == desk)

-- a reply of a legal history has a value within its limits
claimable : (b : Supply) (h : History) (desk : ℕ) (c : Call) (r : Reply) → IsSupply b → length h ≤ 1000000 → Fits b c → IsReply b h desk c r → IsClaimable (claimed r)
claimable b h desk (call.Book l) r kept few fits (a, available, is) =
    subst (λ (x : Reply). IsClaimable (claimed x)) (sym is)
    (booking-claimable (nat_le l.quantity a) (next_number h) a (omega (arith, few)) (little-available b (booked h) l.item l.week a kept fits.item fits.week available))
claimable b h desk (call.Cancel n) r kept few fits is = subst (λ (x : Reply). IsClaimable (claimed x)) (sym is) (cancel-claimable desk (find (λ x. x.number == n) (standing h)))
claimable b h desk (call.Ask p) r kept few fits (a, available, is) =
    subst (λ (x : Reply). IsClaimable (claimed x)) (sym is) (little-available b (booked h) p.item p.week a kept fits.item fits.week available)
claimable b h desk (call.When w) r kept few fits (None, earliest, is) = subst (λ (x : Reply). IsClaimable (claimed x)) (sym is) tt
claimable b h desk (call.When w) r kept few fits (Some week, earliest, is) =
    let inside = earliest.0 in
    let last = kept.last in
    subst (λ (x : Reply). IsClaimable (claimed x)) (sym is) (inside.0, omega (arith, inside.1, last))
claimable b h desk call.Snapshot r kept few fits is = subst (λ (x : Reply). IsClaimable (claimed x)) (sym is) (omega (arith, few))
claimable b h desk call.Front r kept few fits is = subst (λ (x : Reply). IsClaimable (claimed x)) (sym is) (omega (arith, few))

pub claims-made : (t : Tables) (h before later : History) → IsSupply (supply_of t) → IsLegal (supply_of t) h → h ≡ before ++ later → length h ≤ 1000000 → All (Scripted t) (asked later) → All (IsClaim t) (map claim_of later)
claims-made t h before [] kept legal cut few all = All-nil (IsClaim t)
claims-made t h before (e ∷ later) kept legal cut few all =
    let may = legal before e later cut in
    let size = ap (length {A = Entry Call Reply}) cut ∙ length-append before (e ∷ later) in
    All-cons (IsClaim t) (claim_of e) (map claim_of later)
    (record {
      desk = may.0;
      call = All-head (Scripted t) (e.who, e.call) (asked later) all;
      reply = claimable (supply_of t) before e.who e.call e.reply kept (omega (arith, size, few)) may.2 may.1;
    })
    (claims-made t h (before ++ e ∷ []) later kept legal (cut ∙ one_more before e later) few (All-tail (Scripted t) (e.who, e.call) (asked later) all))

-- What follows a right day's history.

report-begins : (s : Inputs) (rest : List ℕ) → EndsHistory (report_text s ++ rest)
unfolding report_text head_of
report-begins s rest = refl

reports-end : (runs : List Inputs) → EndsHistory (reports_text runs)
reports-end [] = tt
reports-end (s ∷ runs) = by (plan_of s) (reports-end runs)
  where
    by : (r : Result (List ItemPlan) ℕ) → EndsHistory (reports_text runs) → EndsHistory (text_of_plan s r ++ reports_text runs)
    by (Ok plans) ends = report-begins s (reports_text runs)
    by (Err item) ends = ends

-- a right day begins with the claims of its history
right-begins : (t : Tables) (h : History) (text : List ℕ) → KeepsLimits t → AnswersDesks t h → text ≡ right_text t h → BeginsWith t text (map claim_of h) (reports_text (runs_of t h))
right-begins t h text keeps answers is =
    let few = few-entries t h keeps answers.legal answers.by_desk in
    let size = length-map h claim_of in
    record {
      spelled = is ∙ ap (λ (x : List ℕ). x ++ reports_text (runs_of t h)) (history-claims t h);
      ends = reports-end (runs_of t h);
      few = omega (arith, few, size);
      each = claims-made t h [] h keeps.supply answers.legal refl (omega (arith, few)) (all-scripted t h keeps.script answers.by_desk);
    }

-- none of its reports is missing
none-missing : (runs : List Inputs) (text : List ℕ) (number : ℕ) → text ≡ reports_text runs → IsFirstMissing runs text number → ⊥
none-missing runs text number is first =
    let whole : reports_text runs ≡ reports_text first.before ++ (run_report first.run ++ reports_text first.after) =
    ap reports_text first.place ∙ flat_map-append run_report first.before (first.run ∷ first.after) in
    let left : first.left ≡ run_report first.run ++ reports_text first.after = append_cancel_left (reports_text first.before) _ _ (sym first.stand ∙ is ∙ whole) in
    first.missing (reports_text first.after) left

-- and none is left over
none-more : (runs : List Inputs) (text : List ℕ) (number : ℕ) → text ≡ reports_text runs → HasMore runs text number → ⊥
none-more runs text number is more = more.some (append_cancel_left (reports_text runs) more.left [] (sym more.stand ∙ is ∙ sym (append-nil (reports_text runs))))

-- the text of a history that answers a script has no fault
pub text-passes : (t : Tables) (h : History) (text : List ℕ) (f : AuditFault) → KeepsLimits t → AnswersDesks t h → text ≡ right_text t h → IsWrong t text f → ⊥
text-passes t h text (fault.Input f) keeps answers is wrong = wrong
text-passes t h text fault.NoMemory keeps answers is wrong = wrong
text-passes t h text fault.Shape keeps answers is wrong = wrong (map claim_of h, reports_text (runs_of t h), right-begins t h text keeps answers is)
text-passes t h text (fault.HistoryNotLegal number) keeps answers is (claims, rest, begins, first) =
    let once = begins-once t keeps text (map claim_of h) claims (reports_text (runs_of t h)) rest (right-begins t h text keeps answers is) begins in
    none-false t h claims number answers.legal once.0 first
text-passes t h text (fault.DeskRows desk) keeps answers is (g, rest, has, first) =
    let once = begins-once t keeps text (map claim_of h) (map claim_of g) (reports_text (runs_of t h)) rest (right-begins t h text keeps answers is) has.0 in
    let same : h ≡ g = told-once (supply_of t) h g answers.legal has.1 once.0 in
    first.differs (subst (λ (x : History). asked_by desk (asked x) ≡ asked_by desk (with_run (script_of t))) same (answers.by_desk desk))
text-passes t h text (fault.ReportDiffers run) keeps answers is (g, rest, has, desks, found) =
    let once = begins-once t keeps text (map claim_of h) (map claim_of g) (reports_text (runs_of t h)) rest (right-begins t h text keeps answers is) has.0 in
    let same : h ≡ g = told-once (supply_of t) h g answers.legal has.1 once.0 in
    let reports : rest ≡ reports_text (runs_of t g) = sym once.1 ∙ ap (λ (x : History). reports_text (runs_of t x)) same in
    elim found [
      | inl missing ↦ none-missing (runs_of t g) rest run reports missing
      | inr more ↦ none-more (runs_of t g) rest run reports more
    ]

-- a right day of a bundle has no fault for its tables
pub right-passes : (bundle text : List ℕ) (t : Tables) (f : AuditFault) → IsAccepted bundle t → KeepsLimits t → IsRightDay bundle text → IsWrong t text f → ⊥
right-passes bundle text t f accepted keeps (u, other, h, answers, is) =
    let same : u ≡ t = same-tables bundle u t other.tables_are accepted.tables_are in
    text-passes t h text f keeps (subst (λ (x : Tables). AnswersDesks x h) same answers) (is ∙ ap (λ (x : Tables). right_text x h) same)

-- so it passes
pub passed : (bundle text : List ℕ) (t : Tables) (r : Result ⊤ AuditFault) → IsAccepted bundle t → KeepsLimits t → JudgesText t text r → IsRightDay bundle text → Passes r
passed bundle text t (Ok done) accepted keeps judged right = tt
passed bundle text t (Err fault.NoMemory) accepted keeps judged right = tt
passed bundle text t (Err (fault.Input f)) accepted keeps judged right = judged
passed bundle text t (Err fault.Shape) accepted keeps judged right = right-passes bundle text t fault.Shape accepted keeps right judged
passed bundle text t (Err (fault.HistoryNotLegal entry)) accepted keeps judged right = right-passes bundle text t (fault.HistoryNotLegal entry) accepted keeps right judged
passed bundle text t (Err (fault.DeskRows desk)) accepted keeps judged right = right-passes bundle text t (fault.DeskRows desk) accepted keeps right judged
passed bundle text t (Err (fault.ReportDiffers run)) accepted keeps judged right = right-passes bundle text t (fault.ReportDiffers run) accepted keeps right judged

-- and no bundle with a right day is refused
pub unopened-passes : (bundle text : List ℕ) (f : OpenFault) → Opens bundle (Err f) → IsRightDay bundle text → Passes (Err (input_fault f))
unopened-passes bundle text (opening.Refused f) opens (t, accepted, h, answers, is) = accepted-not-refused bundle t f accepted opens.0
unopened-passes bundle text opening.NoMemory opens right = tt
