-- A history that was found at the beginning of a text.
use Rattle.std.proofs.Common.{◌∙◌, ℕ, ◌<◌, ◌≤◌, ◌++◌, Bool, true, false, if◌then◌else◌, Result, List, [], ◌∷◌, drop, length, get_or, ap, refl, arith}
use Rattle.std.specs.Prelude.{All, map, ⊤}
use Rattle.std.specs.List.{list_any}
use Rattle.std.proofs.lemmas.List.{length-map}
use Rattle.std.proofs.lemmas.List.Elements.{All-map, All-push}
use Rattle.mrp_tables.specs.Facts.{IsScriptRow}
use Rattle.mrp_tables.specs.Tables.{Tables}
use Rattle.mrp_master.specs.Supply.{supply_of}
use Rattle.mrp_book.specs.declared.call.Call.{Call}
use Rattle.mrp_book.specs.declared.call.Call.TheVariants as call
use Rattle.mrp_book.specs.Standing.{History}
use Rattle.mrp_script.specs.Script.{is_run, record_of, script_of, with_run}
use Rattle.mrp_engine.specs.day.Day.{runs_of}
use Rattle.mrp_engine.proofs.lemmas.live.DeskHistories.{run-adds}
use Rattle.mrp_script.proofs.ScriptCalls.{call-fits}
use Rattle.mrp_audit.specs.declared.fault.AuditFault.{AuditFault}
use Rattle.mrp_claims.specs.Claims.{claim_of}
use Rattle.mrp_audit.specs.Kept.{KeepsLimits}
use Rattle.mrp_audit.specs.Parts.{ComparesReports}
use Rattle.mrp_audit.specs.Replays.{IsFollowedFront, IsTaken}
use Rattle.mrp_audit.specs.Verdict.{JudgesText}
use Rattle.mrp_audit.proofs.Judged.{history-claims, judged, reports-compared}
use Rattle.mrp_audit.proofs.RightTexts.{all-scripted, claims-made, few-entries}

-- a book of a shop takes each record of its script, with a run at its end if it has none
pub records-taken : (t : Tables) → All (IsScriptRow t.calendar.weeks t.items) t.script → All (IsTaken (supply_of t)) (with_run (script_of t))
records-taken t rows = added (list_any (λ r. is_run r.1) (script_of t))
  where
    own : All (IsTaken (supply_of t)) (script_of t)
    own =
        All-map (IsTaken (supply_of t)) record_of t.script
        (λ k d within. let row = rows k d within in record { desk = row.desk; fits = call-fits t (get_or t.script k d).call row.call })

    added : (b : Bool) → All (IsTaken (supply_of t)) (if b then script_of t else script_of t ++ (1, call.Snapshot) ∷ [])
    added true = own
    added false = All-push (IsTaken (supply_of t)) (script_of t) (1, call.Snapshot) own (record { desk = (omega arith, omega arith); fits = tt })

-- and they are few
pub records-few : (t : Tables) → length t.script ≤ 100000 → length (with_run (script_of t)) < 1000000
records-few t few =
    let rows = length-map {B = ℕ × Call} t.script record_of in
    let adds = run-adds (script_of t) in
    omega (arith, few, rows, adds)

-- with such a history the verdict on a text is that of comparing what follows it with the reports
-- of its runs
pub followed-judged : (t : Tables) (h : History) (text : List ℕ) (len : ℕ) (r : Result ⊤ AuditFault) → KeepsLimits t → IsFollowedFront t h text len → ComparesReports (runs_of t h) (drop len text) r → JudgesText t text r
followed-judged t h text len r keeps front compared =
    let few = few-entries t h keeps front.legal front.by_desk in
    let size = length-map h claim_of in
    judged text t (map claim_of h) h (drop len text) r
    (record {
      spelled = front.spelled ∙ ap (λ (x : List ℕ). x ++ drop len text) (history-claims t h);
      ends = front.ends;
      few = omega (arith, few, size);
      each = claims-made t h [] h keeps.supply front.legal refl (omega (arith, few)) (all-scripted t h keeps.script front.by_desk);
    })
    (record { legal = front.legal; told = refl })
    (reports-compared t h (drop len text) r front.by_desk compared)
