-- The results of the steps of the checker once a history is read.
use Rattle.std.specs.Prelude.{ℕ, ◌≡◌, ◌≢◌, ◌<◌, ◌≤◌, ◌⊎◌, ◌∷◌, ◌++◌, List, [], Option, None, Some, Result, Ok, Err, ⊤, drop, length, slice_get, take}
use Rattle.std.specs.Int.{IsInRange}
use Rattle.mrp_qty.specs.declared.memory.NoMemory.{NoMemory}
use Rattle.mrp_tables.specs.declared.limits.TheConstants.{MOST_DESKS}
use Rattle.mrp_tables.specs.Tables.{Tables}
use Rattle.mrp_master.specs.Supply.{supply_of}
use Rattle.mrp_turn.specs.declared.log.Entry.{Entry}
use Rattle.mrp_book.specs.declared.call.Call.{Call}
use Rattle.mrp_book.specs.declared.reply.Reply.{Reply}
use Rattle.mrp_book.specs.Books.{OrderBook}
use Rattle.mrp_book.specs.Standing.{History}
use Rattle.mrp_book.specs.History.{IsLegal, IsReply, next_number}
use Rattle.mrp_item.specs.Inputs.{Inputs}
use Rattle.mrp_item.specs.Places.{WholePlan}
use Rattle.mrp_script.specs.Script.{Script}
use Rattle.mrp_engine.specs.day.Day.{runs_of}
use Rattle.mrp_engine.specs.day.RightDay.{FollowsDesks, asked_by}
use Rattle.mrp_report.specs.ReportText.{report_text}
use Rattle.mrp_report.specs.declared.fault.ReportFault.{ReportFault}
use Rattle.mrp_explode.specs.declared.fault.RunFault.{RunFault}
use Rattle.mrp_explode.specs.declared.fault.RunFault.TheVariants as run
use Rattle.mrp_claims.specs.declared.claim.Claim.{Claim}
use Rattle.mrp_claims.specs.declared.claim.ClaimedReply.{ClaimedReply}
use Rattle.mrp_audit.specs.declared.fault.AuditFault.{AuditFault}
use Rattle.mrp_audit.specs.declared.fault.AuditFault.TheVariants as fault
use Rattle.mrp_claims.specs.Claims.{claim_of, claimed}
use Rattle.mrp_audit.specs.Verdict.{HasMore, IsFirstDesk, IsFirstFalse, IsFirstMissing, IsToldBy, reports_text}

-- one more entry is as it is claimed, or its reply is not the one that the entries before it decide
abbrev pub Retraces : OrderBook → Claim → Result ⊤ AuditFault → OrderBook → Type 0
Retraces old claim (Ok done) new = (e : Entry Call Reply) × (claim_of e ≡ claim) × (new ≡ record { supply = old.supply; entries = old.entries ++ e ∷ [] })
Retraces old claim (Err (fault.HistoryNotLegal entry)) new =
    (entry ≡ next_number old.entries) × IsLegal old.supply old.entries × ((r : Reply) → IsReply old.supply old.entries claim.desk claim.call r → claimed r ≡ claim.reply → ⊥)
Retraces old claim (Err fault.NoMemory) new = Unit {0}
Retraces old claim (Err fault.Shape) new = ⊥
Retraces old claim (Err (fault.Input f)) new = ⊥
Retraces old claim (Err (fault.DeskRows desk)) new = ⊥
Retraces old claim (Err (fault.ReportDiffers run)) new = ⊥

-- the book's reply to a claim's call is the claimed one, or the entry with this number is false
abbrev pub IsClaimJudged : ℕ → Reply → ClaimedReply → Result ⊤ AuditFault → Type 0
IsClaimJudged entry reply claim (Ok done) = claimed reply ≡ claim
IsClaimJudged entry reply claim (Err f) = (f ≡ fault.HistoryNotLegal entry) × (claimed reply ≢ claim)

-- the legal history that makes claims, or the first of them that is false
abbrev pub FollowsClaims : Tables → List Claim → Result OrderBook AuditFault → Type 0
FollowsClaims t claims (Ok h) = (h.supply ≡ supply_of t) × IsToldBy t h.entries claims
FollowsClaims t claims (Err (fault.HistoryNotLegal entry)) = IsFirstFalse t claims entry
FollowsClaims t claims (Err fault.NoMemory) = Unit {0}
FollowsClaims t claims (Err fault.Shape) = ⊥
FollowsClaims t claims (Err (fault.Input f)) = ⊥
FollowsClaims t claims (Err (fault.DeskRows desk)) = ⊥
FollowsClaims t claims (Err (fault.ReportDiffers run)) = ⊥

-- a desk's calls are the same in two lists
abbrev pub IsSame : Script → Script → ℕ → Type 0
IsSame made script desk = asked_by desk made ≡ asked_by desk script

-- the place of a desk's next record from a place on; the script's end if it has none
pub record IsNextPlace (script : Script) (desk from place : ℕ) : Type 0 where
  pub behind : from ≤ place
  pub within : place ≤ length script
  pub none : asked_by desk (take place script) ≡ asked_by desk (take from script)
  pub here : (r : ℕ × Call) → slice_get script place ≡ Some r → r.0 ≡ desk

-- each desk's calls are the same, or this is the least desk whose calls are not
abbrev pub ComparesDesks : Script → Script → Result ⊤ AuditFault → Type 0
ComparesDesks made script (Ok done) = (desk : ℕ) → IsInRange 1 MOST_DESKS desk → IsSame made script desk
ComparesDesks made script (Err (fault.DeskRows desk)) = (IsSame made script desk → ⊥) × ((other : ℕ) → 1 ≤ other → other < desk → IsSame made script other)
ComparesDesks made script (Err fault.Shape) = ⊥
ComparesDesks made script (Err fault.NoMemory) = ⊥
ComparesDesks made script (Err (fault.Input f)) = ⊥
ComparesDesks made script (Err (fault.HistoryNotLegal entry)) = ⊥
ComparesDesks made script (Err (fault.ReportDiffers run)) = ⊥

-- a text begins with this one, and so many bytes are its own; or it does not
abbrev pub ComparesFront : List ℕ → List ℕ → Result (Option ℕ) NoMemory → Type 0
ComparesFront front text (Ok (Some len)) = (len ≤ length text) × (text ≡ front ++ drop len text)
ComparesFront front text (Ok None) = (rest : List ℕ) → text ≡ front ++ rest → ⊥
ComparesFront front text (Err refused) = Unit {0}

-- how many bytes of a text are a report, from how many were written to be compared and from whether all were: a text
-- that differs does so whether all were written or not, and only one that does not differ can be out of memory
abbrev pub IsFrontBy : Option ℕ → Result ⊤ ReportFault → Result (Option ℕ) NoMemory → Type 0
IsFrontBy None written front = front ≡ Ok None
IsFrontBy (Some len) (Ok done) front = front ≡ Ok (Some len)
IsFrontBy (Some len) (Err refused) front = (none : NoMemory) × (front ≡ Err none)

-- how many bytes of a text are the report of a run, from its plan, or from why it has none: if an item gets too large,
-- there is no report
abbrev pub IsPlannedFront : Result WholePlan RunFault → List ℕ → Result (Option ℕ) NoMemory → Type 0
IsPlannedFront (Ok plan) text front = ComparesFront (report_text plan.inputs) text front
IsPlannedFront (Err (run.TooLarge item)) text front = front ≡ Ok (Some 0)
IsPlannedFront (Err run.NoMemory) text front = (none : NoMemory) × (front ≡ Err none)

-- a run's report comes next in so many bytes, or does not, or was not made because memory ran out
abbrev pub IsRunJudged : ℕ → Result (Option ℕ) NoMemory → Result ℕ AuditFault → Type 0
IsRunJudged run (Ok (Some len)) told = told ≡ Ok len
IsRunJudged run (Ok None) told = told ≡ Err (fault.ReportDiffers run)
IsRunJudged run (Err refused) told = told ≡ Err fault.NoMemory

-- nothing is left over after the last run's report, or there is a fault with the number of one run more
abbrev pub IsEndJudged : ℕ → List ℕ → Result ⊤ AuditFault → Type 0
IsEndJudged run left (Ok done) = left ≡ []
IsEndJudged run left (Err f) = (f ≡ fault.ReportDiffers run) × (left ≢ [])

-- a text is the reports of runs; or this is the first that does not come next, or one more if bytes are left
-- over
abbrev pub ComparesReports : List Inputs → List ℕ → Result ⊤ AuditFault → Type 0
ComparesReports runs text (Ok done) = text ≡ reports_text runs
ComparesReports runs text (Err (fault.ReportDiffers run)) = IsFirstMissing runs text run ⊎ HasMore runs text run
ComparesReports runs text (Err fault.NoMemory) = Unit {0}
ComparesReports runs text (Err fault.Shape) = ⊥
ComparesReports runs text (Err (fault.Input f)) = ⊥
ComparesReports runs text (Err (fault.HistoryNotLegal entry)) = ⊥
ComparesReports runs text (Err (fault.DeskRows desk)) = ⊥

-- a legal history has each desk's script records in order, and a text is the reports of its runs; or the first of
-- these that is wrong
abbrev pub ComparesHistory : Tables → History → List ℕ → Result ⊤ AuditFault → Type 0
ComparesHistory t h text (Ok done) = FollowsDesks t h × (text ≡ reports_text (runs_of t h))
ComparesHistory t h text (Err (fault.DeskRows desk)) = IsFirstDesk t h desk
ComparesHistory t h text (Err (fault.ReportDiffers run)) = FollowsDesks t h × (IsFirstMissing (runs_of t h) text run ⊎ HasMore (runs_of t h) text run)
ComparesHistory t h text (Err fault.NoMemory) = Unit {0}
ComparesHistory t h text (Err fault.Shape) = ⊥
ComparesHistory t h text (Err (fault.Input f)) = ⊥
ComparesHistory t h text (Err (fault.HistoryNotLegal entry)) = ⊥
