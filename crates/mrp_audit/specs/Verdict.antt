-- The verdict on a bundle and the text of a day: that it is right, or the first of its faults (profile).
use Rattle.std.specs.Prelude.{ℕ, ◌≡◌, ◌≢◌, ◌<◌, ◌+◌, ◌⊎◌, ◌∷◌, ◌++◌, List, [], Result, Ok, Err, ⊤, flat_map, length, map}
use Rattle.mrp_rows.specs.declared.faults.TheConstants as faults
use Rattle.mrp_tables.specs.Tables.{Tables}
use Rattle.mrp_master.specs.Supply.{supply_of}
use Rattle.mrp_book.specs.declared.reply.Reply.{Reply}
use Rattle.mrp_book.specs.Standing.{History}
use Rattle.mrp_book.specs.History.{IsLegal, IsReply, asked, next_number}
use Rattle.mrp_item.specs.Inputs.{Inputs}
use Rattle.mrp_script.specs.Script.{script_of, with_run}
use Rattle.mrp_engine.specs.day.Day.{runs_of}
use Rattle.mrp_script.specs.Opened.{IsAccepted, IsRefused}
use Rattle.mrp_engine.specs.day.RightDay.{AnswersDesks, FollowsDesks, IsRightDay, asked_by, right_text, run_report}
use Rattle.mrp_claims.specs.declared.claim.Claim.{Claim}
use Rattle.mrp_audit.specs.declared.fault.AuditFault.{AuditFault}
use Rattle.mrp_audit.specs.declared.fault.AuditFault.TheVariants.{Input, Shape, HistoryNotLegal, DeskRows, ReportDiffers, NoMemory}
use Rattle.mrp_claims.specs.Claims.{claim_of, claimed}
use Rattle.mrp_claims.specs.Shape.{BeginsWith, HasShape}

-- the claims of a legal history
pub record IsToldBy (t : Tables) (h : History) (claims : List Claim) : Type 0 where
  pub legal : IsLegal (supply_of t) h
  pub told : map claim_of h ≡ claims

-- the claim with this number is the first whose reply is not the one that the entries before it decide
pub record IsFirstFalse (t : Tables) (claims : List Claim) (number : ℕ) : Type 0 where
  pub before : History
  pub claim : Claim
  pub after : List Claim
  pub place : claims ≡ map claim_of before ++ claim ∷ after
  pub number_is : number ≡ next_number before
  pub legal : IsLegal (supply_of t) before
  pub refuted : (r : Reply) → IsReply (supply_of t) before claim.desk claim.call r → claimed r ≢ claim.reply

-- a desk's entries are its script records in order
abbrev pub IsDeskRight : Tables → History → ℕ → Type 0
IsDeskRight t h desk = asked_by desk (asked h) ≡ asked_by desk (with_run (script_of t))

-- the least desk whose entries are not its script records in order
pub record IsFirstDesk (t : Tables) (h : History) (desk : ℕ) : Type 0 where
  pub differs : IsDeskRight t h desk → ⊥
  pub least : (other : ℕ) → other < desk → IsDeskRight t h other

-- a text begins with this one, and this is left of it
abbrev pub Leaves : List ℕ → List ℕ → List ℕ → Type 0
Leaves front text left = text ≡ front ++ left

-- the reports of runs, in order; a run in whose plan an item gets too large has none
abbrev pub reports_text : List Inputs → List ℕ
reports_text runs = flat_map run_report runs

-- the run with this number is the first whose report does not come next
pub record IsFirstMissing (runs : List Inputs) (text : List ℕ) (number : ℕ) : Type 0 where
  pub before : List Inputs
  pub run : Inputs
  pub after : List Inputs
  pub left : List ℕ
  pub place : runs ≡ before ++ run ∷ after
  pub number_is : number ≡ length before + 1
  pub stand : Leaves (reports_text before) text left
  pub missing : (rest : List ℕ) → Leaves (run_report run) left rest → ⊥

-- all reports are there, and bytes are left over; this number is one more than there are runs
pub record HasMore (runs : List Inputs) (text : List ℕ) (number : ℕ) : Type 0 where
  pub left : List ℕ
  pub stand : Leaves (reports_text runs) text left
  pub some : left ≢ []
  pub number_is : number ≡ length runs + 1

-- a text begins with a legal history, and this is what follows it
abbrev pub HasHistory : Tables → List ℕ → History → List ℕ → Type 0
HasHistory t text h rest = BeginsWith t text (map claim_of h) rest × IsLegal (supply_of t) h

-- what is wrong with the text of a day of a bundle that is accepted
abbrev pub IsWrong : Tables → List ℕ → AuditFault → Type 0
IsWrong t text (Input f) = ⊥
IsWrong t text Shape = HasShape t text → ⊥
IsWrong t text (HistoryNotLegal number) = (claims : List Claim) × (rest : List ℕ) × BeginsWith t text claims rest × IsFirstFalse t claims number
IsWrong t text (DeskRows desk) = (h : History) × (rest : List ℕ) × HasHistory t text h rest × IsFirstDesk t h desk
IsWrong t text (ReportDiffers run) =
    (h : History) × (rest : List ℕ) × HasHistory t text h rest × FollowsDesks t h
    × (IsFirstMissing (runs_of t h) rest run ⊎ HasMore (runs_of t h) rest run)
IsWrong t text NoMemory = ⊥

-- the text of a day is found right for accepted tables, or this is its first fault; or out of memory
abbrev pub JudgesText : Tables → List ℕ → Result ⊤ AuditFault → Type 0
JudgesText t text (Ok tt) = (h : History) × AnswersDesks t h × (text ≡ right_text t h)
JudgesText t text (Err NoMemory) = Unit {0}
JudgesText t text (Err fault) = IsWrong t text fault

-- a day is found right, or out of memory
abbrev pub Passes : Result ⊤ AuditFault → Type 0
Passes (Ok tt) = Unit {0}
Passes (Err NoMemory) = Unit {0}
Passes (Err fault) = ⊥

-- a bundle and the text of a day are found right, or this is the first of their faults; or out of memory
abbrev pub Judges : List ℕ → List ℕ → Result ⊤ AuditFault → Type 0
Judges bundle text (Ok tt) = IsRightDay bundle text
Judges bundle text (Err (Input f)) = IsRefused bundle f × (f.code ≢ faults.NO_MEMORY)
Judges bundle text (Err NoMemory) = Unit {0}
Judges bundle text (Err fault) = (t : Tables) × IsAccepted bundle t × IsWrong t text fault

-- there is a verdict: memory did not run out
abbrev pub IsVerdict : Result ⊤ AuditFault → Type 0
IsVerdict (Ok done) = Unit {0}
IsVerdict (Err NoMemory) = ⊥
IsVerdict (Err fault) = Unit {0}
