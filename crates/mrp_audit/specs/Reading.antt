-- The results of reading a given history.
use Rattle.std.specs.Prelude.{ℕ, ◌≡◌, ◌≤◌, ◌++◌, List, Result, Ok, Err, drop, length}
use Rattle.mrp_tables.specs.Tables.{Tables}
use Rattle.mrp_claims.specs.declared.claim.Claim.{Claim}
use Rattle.mrp_claims.specs.Claims.{IsClaim, claim_text}
use Rattle.mrp_claims.specs.Shape.{BeginsWith, HasShape}
use Rattle.mrp_audit.specs.declared.fault.AuditFault.{AuditFault}
use Rattle.mrp_audit.specs.declared.fault.AuditFault.TheVariants as fault
use Rattle.mrp_audit.specs.declared.shape.Given.{Given}

-- the claim of the entry with this number, which a text begins with, and how many bytes its record has; or the text
-- begins with none
abbrev pub TakesClaim : Tables → ℕ → List ℕ → Result (Claim × ℕ) AuditFault → Type 0
TakesClaim t number text (Ok taken) = IsClaim t taken.0 × (taken.1 ≤ length text) × (text ≡ claim_text t (number, taken.0) ++ drop taken.1 text)
TakesClaim t number text (Err fault.Shape) = (c : Claim) (rest : List ℕ) → IsClaim t c → text ≡ claim_text t (number, c) ++ rest → ⊥
TakesClaim t number text (Err fault.NoMemory) = Unit {0}
TakesClaim t number text (Err (fault.Input f)) = ⊥
TakesClaim t number text (Err (fault.HistoryNotLegal entry)) = ⊥
TakesClaim t number text (Err (fault.DeskRows desk)) = ⊥
TakesClaim t number text (Err (fault.ReportDiffers run)) = ⊥

-- the claims of the history that a text begins with, and how many bytes it has; or the text has no such shape
abbrev pub ReadsHistory : Tables → List ℕ → Result Given AuditFault → Type 0
ReadsHistory t text (Ok given) = (given.len ≤ length text) × BeginsWith t text given.claims.items (drop given.len text)
ReadsHistory t text (Err fault.Shape) = HasShape t text → ⊥
ReadsHistory t text (Err fault.NoMemory) = Unit {0}
ReadsHistory t text (Err (fault.Input f)) = ⊥
ReadsHistory t text (Err (fault.HistoryNotLegal entry)) = ⊥
ReadsHistory t text (Err (fault.DeskRows desk)) = ⊥
ReadsHistory t text (Err (fault.ReportDiffers run)) = ⊥
