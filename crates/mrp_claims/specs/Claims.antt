-- What the records of a given history claim, and how they are spelled (profile).
use Rattle.std.specs.Prelude.{ℕ, ◌≤◌, ◌∷◌, ◌++◌, List, [], codes, decimal, flat_map}
use Rattle.std.specs.Int.{IsInRange}
use Rattle.std.specs.List.{enumerate_from}
use Rattle.mrp_qty.specs.Quantity.{greatest_quantity}
use Rattle.mrp_cal.specs.declared.calendar.TheConstants.{MOST_WEEKS}
use Rattle.mrp_tables.specs.declared.limits.TheConstants.{MOST_DESKS, MOST_ENTRIES}
use Rattle.mrp_tables.specs.Tables.{Tables}
use Rattle.mrp_turn.specs.declared.log.Entry.{Entry}
use Rattle.mrp_master.specs.Supply.{supply_of}
use Rattle.mrp_book.specs.declared.call.Call.{Call}
use Rattle.mrp_book.specs.declared.call.Call.TheVariants as call
use Rattle.mrp_book.specs.declared.reply.Reply.{Reply}
use Rattle.mrp_book.specs.declared.reply.Reply.TheVariants as reply
use Rattle.mrp_book.specs.History.{Fits}
use Rattle.mrp_report.specs.section.HistoryText.{call_cells, history_head}
use Rattle.mrp_report.specs.page.Rows.{row}
use Rattle.mrp_claims.specs.declared.claim.Claim.{Claim}
use Rattle.mrp_claims.specs.declared.claim.ClaimedReply.{ClaimedReply}
use Rattle.mrp_claims.specs.declared.claim.ClaimedReply.TheVariants as said

-- what a history says for a reply; for a snapshot, the number of its entry
abbrev pub claimed : Reply → ClaimedReply
claimed (reply.Booked n) = said.Booked n
claimed (reply.Short available) = said.Short available
claimed reply.Cancelled = said.Cancelled
claimed reply.NotStanding = said.NotStanding
claimed reply.NotYours = said.NotYours
claimed (reply.Available available) = said.Available available
claimed (reply.Week week) = said.Week week
claimed reply.NoWeek = said.NoWeek
claimed (reply.Taken snapshot) = said.Front snapshot.front
claimed (reply.Front n) = said.Front n

-- what a history says for an entry
abbrev pub claim_of : Entry Call Reply → Claim
claim_of e = record { desk = e.who; call = e.call; reply = claimed e.reply }

-- a claimed reply: its word and value
abbrev pub claimed_cells : ClaimedReply → List (List ℕ)
claimed_cells (said.Booked n) = codes "booked" ∷ decimal n ∷ []
claimed_cells (said.Short available) = codes "short" ∷ decimal available ∷ []
claimed_cells said.Cancelled = codes "cancelled" ∷ [] ∷ []
claimed_cells said.NotStanding = codes "not-standing" ∷ [] ∷ []
claimed_cells said.NotYours = codes "not-yours" ∷ [] ∷ []
claimed_cells (said.Available available) = codes "available" ∷ decimal available ∷ []
claimed_cells (said.Week week) = codes "week" ∷ decimal week ∷ []
claimed_cells said.NoWeek = codes "no-week" ∷ [] ∷ []
claimed_cells (said.Front n) = codes "front" ∷ decimal n ∷ []

-- a claim with its entry's number
abbrev pub claim_cells : Tables → ℕ × Claim → List (List ℕ)
claim_cells t (number, c) = decimal number ∷ decimal c.desk ∷ (call_cells t c.call ++ claimed_cells c.reply)

abbrev pub claim_text : Tables → ℕ × Claim → List ℕ
claim_text t c = row (claim_cells t c)

-- claims, each with its number, from this one on
abbrev pub claims_from : Tables → ℕ → List Claim → List ℕ
claims_from t number claims = flat_map (claim_text t) (enumerate_from number claims)

-- a history that makes these claims, as it is spelled
abbrev pub claims_text : Tables → List Claim → List ℕ
claims_text t claims = history_head ++ claims_from t 1 claims

-- a call by one of the script's five words, with cells within the limits of the script: master items of the shop,
-- weeks of the horizon, pieces that can be booked, the number of an entry
abbrev pub IsScripted : Tables → Call → Type 0
IsScripted t (call.Book l) = Fits (supply_of t) (call.Book l)
IsScripted t (call.Cancel n) = IsInRange 1 MOST_ENTRIES n
IsScripted t (call.Ask p) = Fits (supply_of t) (call.Ask p)
IsScripted t (call.When w) = Fits (supply_of t) (call.When w)
IsScripted t call.Snapshot = Unit {0}
IsScripted t call.Front = ⊥

-- a reply with a value within its limits
abbrev pub IsClaimable : ClaimedReply → Type 0
IsClaimable (said.Booked n) = n ≤ greatest_quantity
IsClaimable (said.Short available) = available ≤ greatest_quantity
IsClaimable said.Cancelled = Unit {0}
IsClaimable said.NotStanding = Unit {0}
IsClaimable said.NotYours = Unit {0}
IsClaimable (said.Available available) = available ≤ greatest_quantity
IsClaimable (said.Week week) = IsInRange 1 MOST_WEEKS week
IsClaimable said.NoWeek = Unit {0}
IsClaimable (said.Front n) = n ≤ greatest_quantity

-- a claim that a record of a history can make
pub record IsClaim (t : Tables) (c : Claim) : Type 0 where
  pub desk : IsInRange 1 MOST_DESKS c.desk
  pub call : IsScripted t c.call
  pub reply : IsClaimable c.reply
