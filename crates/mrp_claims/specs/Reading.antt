-- The results of the steps of reading a record of a given history.
use Rattle.std.specs.Prelude.{ℕ, ◌≡◌, ◌≢◌, ◌<◌, ◌≤◌, ◌∷◌, ◌++◌, List, [], Option, None, Some, Result, Ok, Err, codes, decimal, drop, false, length}
use Rattle.std.specs.Int.{IsInRange}
use Rattle.std.specs.List.{slice_index_or}
use Rattle.csv.specs.Records.{Row, fields_of}
use Rattle.csv.specs.Writing.{default_writer, needs_quotes}
use Rattle.mrp_qty.specs.Quantity.{greatest_quantity}
use Rattle.mrp_qty.specs.declared.memory.NoMemory.{NoMemory}
use Rattle.mrp_tables.specs.Tables.{Tables}
use Rattle.mrp_book.specs.declared.call.Call.{Call}
use Rattle.mrp_report.specs.section.Cells.{name_at}
use Rattle.mrp_report.specs.section.HistoryText.{call_cells}
use Rattle.mrp_report.specs.page.Rows.{row}
use Rattle.mrp_claims.specs.declared.call.CallCells.{CallCells}
use Rattle.mrp_claims.specs.declared.claim.Claim.{Claim}
use Rattle.mrp_claims.specs.declared.claim.ClaimedReply.{ClaimedReply}
use Rattle.mrp_claims.specs.declared.record.TheConstants.{LONGEST}
use Rattle.mrp_claims.specs.Claims.{IsClaim, IsClaimable, IsScripted, claim_cells, claim_text, claimed_cells}

-- more than one cell, none of them written between quotes
abbrev pub ArePlain : List (List ℕ) → Type 0
ArePlain cells = (2 ≤ length cells) × ((i : ℕ) → i < length cells → needs_quotes default_writer (slice_index_or cells i []) ≡ false)

-- the number within limits whose decimal text a cell is, or none if there is no such number
abbrev pub ReadsNumber : ℕ → ℕ → List ℕ → Option ℕ → Type 0
ReadsNumber least most cell (Some n) = IsInRange least most n × (cell ≡ decimal n)
ReadsNumber least most cell None = (n : ℕ) → IsInRange least most n → cell ≡ decimal n → ⊥

-- the place of the one item of this name, or none if no item has it
abbrev pub FindsItem : Tables → List ℕ → Option ℕ → Type 0
FindsItem t cell (Some place) = (place < length t.items) × (cell ≡ name_at t place) × ((other : ℕ) → other < length t.items → cell ≡ name_at t other → other ≡ place)
FindsItem t cell None = (place : ℕ) → place < length t.items → cell ≡ name_at t place → ⊥

-- a call's cells after its word, in order
abbrev pub own_cells : CallCells → List (List ℕ)
own_cells c = c.item.now ∷ c.week.now ∷ c.quantity.now ∷ c.number.now ∷ []

-- the call of a script that has this word and these cells after it, or none if there is no such
-- call
abbrev pub ReadsCall : List ℕ → Tables → CallCells → Option Call → Type 0
ReadsCall word t cells (Some c) = IsScripted t c × (word ∷ own_cells cells ≡ call_cells t c)
ReadsCall word t cells None = (c : Call) → IsScripted t c → word ∷ own_cells cells ≡ call_cells t c → ⊥

-- the reply with this word and value, or none if there is none
abbrev pub ReadsReply : List ℕ → List ℕ → Option ClaimedReply → Type 0
ReadsReply word value (Some r) = IsClaimable r × (word ∷ value ∷ [] ≡ claimed_cells r)
ReadsReply word value None = (r : ClaimedReply) → IsClaimable r → word ∷ value ∷ [] ≡ claimed_cells r → ⊥

-- the reply with this word, other than a week, and this value; none if there is none
abbrev pub NamesReply : List ℕ → ℕ → Option ClaimedReply → Type 0
NamesReply word value (Some r) = (value ≤ greatest_quantity → IsClaimable r) × (word ∷ decimal value ∷ [] ≡ claimed_cells r)
NamesReply word value None = (r : ClaimedReply) → IsClaimable r → word ≢ codes "week" → word ∷ decimal value ∷ [] ≡ claimed_cells r → ⊥

-- the claim that a record with these cells makes, or none if there is none
abbrev pub ReadsClaim : Tables → ℕ → List (List ℕ) → Option Claim → Type 0
ReadsClaim t number cells (Some c) = IsClaim t c × (cells ≡ claim_cells t (number, c))
ReadsClaim t number cells None = (c : Claim) → IsClaim t c → cells ≡ claim_cells t (number, c) → ⊥

-- a text that begins with a byte of ASCII, and so with no byte order mark
abbrev pub BeginsPlain : List ℕ → Type 0
BeginsPlain [] = ⊥
BeginsPlain (byte ∷ rest) = byte < 128

-- the cells of the row that a text begins with, and how many bytes it has; or the text does not begin with a row of
-- these cells
abbrev pub TakesRow : List ℕ → List (List ℕ) → Option (Row × ℕ) → Type 0
TakesRow text cells (Some found) = (fields_of found.0 ≡ cells) × (found.1 ≤ length text) × (text ≡ row cells ++ drop found.1 text)
TakesRow text cells None = (rest : List ℕ) → text ≡ row cells ++ rest → ⊥

-- a text begins with the row of these cells, and this many bytes are its own
abbrev pub SplitsRow : List ℕ → Result (Option (Row × ℕ)) NoMemory → Type 0
SplitsRow text (Ok (Some found)) = (found.1 ≤ length text) × (text ≡ row (fields_of found.0) ++ drop found.1 text)
SplitsRow text (Ok None) =
    (one two : List ℕ) (more : List (List ℕ)) (rest : List ℕ) → length (row (one ∷ two ∷ more)) ≤ LONGEST → BeginsPlain (row (one ∷ two ∷ more))
    → text ≡ row (one ∷ two ∷ more) ++ rest → ⊥
SplitsRow text (Err refused) = Unit {0}
