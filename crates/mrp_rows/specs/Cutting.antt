-- How a text is cut into records and cells, a cell at a time: what csv's machine does with its default dialect.
use Rattle.std.specs.Prelude.{ℕ, suc, ◌≡◌, ◌==◌, ◌||◌, Bool, true, false, not, if◌then◌else◌, List, [], ◌∷◌, drop, length, take, Result, Option, Ok, Err, Some, None}
use Rattle.csv.specs.declared.parser.State.{State}
use Rattle.csv.specs.declared.parser.State.TheVariants as st
use Rattle.mrp_qty.specs.declared.memory.NoMemory.{NoMemory}
use Rattle.mrp_rows.specs.Bundle.{ends_line}
use Rattle.mrp_rows.specs.declared.cutting.Cut.{Cut}
use Rattle.mrp_rows.specs.declared.cutting.Spot.{Spot}
use Rattle.mrp_rows.specs.declared.cutting.Spot.TheVariants as spot
use Rattle.mrp_rows.specs.Records.{records_in}
use Rattle.mrp_rows.specs.Shown.{are_empty}

-- the state of csv's machine there
abbrev pub state_at : Spot → State
state_at spot.Front = st.StartField
state_at spot.Bare = st.InField
state_at spot.Quoted = st.InQuoted
state_at spot.Behind = st.AfterQuote

-- a comma or a line end, which ends a cell that is not between quotes
abbrev pub ends_bare : ℕ → Bool
ends_bare byte = (byte == 44) || ends_line byte

-- a byte ends the cell in front of it
abbrev pub ends_cell : Spot → ℕ → Bool
ends_cell spot.Front byte = ends_bare byte
ends_cell spot.Bare byte = ends_bare byte
ends_cell spot.Quoted byte = false
ends_cell spot.Behind byte = ends_bare byte

-- behind a byte of a cell
abbrev pub spot_after : Spot → ℕ → Spot
spot_after spot.Front byte = if byte == 34 then spot.Quoted else spot.Bare
spot_after spot.Bare byte = spot.Bare
spot_after spot.Quoted byte = if byte == 34 then spot.Behind else spot.Quoted
spot_after spot.Behind byte = if byte == 34 then spot.Quoted else spot.Bare

-- a byte of a cell counts: of its quotes, only those that stand for one
abbrev pub counts : Spot → ℕ → Bool
counts spot.Front byte = not (byte == 34)
counts spot.Bare byte = true
counts spot.Quoted byte = not (byte == 34)
counts spot.Behind byte = true

-- how many bytes a text has up to the one that ends its first cell
unfoldable pub cell_length : Spot → List ℕ → ℕ
cell_length at [] = 0
cell_length at (byte ∷ bytes) = if ends_cell at byte then 0 else suc (cell_length (spot_after at byte) bytes)

-- the bytes of a cell that count
unfoldable pub cell_in : Spot → List ℕ → List ℕ
cell_in at [] = []
cell_in at (byte ∷ bytes) = if counts at byte then byte ∷ cell_in (spot_after at byte) bytes else cell_in (spot_after at byte) bytes

-- the records of a text from the byte that ends a record's cell, where these are the cells up to it
abbrev pub records_behind : List (List ℕ) → List ℕ → List (List (List ℕ))
records_behind cells [] = cells ∷ []
records_behind cells (byte ∷ bytes) =
    if byte == 44 then records_in st.StartField cells [] bytes else cells ∷ records_in st.StartRecord [] [] bytes

-- in this state a text begins with a record of so many cells, of which these come first, at most so many; whether the others are
-- empty; and the rest
pub record BeginsWith (s : State) (text : List ℕ) (most : ℕ) (first : List (List ℕ)) (number : ℕ) (others : Bool) (rest : List ℕ) : Type 0 where
  pub cells : List (List ℕ)
  pub records : records_in s [] [] text ≡ cells ∷ records_in st.StartRecord [] [] rest
  pub kept : first ≡ take most cells
  pub count : number ≡ length cells
  pub empty : others ≡ are_empty (drop most cells)

-- so many cells of a text's first record are cut off, of which these come first, at most so many; whether the others of them are
-- empty; then come other cells
pub record IsInside (text : List ℕ) (most : ℕ) (first : List (List ℕ)) (number : ℕ) (others : Bool) (rest : List ℕ) : Type 0 where
  pub cells : List (List ℕ)
  pub records : records_in st.StartField [] [] text ≡ records_in st.StartField cells [] rest
  pub kept : first ≡ take most cells
  pub count : number ≡ length cells
  pub empty : others ≡ are_empty (drop most cells)

-- what was cut from a text, or there is no record
abbrev pub IsCutFrom : List ℕ → ℕ → Result (Option Cut) NoMemory → Type 0
IsCutFrom text most (Ok None) = records_in st.StartRecord [] [] text ≡ []
IsCutFrom text most (Ok (Some cut)) = BeginsWith st.StartRecord text most cut.cells.cells cut.count cut.are_others_empty cut.rest.now
IsCutFrom text most (Err refused) = Unit {0}
