-- Reading a table: its records in order, each given the rows before it, up to the first fault (profile).
use Rattle.std.specs.Prelude.{ℕ, ◌≡◌, ◌⊎◌, ◌==◌, Bool, false, nat_lt, if◌then◌else◌, List, [], ◌∷◌, ◌++◌, length, Option, Some, None, Result, Ok, Err}
use Rattle.mrp_qty.specs.Reading.{◌>>=◌}
use Rattle.mrp_rows.specs.declared.fault.Fault.{Fault}
use Rattle.mrp_rows.specs.declared.fault.Table.{Table}
use Rattle.mrp_rows.specs.declared.faults.TheConstants as faults
use Rattle.mrp_rows.specs.Columns.{Layout, width}
use Rattle.mrp_rows.specs.Left.{Cells, Left}
use Rattle.mrp_rows.specs.Next.{IsTaken, LacksMemory, memory_fault, next_number, opened}
use Rattle.mrp_rows.specs.Cell.{fault_at}
use Rattle.mrp_tables.specs.Limits.{record_limit}

abbrev pub is_past : Option ℕ → ℕ → Bool
is_past None number = false
is_past (Some limit) number = nat_lt limit number

-- a record within its table's limit, or TOO_MANY, and with a cell for each column, or COLUMNS
abbrev pub admitted : Option ℕ → Layout → Cells → Result Cells Fault
admitted limit own r =
    if is_past limit r.number then Err (fault_at r faults.TOO_MANY)
    else if length r.cells == width own then Ok r
    else Err (fault_at r faults.COLUMNS)

-- how a table's records are read, given the rows of the records before: the most records that it has, where it has a limit, and what
-- a record reads as
pub record Reads (X : Type 0) : Type 0 where
  pub limit : List X → Option ℕ
  pub row : List X → Cells → Result X Fault

-- by a table's own limit, whatever the rows before
abbrev pub reads_of : {X : Type 0} → Table → (List X → Cells → Result X Fault) → Reads X
reads_of table row = record { limit = λ before. record_limit table; row = row }

-- a record that reads the same whatever the rows before it
abbrev pub by_itself : {X : Type 0} → (Cells → Result X Fault) → List X → Cells → Result X Fault
by_itself read before r = read r

-- the rows of the remaining records, after those before them
unfoldable pub rows_from : {X : Type 0} → Reads X → Layout → List X → ℕ → List (List (List ℕ)) → Result (List X) Fault
rows_from read own before number [] = Ok before
rows_from read own before number (cells ∷ rest) =
    admitted (read.limit before) own (record { table = own.table; number = number; cells = cells }) >>= λ r.
    read.row before r >>= λ x. rows_from read own (before ++ (x ∷ [])) (next_number number) rest

-- a table's rows, or its first fault
abbrev pub rows_of : {X : Type 0} → Reads X → Layout → List ℕ → Result (List X) Fault
rows_of read own text = opened own text >>= λ all. rows_from read own [] all.number all.left

-- the number of the record after these
abbrev pub number_behind : ℕ → List (List (List ℕ)) → ℕ
number_behind number [] = number
number_behind number (cells ∷ done) = number_behind (next_number number) done

-- out of memory for one of the remaining records, or for their end: those before it are read
pub record IsRefusedBehind {X : Type 0} (read : Reads X) (own : Layout) (before : List X) (number : ℕ) (left : List (List (List ℕ))) (f : Fault) : Type 0 where
  pub done : List (List (List ℕ))
  pub rest : List (List (List ℕ))
  pub rows : List X
  pub parts : left ≡ done ++ rest
  pub are_read : rows_from read own before number done ≡ Ok rows
  pub fault : f ≡ memory_fault own.table (number_behind number done)

-- out of memory for a table's header, or for a record after those that are read
abbrev pub IsRefusedIn : {X : Type 0} → Reads X → Layout → List ℕ → Fault → Type 0
IsRefusedIn read own text f =
    (f ≡ memory_fault own.table 0) ⊎ ((all : Left) × (opened own text ≡ Ok all) × IsRefusedBehind read own [] all.number all.left f)

-- what a call returned, seen by view, is what reading gives, unless it was out of memory: then its fault is one of these
abbrev pub Gives : {X Y : Type 0} → (Fault → Type 0) → (X → Y) → Result X Fault → Result Y Fault → Type 0
Gives IsRefusal view (Ok x) read = read ≡ Ok (view x)
Gives IsRefusal view (Err f) read = IsRefusal f ⊎ (read ≡ Err f)

-- out of memory for the row of a record that reads as one: a record's own fault comes first
pub record LacksRoom {X : Type 0} (read : Reads X) (old : List X) (r : Cells) (f : Fault) : Type 0 where
  pub row : X
  pub reads : read.row old r ≡ Ok row
  pub fault : f ≡ fault_at r faults.NO_MEMORY

-- adding a record's row: the row is what the record reads as, or nothing is added, for its fault or out of memory
abbrev pub Adds : {X : Type 0} → Reads X → List X → Cells → Result (Unit {0}) Fault → List X → Type 0
Adds {X} read old r (Ok u) new = (x : X) × (read.row old r ≡ Ok x) × (new ≡ old ++ (x ∷ []))
Adds read old r (Err f) new = (new ≡ old) × (LacksRoom read old r f ⊎ (read.row old r ≡ Err f))

-- the first of the records that were left is taken, and admitted
pub record IsAdmitted (limit : Option ℕ) (old : Left) (r : Cells) (new : Left) : Type 0 where
  pub first : IsTaken old r new
  pub within : admitted limit old.layout r ≡ Ok r

-- the first of the records that were left is not admitted
pub record IsNotAdmitted (limit : Option ℕ) (old : Left) (f : Fault) : Type 0 where
  pub cells : List (List ℕ)
  pub rest : List (List (List ℕ))
  pub left : old.left ≡ cells ∷ rest
  pub refused : admitted limit old.layout (record { table = old.layout.table; number = old.number; cells = cells }) ≡ Err f

-- the next record of a table, admitted; none where none is left; or why it is refused; out of memory, no record is taken
abbrev pub NextAdmitted : Option ℕ → Left → Result (Option Cells) Fault → Left → Type 0
NextAdmitted limit old (Ok None) new = old.left ≡ []
NextAdmitted limit old (Ok (Some r)) new = IsAdmitted limit old r new
NextAdmitted limit old (Err f) new = LacksMemory old f new ⊎ IsNotAdmitted limit old f
