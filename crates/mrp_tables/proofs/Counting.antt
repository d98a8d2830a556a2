-- How many rows a table has: never more than its limit.
use Rattle.std.proofs.Common.{◌≡◌, ℕ, ◌<◌, ◌≤◌, ◌+◌, Bool, true, false, List, [], ◌∷◌, ◌++◌, length, length-append, Option, Some, Result, Ok, Err, refl, ap, arith}
use Rattle.std.specs.Prelude.{if◌then◌else◌, nat_lt, nat_eq, IfOk}
use Rattle.std.specs.Cmp.Lexicographic.{pointwise}
use Rattle.std.proofs.lemmas.Bool.{ltb-false}
use Rattle.mrp_qty.specs.Reading.{◌>>=◌}
use Rattle.mrp_rows.specs.declared.fault.Fault.{Fault}
use Rattle.mrp_rows.specs.declared.faults.TheConstants as faults
use Rattle.mrp_rows.specs.Columns.{Layout}
use Rattle.mrp_rows.specs.Left.{Cells, Left}
use Rattle.mrp_rows.specs.Cell.{fault_at}
use Rattle.mrp_rows.specs.Next.{after_header, header_fault, next_number, opened}
use Rattle.mrp_rows.specs.Records.{records_of}
use Rattle.mrp_tables.specs.Reading.{Gives, Reads, admitted, is_past, rows_from, rows_of}

-- an admitted record is within the limit
admitted_within : (limit : Option ℕ) (own : Layout) (r : Cells) (c : Cells) (past : Bool) → is_past limit r.number ≡ past → admitted limit own r ≡ Ok c → past ≡ false
admitted_within limit own r c true h e = let refused : admitted limit own r ≡ Err (fault_at r faults.TOO_MANY) = rw h refl in absurd cc
admitted_within limit own r c false h e = refl

-- the rows so far are fewer than the number of the next record
record IsCounted {X : Type 0} (limit : ℕ) (rows : List X) (number : ℕ) : Type 0 where
  few : length rows ≤ limit
  at : length rows + 1 ≤ number

more : {X : Type 0} (limit : ℕ) (rows : List X) (x : X) (number : ℕ) → limit < 4294967294 → nat_lt limit number ≡ false
    → IsCounted limit rows number → IsCounted limit (rows ++ x ∷ []) (next_number number)
more limit rows x number small within counted =
    let below : number ≤ limit = ltb-false limit number within in
    let long : length (rows ++ x ∷ []) ≡ length rows + 1 = length-append rows (x ∷ []) in
    record { few = omega (arith, counted.at); at = omega (arith, counted.at) }

-- a record's row is read, and what follows keeps to the limit
after_row : {X : Type 0} (limit : ℕ) (next : X → Result (List X) Fault) (rows : List X)
    → ((x : X) → next x ≡ Ok rows → length rows ≤ limit)
    → (x : Result X Fault) → (x >>= next) ≡ Ok rows → length rows ≤ limit
after_row limit next rows go (Err f) given = absurd cc
after_row limit next rows go (Ok x) given = go x given

-- a record is admitted, and what follows keeps to the limit
after_admitted : {X : Type 0} (most : Option ℕ) (own : Layout) (limit : ℕ) (next : Cells → Result (List X) Fault) (rows : List X) (r : Cells)
    → (is_past most r.number ≡ false → (c : Cells) → next c ≡ Ok rows → length rows ≤ limit)
    → (a : Result Cells Fault) → admitted most own r ≡ a → (a >>= next) ≡ Ok rows → length rows ≤ limit
after_admitted most own limit next rows r go (Err f) is given = absurd cc
after_admitted most own limit next rows r go (Ok c) is given =
    go (admitted_within most own r c (is_past most r.number) refl is) c given

-- the records after a header are counted from 1
by_header : (own : Layout) (made all : Left) (same : Bool) → made.number ≡ 1 → (if same then Ok made else Err (header_fault own.table)) ≡ Ok all → 1 ≤ all.number
by_header own made all true one e = let h : made ≡ all = cc in omega (arith, ap (λ (l : Left). l.number) h)
by_header own made all false one e = absurd cc

first : (own : Layout) (records : List (List (List ℕ))) (all : Left) → after_header own records ≡ Ok all → 1 ≤ all.number
first own [] all e = absurd cc
first own (header ∷ records) all e =
    by_header own (record { layout = own; number = 1; left = records; is_over = false }) all (pointwise (pointwise nat_eq) header own.columns) refl e

counted_from : {X : Type 0} (read : Reads X) (own : Layout) (limit : ℕ) → limit < 4294967294 → ((before : List X) → read.limit before ≡ Some limit)
    → (before : List X) (number : ℕ) (left : List (List (List ℕ))) (rows : List X) → IsCounted limit before number
    → rows_from read own before number left ≡ Ok rows → length rows ≤ limit
unfolding rows_from
counted_from read own limit small e before number [] rows counted given =
    let same : before ≡ rows = cc in rw (← same) counted.few
counted_from read own limit small e before number (cells ∷ rest) rows counted given =
    let r : Cells = record { table = own.table; number = number; cells = cells } in
    after_admitted (read.limit before) own limit (λ c. read.row before c >>= λ x. rows_from read own (before ++ (x ∷ [])) (next_number number) rest) rows r
    (λ past c admits.
    let within : nat_lt limit number ≡ false = rw (e before) at past in
    after_row limit (λ x. rows_from read own (before ++ (x ∷ [])) (next_number number) rest) rows
    (λ x rest_given. counted_from read own limit small e (before ++ x ∷ []) (next_number number) rest rows (more limit before x number small within counted) rest_given)
    (read.row before c) admits)
    (admitted (read.limit before) own r) refl given

-- a table's rows are no more than its limit
pub counted : {X : Type 0} (read : Reads X) (own : Layout) (text : List ℕ) (rows : List X) (limit : ℕ)
    → limit < 4294967294 → ((before : List X) → read.limit before ≡ Some limit) → rows_of read own text ≡ Ok rows → length rows ≤ limit
counted read own text rows limit small e given = opens (opened own text) refl given
  where
    opens : (o : Result Left Fault) → opened own text ≡ o → (o >>= λ all. rows_from read own [] all.number all.left) ≡ Ok rows → length rows ≤ limit
    opens (Err f) is all_given = absurd cc
    opens (Ok all) is all_given =
        counted_from read own limit small e [] all.number all.left rows (record { few = omega arith; at = first own (records_of text) all is }) all_given

-- the same of what a call returned
pub counted_result : {X Y : Type 0} (IsRefusal : Fault → Type 0) (view : Y → List X) (read : Reads X) (own : Layout) (text : List ℕ) (limit : ℕ)
    → limit < 4294967294 → ((before : List X) → read.limit before ≡ Some limit) → (result : Result Y Fault) → Gives IsRefusal view result (rows_of read own text) → IfOk result (λ y. length (view y) ≤ limit)
counted_result IsRefusal view read own text limit small e (Ok y) given = counted read own text (view y) limit small e given
counted_result IsRefusal view read own text limit small e (Err f) given = tt
