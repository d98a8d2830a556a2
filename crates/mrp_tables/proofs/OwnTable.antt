-- A fault stands at its own table.
use Rattle.std.proofs.Common.{◌≡◌, ℕ, Bool, true, false, List, [], ◌∷◌, ◌++◌, ◌+◌, length, Result, Ok, Err, refl}
use Rattle.std.specs.Prelude.{IfErr, if◌then◌else◌, nat_eq}
use Rattle.std.specs.Cmp.Lexicographic.{pointwise}
use Rattle.mrp_qty.specs.Reading.{◌>>=◌}
use Rattle.mrp_rows.specs.declared.fault.Fault.{Fault}
use Rattle.mrp_rows.specs.declared.fault.Table.{Table}
use Rattle.mrp_rows.specs.declared.fault.Table.TheVariants as t
use Rattle.mrp_rows.specs.Columns.{Layout, layout_of}
use Rattle.mrp_rows.specs.Left.{Cells, Left}
use Rattle.mrp_rows.specs.Next.{after_header, header_fault, next_number, opened}
use Rattle.mrp_rows.specs.Records.{records_of}
use Rattle.mrp_tables.specs.declared.calendar.Entry.{Entry}
use Rattle.mrp_tables.specs.declared.calendar.Entry.TheVariants.{Start, Weeks, Workdays}
use Rattle.mrp_tables.specs.declared.version.Version.{Version}
use Rattle.mrp_tables.specs.Calendar.{calendar_from, calendar_reads, dated_from, dated_of, version_among}
use Rattle.mrp_tables.specs.Laws.{FaultsAtItsRecord, IsAt, read_one}
use Rattle.mrp_tables.specs.Reading.{Reads, admitted, rows_from, rows_of}
use Rattle.mrp_tables.proofs.Blaming.{at_their_records}
use Rattle.mrp_tables.proofs.RowLaws.{bind_assoc}

-- a fault, if there is one, is of this table
abbrev pub IsOf : {X : Type 0} → Table → Result X Fault → Type 0
IsOf table x = IfErr x (λ f. f.table ≡ table)

at_table : {X : Type 0} (r : Cells) (x : Result X Fault) → IfErr x (IsAt r) → IsOf r.table x
at_table r (Ok a) at = tt
at_table r (Err f) at = at.table

pub follows : {X Y : Type 0} (table : Table) (x : Result X Fault) (next : X → Result Y Fault) → IsOf table x → ((a : X) → x ≡ Ok a → IsOf table (next a)) → IsOf table (x >>= next)
follows table (Ok a) next own h = h a refl
follows table (Err f) next own h = own

rows_from_own : {X : Type 0} (read : Reads X) → FaultsAtItsRecord read → (own : Layout) (before : List X) (number : ℕ) (left : List (List (List ℕ))) → IsOf own.table (rows_from read own before number left)
unfolding rows_from
rows_from_own read h own before number [] = tt
rows_from_own {X} read h own before number (cells ∷ rest) =
    let r : Cells = record { table = own.table; number = number; cells = cells } in
    let next : X → Result (List X) Fault = λ x. rows_from read own (before ++ (x ∷ [])) (next_number number) rest in
    rw (← bind_assoc (admitted (read.limit before) own r) (read.row before) next)
    (follows own.table (read_one read own before r) next (at_table r (read_one read own before r) (h own before r))
    (λ x e. rows_from_own read h own (before ++ (x ∷ [])) (next_number number) rest))

by_header_own : (table : Table) (made : Left) (same : Bool) → IsOf table (if same then Ok made else Err (header_fault table))
by_header_own table made true = tt
by_header_own table made false = refl

header_own : (own : Layout) (records : List (List (List ℕ))) → IsOf own.table (after_header own records)
header_own own [] = refl
header_own own (header ∷ records) = by_header_own own.table (record { layout = own; number = 1; left = records; is_over = false }) (pointwise (pointwise nat_eq) header own.columns)

pub rows_own : {X : Type 0} (read : Reads X) → FaultsAtItsRecord read → (own : Layout) (text : List ℕ) → IsOf own.table (rows_of read own text)
rows_own read h own text =
    follows own.table (opened own text) (λ all. rows_from read own [] all.number all.left) (header_own own (records_of text))
    (λ all e. rows_from_own read h own [] all.number all.left)

dated_own : (version : Version) (missing : ℕ) (entries : List Entry) → IsOf t.Calendar (dated_from version missing entries)
dated_own version missing (Start start ∷ Weeks weeks ∷ Workdays workdays ∷ holidays) = tt
dated_own version missing entries = refl

from_own : (entries : List Entry) → IsOf t.Calendar (calendar_from entries)
from_own entries = dated_own (version_among entries) (length entries + 1) (dated_of entries)

pub calendar_own : (text : List ℕ) → IsOf t.Calendar (rows_of calendar_reads (layout_of t.Calendar) text >>= calendar_from)
calendar_own text =
    follows t.Calendar (rows_of calendar_reads (layout_of t.Calendar) text) calendar_from
    (rows_own calendar_reads at_their_records.calendar (layout_of t.Calendar) text) (λ entries e. from_own entries)
