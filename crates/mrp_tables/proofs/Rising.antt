-- Rows that have their records' numbers: the numbers rise.
use Rattle.std.proofs.Common.{◌≡◌, ℕ, ◌<◌, ◌==◌, ◌++◌, false, List, [], ◌∷◌, length, get_or, Option, Some, Ok, refl, sym, subst, ap, ◌∙◌, arith}
use Rattle.std.specs.Prelude.{All, AllPairs, nat_lt}
use Rattle.std.proofs.lemmas.Bool.{ltb-false}
use Rattle.std.proofs.lemmas.List.Elements.{All-append, All-cons, All-nil}
use Rattle.std.proofs.lemmas.List.Kept.{AllPairs-filter}
use Rattle.std.proofs.lemmas.List.Quantifiers.{all_pairs_push}
use Rattle.mrp_cal.specs.Calendar.{ShopCalendar}
use Rattle.mrp_rows.specs.declared.faults.TheConstants as faults
use Rattle.mrp_rows.specs.declared.fault.Table.TheVariants as t
use Rattle.mrp_rows.specs.Cell.{fault_at}
use Rattle.mrp_rows.specs.Columns.{Layout, layout_of, width}
use Rattle.mrp_rows.specs.Left.{Cells}
use Rattle.mrp_rows.specs.Next.{next_number, opened}
use Rattle.mrp_rows.proofs.TextLaws.{whole_step}
use Rattle.mrp_tables.specs.declared.limits.TheConstants as limits
use Rattle.mrp_tables.specs.declared.item.Item.{Item}
use Rattle.mrp_tables.specs.declared.rows.MasterRow.{MasterRow}
use Rattle.mrp_tables.specs.declared.rows.Receipt.{Receipt}
use Rattle.mrp_tables.specs.declared.version.Version.{Version}
use Rattle.mrp_tables.specs.Facts.{NumbersRise, RowsRise}
use Rattle.mrp_tables.specs.Master.{master_row, that_count}
use Rattle.mrp_tables.specs.Reading.{Reads, admitted, by_itself, is_past, reads_of, rows_from, rows_of}
use Rattle.mrp_tables.specs.Receipts.{orders_of, receipt_row, receipts_that_count}
use Rattle.mrp_tables.proofs.CellsRead.{past_check, same_value, where_so}
use Rattle.mrp_tables.proofs.RecordsRead.{is_placed, master_row-number}

-- a record is admitted as it is, within its table's limit
admitted_as : (limit : Option ℕ) (own : Layout) (r c : Cells) → admitted limit own r ≡ Ok c → (is_past limit r.number ≡ false) × (r ≡ c)
admitted_as limit own r c e =
    let within = past_check (is_past limit r.number) (fault_at r faults.TOO_MANY) _ c e in
    let wide = where_so (length r.cells == width own) (fault_at r faults.COLUMNS) r c within.1 in
    (within.0, wide.1)

-- the numbers of the rows so far rise, and are below that of the next record
record AreRising {X : Type 0} (number_of : X → ℕ) (rows : List X) (next : ℕ) : Type 0 where
  below : All (λ x. number_of x < next) rows
  rising : AllPairs (λ x y. number_of x < number_of y) rows

one_more : {X : Type 0} (number_of : X → ℕ) (rows : List X) (x : X) (number limit : ℕ) → limit < 4294967294 → nat_lt limit number ≡ false → number_of x ≡ number
    → AreRising number_of rows number → AreRising number_of (rows ++ x ∷ []) (next_number number)
one_more {X} number_of rows x number limit small past own are =
    let Below : X → Type 0 = λ y. number_of y < next_number number in
    let within = ltb-false limit number past in
    let low : (k : ℕ) (d : X) → k < length rows → number_of (get_or rows k d) < number = are.below in
    record {
      below = All-append Below rows (x ∷ []) (λ k d inside. omega (arith, within, low k d inside)) (All-cons Below x [] (omega (arith, within)) (All-nil Below));
      rising = all_pairs_push (λ a b. number_of a < number_of b) rows x are.rising (λ k d inside. omega (arith, low k d inside));
    }

rising_from : {X : Type 0} (number_of : X → ℕ) (read : Reads X) (at : Layout) (limit : ℕ) → limit < 4294967294 → ((before : List X) → read.limit before ≡ Some limit)
    → ((before : List X) (r : Cells) (x : X) → read.row before r ≡ Ok x → number_of x ≡ r.number)
    → (before : List X) (number : ℕ) (left : List (List (List ℕ))) (rows : List X) → AreRising number_of before number → rows_from read at before number left ≡ Ok rows
    → AllPairs (λ x y. number_of x < number_of y) rows
unfolding rows_from
rising_from {X} number_of read at limit small e own before number [] rows are given =
    subst (λ (xs : List X). AllPairs (λ x y. number_of x < number_of y) xs) (same_value before rows (Ok before) refl given) are.rising
rising_from number_of read at limit small e own before number (cells ∷ rest) rows are given =
    let made : Cells = record { table = at.table; number = number; cells = cells } in
    let r = whole_step (admitted (read.limit before) at made) _ rows given in
    let x = whole_step (read.row before r.0) _ rows r.2 in
    let is = admitted_as (read.limit before) at made r.0 r.1 in
    let past : nat_lt limit number ≡ false = rw (e before) at is.0 in
    let numbered : number_of x.0 ≡ number = own before r.0 x.0 x.1 ∙ sym (ap (λ (c : Cells). c.number) is.1) in
    rising_from number_of read at limit small e own (before ++ x.0 ∷ []) (next_number number) rest rows
    (one_more number_of before x.0 number limit small past numbered are) x.2

-- the rows of a table with a limit, each with its record's number
rising : {X : Type 0} (number_of : X → ℕ) (read : Reads X) (at : Layout) (text : List ℕ) (rows : List X) (limit : ℕ) → limit < 4294967294 → ((before : List X) → read.limit before ≡ Some limit)
    → ((before : List X) (r : Cells) (x : X) → read.row before r ≡ Ok x → number_of x ≡ r.number)
    → rows_of read at text ≡ Ok rows → AllPairs (λ x y. number_of x < number_of y) rows
rising number_of read at text rows limit small e own given =
    let all = whole_step (opened at text) _ rows given in
    rising_from number_of read at limit small e own [] all.0.number all.0.left rows
    (record { below = All-nil (λ x. number_of x < all.0.number); rising = λ i j d less within. absurd (omega (arith, within)) }) all.2

-- the open receipts that count
pub receipts_rise : (calendar : ShopCalendar) (items : List Item) (text : List ℕ) (rows : List Receipt) → rows_of (reads_of t.Receipts (receipt_row calendar items)) (layout_of t.Receipts) text ≡ Ok rows
    → NumbersRise (receipts_that_count rows)
receipts_rise calendar items text rows given =
    let Rises : Receipt → Receipt → Type 0 = λ a b. a.number < b.number in
    AllPairs-filter Rises (λ row. nat_lt 0 row.quantity) rows
    (rising (λ (row : Receipt). row.number) (reads_of t.Receipts (receipt_row calendar items)) (layout_of t.Receipts) text rows limits.MOST_ROWS (omega arith) (λ before. refl)
    (λ before r row e. (is_placed calendar items (orders_of before) r row e).number) given)

-- the rows of the master schedule that count
pub master_rises : (version : Version) (calendar : ShopCalendar) (items : List Item) (text : List ℕ) (rows : List MasterRow)
    → rows_of (reads_of t.Master (by_itself (master_row version calendar items))) (layout_of t.Master) text ≡ Ok rows → RowsRise (that_count rows)
master_rises version calendar items text rows given =
    let Rises : MasterRow → MasterRow → Type 0 = λ a b. a.number < b.number in
    AllPairs-filter Rises (λ row. nat_lt 0 row.quantity) rows
    (rising (λ (row : MasterRow). row.number) (reads_of t.Master (by_itself (master_row version calendar items))) (layout_of t.Master) text rows limits.MOST_ROWS (omega arith) (λ before. refl)
    (λ before r row e. master_row-number version calendar items r row e) given)
