-- The records of the text of a table that is written, whatever follows it.
use Rattle.std.specs.Prelude.{codes, decimal, flat_map}
use Rattle.std.specs.List.{AllZip}
use Rattle.std.proofs.Common.{◌≡◌, ◌∙◌, ℕ, List, [], ◌∷◌, ◌++◌, append_assoc, Option, Some, None, Ok, false, ap, refl, subst, sym}
use Rattle.csv.specs.Machine.{Read, next_record}
use Rattle.csv.specs.Reading.{AreRecords, Reached, default_config, strip_bom}
use Rattle.csv.specs.declared.parser.State.{State}
use Rattle.csv.specs.declared.parser.State.TheVariants as st
use Rattle.csv.proofs.RoundTrip.{read-write-many}
use Rattle.mrp_rows.specs.Columns.{layout_of}
use Rattle.mrp_rows.specs.Next.{after_header, opened}
use Rattle.mrp_rows.specs.Records.{records_of}
use Rattle.mrp_rows.specs.declared.fault.Table.TheVariants as t
use Rattle.mrp_tables.specs.Tables.{Tables}
use Rattle.mrp_book.specs.declared.booking.Booking.{Booking}
use Rattle.mrp_report.specs.page.Rows.{row}
use Rattle.mrp_report.specs.section.Cells.{number_cell}
use Rattle.mrp_carry.specs.declared.form.CarryForm.{CarryForm}
use Rattle.mrp_carry.specs.declared.form.CarryForm.TheVariants as form
use Rattle.mrp_carry.specs.Carried.{carried, renumbered}
use Rattle.mrp_carry.specs.Rows.{AreRows, IsRecordOf, IsRowOf, Row, columns_of, line_cells}

-- a row of more than one cell
pub record IsWide (cells : Row) : Type 0 where
  pub one : List ℕ
  pub two : List ℕ
  pub rest : Row
  pub is : cells ≡ one ∷ two ∷ rest

-- each is such a row
abbrev pub AreWide : List Row → Type 0
AreWide [] = Unit {0}
AreWide (r ∷ rows) = IsWide r × AreWide rows

first-next : (r : Row) (rows : List Row) (more : List ℕ) → IsWide r
    → next_record default_config st.StartRecord [] [] (flat_map row (r ∷ rows) ++ more) ≡ Some (r, st.StartRecord, flat_map row rows ++ more)
first-next r rows more wide =
    let tail = flat_map row rows ++ more in
    ap (next_record default_config st.StartRecord [] []) (append_assoc (row r) (flat_map row rows) more)
    ∙ subst (λ (x : Row). next_record default_config st.StartRecord [] [] (row x ++ tail) ≡ Some (x, st.StartRecord, tail)) (sym wide.is) (read-write-many wide.one wide.two wide.rest tail)

goes-on : (text left : List ℕ) (end : State) (p : Read) → next_record default_config st.StartRecord [] [] text ≡ Some p → st.StartRecord ≡ end → text ≡ left → next_record default_config end [] [] left ≡ None → ⊥
goes-on text left end p some same rest none =
    let moved : next_record default_config end [] [] left ≡ Some p =
    subst (λ (x : State). next_record default_config x [] [] left ≡ Some p) same (subst (λ (x : List ℕ). next_record default_config st.StartRecord [] [] x ≡ Some p) rest some) in
    cc

some-is : (a b : Read) → Some a ≡ Some b → a ≡ b
some-is a b e = cc

-- all records begin with these, and go on with those of what follows
record GoesOn (rows : List Row) (more : List ℕ) (all : List Row) : Type 0 where
  tail : List Row
  parts : all ≡ rows ++ tail
  left : AreRecords default_config st.StartRecord more tail

reached-on : (rows : List Row) (more : List ℕ) (all : List Row) → AreWide rows → AreRecords default_config st.StartRecord (flat_map row rows ++ more) all → GoesOn rows more all
unfolding Reached
reached-on [] more all wide are = record { tail = all; parts = refl; left = are }
reached-on (r ∷ rows) more [] wide (end, left, reached, none) =
    absurd (goes-on (flat_map row (r ∷ rows) ++ more) left end (r, st.StartRecord, flat_map row rows ++ more) (first-next r rows more wide.0) reached.0 reached.1 none)
reached-on (r ∷ rows) more (a ∷ all) wide (end, left, (p, found, first, reached), none) =
    let next : Read = (r, st.StartRecord, flat_map row rows ++ more) in
    let is : p ≡ next = some-is p next (sym found ∙ first-next r rows more wide.0) in
    let on = reached-on rows more all wide.1 (end, left, subst (λ (x : Read). Reached default_config x.1 x.2 all end left) is reached, none) in
    let same : a ≡ r = first ∙ ap (λ (x : Read). x.0) is in
    record { tail = on.tail; parts = λ i. same i ∷ on.parts i; left = on.left }

zip-wide : {A : Type 0} (Is : A → Row → Type 0) → ((x : A) (cells : Row) → Is x cells → IsWide cells) → (xs : List A) (rows : List Row) → AllZip Is xs rows → AreWide rows
zip-wide Is each [] [] are = tt
zip-wide Is each [] (r ∷ rows) are = absurd are
zip-wide Is each (x ∷ xs) [] are = absurd are
zip-wide Is each (x ∷ xs) (r ∷ rows) (is, are) = (each x r is, zip-wide Is each xs rows are)

pub records-wide : (tables : Tables) (bookings : List Booking) (rows : List Row) → AllZip (IsRecordOf tables) bookings rows → AreWide rows
records-wide tables =
    zip-wide (IsRecordOf tables) (λ b cells (day, first, is). record { one = decimal b.desk; two = codes "book"; rest = line_cells tables b.line day ++ [] ∷ []; is = is })

list-wide : (tables : Tables) (bookings : List (Booking × Option ℕ)) (rows : List Row) → AllZip (IsRowOf tables) bookings rows → AreWide rows
list-wide tables =
    zip-wide (IsRowOf tables) (λ r cells (day, first, is). record { one = decimal r.0.number; two = number_cell r.1; rest = decimal r.0.desk ∷ line_cells tables r.0.line day; is = is })

pub rows-wide : (table : CarryForm) (tables : Tables) (start : ℕ) (bookings : List Booking) (rows : List Row) → AreRows table tables start bookings rows → AreWide rows
rows-wide form.Script tables start bookings rows are = records-wide tables (carried start bookings) rows are
rows-wide form.Numbers tables start bookings rows are = list-wide tables (renumbered start 1 bookings) rows are

columns-wide : (table : CarryForm) → IsWide (columns_of table)
columns-wide form.Script = record { one = codes "desk"; two = codes "call"; rest = codes "item" ∷ codes "date" ∷ codes "quantity" ∷ codes "number" ∷ []; is = refl }
columns-wide form.Numbers = record { one = codes "old"; two = codes "new"; rest = codes "desk" ∷ codes "item" ∷ codes "date" ∷ codes "quantity" ∷ []; is = refl }

-- the text does not begin with a byte order mark
no-mark : (table : CarryForm) (tail : List ℕ) → strip_bom (row (columns_of table) ++ tail) ≡ row (columns_of table) ++ tail
unfolding strip_bom
no-mark form.Script tail = refl
no-mark form.Numbers tail = refl

-- the records of the text, and of what follows it
pub record HasRecords (table : CarryForm) (rows : List Row) (text : List ℕ) (more : List ℕ) : Type 0 where
  pub tail : List Row
  pub records : records_of (text ++ more) ≡ columns_of table ∷ (rows ++ tail)
  pub left : AreRecords default_config st.StartRecord more tail

pub text-records : ((text : List ℕ) → AreRecords default_config st.StartRecord (strip_bom text) (records_of text))
    → (table : CarryForm) (rows : List Row) (text more : List ℕ) → AreWide rows → text ≡ row (columns_of table) ++ flat_map row rows → HasRecords table rows text more
text-records csv table rows text more wide is =
    let columns = columns_of table in
    let whole : text ++ more ≡ flat_map row (columns ∷ rows) ++ more = ap (λ (x : List ℕ). x ++ more) is in
    let front : flat_map row (columns ∷ rows) ++ more ≡ row columns ++ (flat_map row rows ++ more) = append_assoc (row columns) (flat_map row rows) more in
    let bare : strip_bom (text ++ more) ≡ flat_map row (columns ∷ rows) ++ more = ap strip_bom (whole ∙ front) ∙ no-mark table (flat_map row rows ++ more) ∙ sym front in
    let on = reached-on (columns ∷ rows) more (records_of (text ++ more)) (columns-wide table, wide)
    (subst (λ (x : List ℕ). AreRecords default_config st.StartRecord x (records_of (text ++ more))) bare (csv (text ++ more))) in
    record { tail = on.tail; records = on.parts; left = on.left }

-- no record follows where nothing does
pub nothing-follows : (tail : List Row) → AreRecords default_config st.StartRecord [] tail → tail ≡ []
unfolding Reached next_record
nothing-follows [] are = refl
nothing-follows (r ∷ tail) (end, left, (p, found, first, reached), none) = absurd cc

-- the table of the script, opened
pub script-opened : (text : List ℕ) (records : List Row) → records_of text ≡ columns_of form.Script ∷ records
    → opened (layout_of t.Script) text ≡ Ok (record { layout = layout_of t.Script; number = 1; left = records; is_over = false })
script-opened text records is = ap (after_header (layout_of t.Script)) is
