-- The records of a script that is written, as other tables read them.
use Rattle.std.specs.Prelude.{codes, decimal, All, nat_eq, if◌then◌else◌}
use Rattle.std.specs.List.{AllZip}
use Rattle.std.specs.Cmp.Lexicographic.{pointwise, same_text}
use Rattle.std.proofs.Common.{◌≡◌, ◌∙◌, ℕ, ◌<◌, ◌≤◌, ◌^◌, Bool, true, false, List, [], ◌∷◌, ◌++◌, append_assoc, append-nil, get_or, length, Option, Some, None, Result, Ok, Err, ap, arith, refl, subst, sym}
use Rattle.std.proofs.lemmas.List.{get_or-map, length-map}
use Rattle.std.proofs.lemmas.List.Elements.{All-head, All-tail}
use Rattle.std.proofs.lemmas.List.Quantifiers.{position-Some}
use Rattle.jiff.specs.Types.{Date}
use Rattle.jiff.specs.Words.{date_parts, date_text, parse_date}
use Rattle.jiff.proofs.Family.{parse_date-date_text}
use Rattle.mrp_qty.specs.Reading.{◌>>=◌}
use Rattle.mrp_cal.specs.Calendar.{week_of}
use Rattle.mrp_cal.specs.DateText.{date_of}
use Rattle.mrp_cal.proofs.CivilDates.{same_parts}
use Rattle.mrp_cal.proofs.DateTexts.{is_text}
use Rattle.mrp_rows.specs.declared.fault.Fault.{Fault}
use Rattle.mrp_rows.specs.declared.fault.Table.{Table}
use Rattle.mrp_rows.specs.declared.fault.Table.TheVariants as t
use Rattle.mrp_rows.specs.declared.faults.TheConstants as faults
use Rattle.mrp_rows.specs.Cell.{blame, date_cell, name_of, number_cell, or_code, word_of}
use Rattle.mrp_rows.specs.Columns.{Layout, layout_of}
use Rattle.mrp_rows.specs.Left.{Cells}
use Rattle.mrp_rows.specs.Name.{is_name}
use Rattle.mrp_rows.specs.Next.{next_number}
use Rattle.mrp_rows.proofs.TextLaws.{whole_step}
use Rattle.mrp_tables.specs.declared.item.Item.{Item}
use Rattle.mrp_tables.specs.declared.rows.ScriptCall.{ScriptCall}
use Rattle.mrp_tables.specs.declared.rows.ScriptCall.TheVariants as s
use Rattle.mrp_tables.specs.declared.rows.ScriptRow.{ScriptRow}
use Rattle.mrp_tables.specs.Items.{is_master_at, item_at, known, names_of, place_of}
use Rattle.mrp_tables.specs.Limits.{call_words}
use Rattle.mrp_tables.specs.Reading.{Reads, admitted, by_itself, reads_of, rows_from}
use Rattle.mrp_tables.specs.Script.{book_cells, call_at, mastered, script_row, spot_of}
use Rattle.mrp_tables.specs.Tables.{Tables}
use Rattle.mrp_master.specs.declared.line.Line.{Line}
use Rattle.mrp_book.specs.declared.booking.Booking.{Booking}
use Rattle.mrp_report.specs.section.Cells.{name_at}
use Rattle.mrp_carry.specs.Periods.{IsSameLine}
use Rattle.mrp_carry.specs.Rows.{IsFirstDay, IsRecordOf, Row, line_cells}

ok-is : {X E : Type 0} (a b : X) → ◌≡◌ {A = Result X E} (Ok a) (Ok b) → a ≡ b
ok-is a b e = cc

-- the same value
one-value : {X E : Type 0} (r : Result X E) (a b : X) → r ≡ Ok a → r ≡ Ok b → a ≡ b
one-value r a b is e = ok-is a b (sym is ∙ e)

unblamed : {X : Type 0} (r : Cells) (x : Result X ℕ) (a : X) → blame r x ≡ Ok a → x ≡ Ok a
unblamed r (Ok b) a e = ap (λ c. Ok c) (ok-is b a e)
unblamed r (Err code) a e = absurd cc

uncoded : {X : Type 0} (code : ℕ) (x : Option X) (a : X) → or_code code x ≡ Ok a → x ≡ Some a
uncoded code (Some b) a e = ap (λ c. Some c) (ok-is b a e)
uncoded code None a e = absurd cc

where-so : {X E : Type 0} (b : Bool) (e : E) (y x : X) → (if b then Ok y else Err e) ≡ Ok x → y ≡ x
where-so true e y x given = ok-is y x given
where-so false e y x given = absurd cc

-- a name is its cell
named : (cell name : List ℕ) → name_of cell ≡ Ok name → name ≡ cell
named cell name e = by (is_name cell) (uncoded faults.NAME _ name e)
  where
    by : (b : Bool) → (if b then Some cell else None) ≡ Some name → name ≡ cell
    by true given = let same : cell ≡ name = cc in sym same
    by false given = absurd cc

-- dates with one text are one
same-day : (a b : Date) → date_text a ≡ date_text b → a ≡ b
same-day a b e =
    let parts : date_parts a ≡ date_parts b = ok-is (date_parts a) (date_parts b) (sym (parse_date-date_text a) ∙ ap parse_date e ∙ parse_date-date_text b) in
    same_parts a b (ap (λ p. p.year) parts) (ap (λ p. p.month) parts) (ap (λ p. p.day) parts)

-- a date's text reads as that date
own-day : (day read : Date) → date_cell (date_text day) ≡ Ok read → day ≡ read
own-day day read e =
    let text = subst (λ o. o) refl (is_text (date_text day) (Some read) (sym (uncoded faults.DATE (date_of (date_text day)) read e))) in
    same-day day read text.text_is

-- the item of a name has that name
own-name : (tables : Tables) (name : List ℕ) (place : ℕ) → known tables.items name ≡ Ok place → name_at tables place ≡ name
own-name tables name place e =
    let found = position-Some (pointwise nat_eq name) (names_of tables.items) place [] (uncoded faults.UNKNOWN_ITEM (place_of name tables.items) place e) in
    let within : place < length tables.items = rw length-map at found.0 in
    sym (same_text name (get_or (names_of tables.items) place []) (sym found.1) ∙ get_or-map (λ (i : Item). i.name) tables.items place (item_at [] 0) [] within)

-- a row of a script books a booking again
pub record ReadsAgain (old new : Tables) (b : Booking) (r : ScriptRow) : Type 0 where
  pub line : Line
  pub same : IsSameLine old new b.line line
  pub is : r ≡ record { desk = b.desk; call = s.Book line.item line.week line.quantity }

-- a booking whose desk and quantity may stand in a script
pub record IsWritable (b : Booking) : Type 0 where
  pub desk : (1 ≤ b.desk) × (b.desk ≤ 64)
  pub quantity : (1 ≤ b.line.quantity) × (b.line.quantity ≤ 1000000000)

module _ (numbers : (n least most : ℕ) → n < 2 ^ 64 → least ≤ n → n ≤ most → number_cell least most (decimal n) ≡ Ok n) (old new : Tables) where
  -- where a spot was read
  spot-read : (b : Booking) (day : Date) (r : Cells) (spot : ℕ × ℕ) → IsFirstDay old.calendar b.line.week day → spot_of new.calendar new.items r (name_at old b.line.item) day ≡ Ok spot
      → IsSameLine old new b.line (record { item = spot.0; week = spot.1; quantity = b.line.quantity })
  unfolding spot_of
  spot-read b day r spot first e =
      let item = whole_step (blame r (known new.items (name_at old b.line.item))) _ spot e in
      let week = whole_step (blame r (or_code faults.DATE_OUTSIDE (week_of new.calendar day))) _ spot item.2 in
      let master = whole_step (blame r (mastered new.items item.0)) _ spot week.2 in
      let is : (master.0, week.0) ≡ spot = ok-is (master.0, week.0) spot master.2 in
      let same : item.0 ≡ master.0 = where-so (is_master_at new.items item.0) faults.NOT_MASTER item.0 master.0 (unblamed r (mastered new.items item.0) master.0 master.1) in
      let place : item.0 ≡ spot.0 = same ∙ ap (λ (p : ℕ × ℕ). p.0) is in
      record {
        item = ap (name_at new) (sym place) ∙ own-name new (name_at old b.line.item) item.0 (unblamed r (known new.items (name_at old b.line.item)) item.0 item.1);
        day = day;
        first_day = first;
        week = uncoded faults.DATE_OUTSIDE (week_of new.calendar day) week.0 (unblamed r (or_code faults.DATE_OUTSIDE (week_of new.calendar day)) week.0 week.1) ∙ ap (λ (p : ℕ × ℕ). Some p.1) is;
        quantity = refl;
      }

  cells-of : Table → ℕ → Booking → Date → Cells
  cells-of table number b day = record { table = table; number = number; cells = decimal b.desk ∷ codes "book" ∷ (line_cells old b.line day ++ [] ∷ []) }

  -- a call to book, with the quantity that was read
  call-is : (item week read quantity : ℕ) (c : ScriptCall) → ◌≡◌ {A = Result ScriptCall Fault} (Ok (s.Book item week read)) (Ok c) → read ≡ quantity → c ≡ s.Book item week quantity
  call-is item week read quantity c e same = sym (ok-is (s.Book item week read) c e) ∙ ap (s.Book item week) same

  -- the call of such a record
  call-read : (table : Table) (number : ℕ) (b : Booking) (day : Date) (c : ScriptCall) → IsWritable b → IsFirstDay old.calendar b.line.week day
      → book_cells new.calendar new.items (cells-of table number b day) ≡ Ok c → (line : Line) × IsSameLine old new b.line line × (c ≡ s.Book line.item line.week line.quantity)
  unfolding book_cells cells-of
  call-read table number b day c may first e =
      let r = cells-of table number b day in
      let name = whole_step (blame r (name_of (name_at old b.line.item))) _ c e in
      let date = whole_step (blame r (date_cell (date_text day))) _ c name.2 in
      let pieces = whole_step (blame r (number_cell 1 1000000000 (decimal b.line.quantity))) _ c date.2 in
      let spot = whole_step (spot_of new.calendar new.items r name.0 date.0) _ c pieces.2 in
      let own : name.0 ≡ name_at old b.line.item = named (name_at old b.line.item) name.0 (unblamed r (name_of (name_at old b.line.item)) name.0 name.1) in
      let on : day ≡ date.0 = own-day day date.0 (unblamed r (date_cell (date_text day)) date.0 date.1) in
      let quantity : b.line.quantity ≡ pieces.0 =
      one-value (number_cell 1 1000000000 (decimal b.line.quantity)) b.line.quantity pieces.0 (numbers b.line.quantity 1 1000000000 (omega (arith, may.quantity.1)) may.quantity.0 may.quantity.1)
      (unblamed r (number_cell 1 1000000000 (decimal b.line.quantity)) pieces.0 pieces.1) in
      let found : spot_of new.calendar new.items r (name_at old b.line.item) day ≡ Ok spot.0 =
      subst (λ (x : Date). spot_of new.calendar new.items r (name_at old b.line.item) x ≡ Ok spot.0) (sym on) (subst (λ (x : List ℕ). spot_of new.calendar new.items r x date.0 ≡ Ok spot.0) own spot.1) in (
        record { item = spot.0.0; week = spot.0.1; quantity = b.line.quantity },
        spot-read b day r spot.0 first found,
        call-is spot.0.0 spot.0.1 pieces.0 b.line.quantity c spot.2 (sym quantity),
      )

  -- a record of a booking, read as a row
  record-read : (table : Table) (number : ℕ) (b : Booking) (day : Date) (x : ScriptRow) → IsWritable b → IsFirstDay old.calendar b.line.week day → script_row new.calendar new.items (cells-of table number b day) ≡ Ok x → ReadsAgain old new b x
  unfolding script_row cells-of
  record-read table number b day x may first e =
      let r = cells-of table number b day in
      let with_call : ℕ → ScriptCall → Result ScriptRow Fault = λ d own. Ok (record { desk = d; call = own }) in
      let with_place : ℕ → ℕ → Result ScriptRow Fault = λ d place. call_at new.calendar new.items r place >>= with_call d in
      let with_desk : ℕ → Result ScriptRow Fault = λ d. blame r (word_of call_words (codes "book")) >>= with_place d in
      let desk = whole_step (blame r (number_cell 1 64 (decimal b.desk))) with_desk x e in
      let word = whole_step (blame r (word_of call_words (codes "book"))) (with_place desk.0) x desk.2 in
      let own = whole_step (call_at new.calendar new.items r word.0) (with_call desk.0) x word.2 in
      let is-book : 0 ≡ word.0 = ok-is 0 word.0 word.1 in
      let book : book_cells new.calendar new.items r ≡ Ok own.0 = subst (λ (place : ℕ). call_at new.calendar new.items r place ≡ Ok own.0) (sym is-book) own.1 in
      let (line, same, is) = call-read table number b day own.0 may first book in
      let at : b.desk ≡ desk.0 =
      one-value (number_cell 1 64 (decimal b.desk)) b.desk desk.0 (numbers b.desk 1 64 (omega (arith, may.desk.1)) may.desk.0 may.desk.1) (unblamed r (number_cell 1 64 (decimal b.desk)) desk.0 desk.1) in
      let made : ScriptRow = record { desk = desk.0; call = own.0 } in
      let whole : made ≡ x = ok-is made x own.2 in
      record { line = line; same = same; is = sym whole ∙ (λ i. record { desk = sym at i; call = is i }) }

  abbrev reads : Reads ScriptRow
  reads = reads_of t.Script (by_itself (script_row new.calendar new.items))

  abbrev own : Layout
  own = layout_of t.Script

  admitted-is : (past wide : Bool) (f g : Fault) (r found : Cells) → (if past then Err f else if wide then Ok r else Err g) ≡ Ok found → r ≡ found
  admitted-is true wide f g r found e = absurd cc
  admitted-is false true f g r found e = ok-is r found e
  admitted-is false false f g r found e = absurd cc

  -- rows are read for these bookings, and the records that follow are read behind them
  pub record ReadsOn (bookings : List Booking) (before all : List ScriptRow) (tail : List Row) : Type 0 where
    pub rows : List ScriptRow
    pub again : AllZip (ReadsAgain old new) bookings rows
    pub next : ℕ
    pub left : rows_from (reads_of t.Script (by_itself (script_row new.calendar new.items))) (layout_of t.Script) (before ++ rows) next tail ≡ Ok all

  pub rows-read : (bookings : List Booking) (records : List Row) (before all : List ScriptRow) (number : ℕ) (tail : List Row) → AllZip (IsRecordOf old) bookings records → All IsWritable bookings
      → rows_from (reads_of t.Script (by_itself (script_row new.calendar new.items))) (layout_of t.Script) before number (records ++ tail) ≡ Ok all → ReadsOn bookings before all tail
  unfolding rows_from cells-of
  rows-read [] [] before all number tail are may e = record { rows = []; again = tt; next = number; left = ap (λ (x : List ScriptRow). rows_from reads own x number tail) (append-nil before) ∙ e }
  rows-read [] (r ∷ records) before all number tail are may e = absurd are
  rows-read (b ∷ bookings) [] before all number tail are may e = absurd are
  rows-read (b ∷ bookings) (cells ∷ records) before all number tail ((day, first, is), are) may e =
      let r : Cells = record { table = t.Script; number = number; cells = cells } in
      let taken = whole_step (admitted (reads.limit before) own r) _ all e in
      let x = whole_step (script_row new.calendar new.items taken.0) _ all taken.2 in
      let same : r ≡ taken.0 = admitted-is _ _ _ _ r taken.0 taken.1 in
      let plain : r ≡ cells-of t.Script number b day = ap (λ (c : Row). record { table = t.Script; number = number; cells = c }) is in
      let read : script_row new.calendar new.items (cells-of t.Script number b day) ≡ Ok x.0 = ap (script_row new.calendar new.items) (sym plain ∙ same) ∙ x.1 in
      let on = rows-read bookings records (before ++ x.0 ∷ []) all (next_number number) tail are (All-tail IsWritable b bookings may) x.2 in
      record {
        rows = x.0 ∷ on.rows;
        again = (record-read t.Script number b day x.0 (All-head IsWritable b bookings may) first read, on.again);
        next = on.next;
        left = ap (λ (y : List ScriptRow). rows_from reads own y on.next tail) (sym (append_assoc before (x.0 ∷ []) on.rows)) ∙ on.left;
      }

-- the rows that are read behind others go on from them
pub rows-grow : {X : Type 0} (read : Reads X) (layout : Layout) (before all : List X) (number : ℕ) (left : List Row) → rows_from read layout before number left ≡ Ok all → (more : List X) × (all ≡ before ++ more)
unfolding rows_from
rows-grow read layout before all number [] e = ([], sym (ok-is before all e) ∙ sym (append-nil before))
rows-grow {X} read layout before all number (cells ∷ left) e =
    let r : Cells = record { table = layout.table; number = number; cells = cells } in
    let taken = whole_step (admitted (read.limit before) layout r) _ all e in
    let x = whole_step (read.row before taken.0) _ all taken.2 in
    let (more, is) = rows-grow read layout (before ++ x.0 ∷ []) all (next_number number) left x.2 in
    (x.0 ∷ more, is ∙ append_assoc before (x.0 ∷ []) more)

-- where no record is left, there are no more
pub rows-end : {X : Type 0} (read : Reads X) (layout : Layout) (before all : List X) (number : ℕ) → rows_from read layout before number [] ≡ Ok all → all ≡ before
unfolding rows_from
rows-end read layout before all number e = sym (ok-is before all e)
