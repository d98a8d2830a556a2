-- Periods whose script begins with the records that are written.
use Rattle.std.specs.Prelude.{All, codes, flat_map, map, nat_le, if◌then◌else◌}
use Rattle.std.specs.List.{AllZip, enumerate_from, list_any}
use Rattle.std.proofs.Common.{◌≡◌, ◌∙◌, inl, inr, ℕ, suc, ◌+◌, ◌<◌, ◌≤◌, ◌^◌, Bool, true, false, List, [], ◌∷◌, ◌++◌, append_assoc, append-nil, drop, length, take, Some, Ok, ap, arith, refl, subst, sym, decimal}
use Rattle.std.proofs.lemmas.Bool.{cases_lt}
use Rattle.std.proofs.lemmas.List.{get_or-map, get_or_past, length-map, map-append, take-append-drop, take_all}
use Rattle.std.proofs.lemmas.List.Elements.{All-cons, All-filter, All-head, All-nil, All-tail, filter_passes}
use Rattle.csv.specs.Reading.{AreRecords, default_config, strip_bom}
use Rattle.csv.specs.declared.parser.State.TheVariants as st
use Rattle.jiff.specs.Types.{Date}
use Rattle.jiff.specs.Words.{date_text, epoch_day}
use Rattle.jiff.proofs.Family.{epoch_day_injective}
use Rattle.mrp_qty.specs.Reading.{◌>>=◌}
use Rattle.mrp_cal.specs.Calendar.{ShopCalendar, week_of}
use Rattle.mrp_cal.specs.ShopDays.{first_day_of}
use Rattle.mrp_cal.proofs.CivilDates.{same_parts}
use Rattle.mrp_cal.proofs.Weekdays.{week_of-first_day}
use Rattle.mrp_rows.specs.Bundle.{bundle_of, text_in}
use Rattle.mrp_rows.specs.Cell.{number_cell}
use Rattle.mrp_rows.specs.Columns.{layout_of}
use Rattle.mrp_rows.specs.Left.{Left}
use Rattle.mrp_rows.specs.Records.{records_of}
use Rattle.mrp_rows.specs.declared.fault.Table.TheVariants as t
use Rattle.mrp_tables.specs.declared.item.Item.{Item}
use Rattle.mrp_tables.specs.declared.rows.ScriptRow.{ScriptRow}
use Rattle.mrp_tables.specs.Facts.{AllDiffer}
use Rattle.mrp_tables.specs.Items.{is_master, item_at, names_of}
use Rattle.mrp_tables.specs.Laws.{AreOfTheirTexts}
use Rattle.mrp_tables.specs.Readers.{calendar_in, items_in}
use Rattle.mrp_tables.specs.Reading.{by_itself, reads_of, rows_from, rows_of}
use Rattle.mrp_tables.specs.Script.{script_row}
use Rattle.mrp_tables.specs.Tables.{Tables, tables_in}
use Rattle.mrp_master.specs.declared.line.Line.{Line}
use Rattle.mrp_master.specs.Lines.{IsLine}
use Rattle.mrp_master.specs.Supply.{IsCovered, IsMaster, Supply, supply_of}
use Rattle.mrp_turn.proofs.Logs.{InTurn-from_Each}
use Rattle.mrp_turn.specs.declared.log.Entry.{Entry}
use Rattle.mrp_book.specs.declared.booking.Booking.{Booking}
use Rattle.mrp_book.specs.declared.call.Call.{Call}
use Rattle.mrp_book.specs.declared.call.Call.TheVariants as call
use Rattle.mrp_book.specs.declared.reply.Reply.{Reply}
use Rattle.mrp_book.specs.Bookings.{lines_of}
use Rattle.mrp_book.specs.Standing.{History, booked, standing}
use Rattle.mrp_book.specs.History.{Fits, IsLegal, MayFollow, asked}
use Rattle.mrp_book.proofs.Histories.{IsLegalFrom, legal-covered, legal-front, legal-lines}
use Rattle.mrp_book.proofs.Standings.{covered-fewer}
use Rattle.mrp_report.specs.page.Rows.{row}
use Rattle.mrp_report.specs.section.Cells.{name_at}
use Rattle.mrp_script.specs.Opened.{IsAccepted}
use Rattle.mrp_script.specs.Script.{AnswersScript, Script, is_run, record_of, script_of, with_run}
use Rattle.mrp_carry.specs.declared.form.CarryForm.TheVariants as form
use Rattle.mrp_carry.specs.Carried.{carried, is_due_from}
use Rattle.mrp_carry.specs.Rows.{IsRecordOf, IsText, Row, columns_of}
use Rattle.mrp_carry.specs.Standing.{AreStanding}
use Rattle.mrp_carry.specs.Periods.{AreOfOneShop, BeginsAgain, BooksAgain, IsBooked, IsSameLine, StandsAgain, first_entries}
use Rattle.mrp_carry.proofs.BookedAgain.{entries-again, none-short, nothing-stands, stand-again, standing-desks}
use Rattle.mrp_carry.proofs.BookedAgain as booked
use Rattle.mrp_carry.proofs.RowsRead.{IsWritable, ReadsAgain, rows-end, rows-grow, rows-read}
use Rattle.mrp_carry.proofs.ScriptTexts.{nothing-follows, records-wide, script-opened, text-records}

-- the laws of the tables that are used
pub record Facts : Type 1 where
  pub csv : (text : List ℕ) → AreRecords default_config st.StartRecord (strip_bom text) (records_of text)
  pub numbers : (n least most : ℕ) → n < 2 ^ 64 → least ≤ n → n ≤ most → number_cell least most (decimal n) ≡ Ok n
  pub texts : (texts : List (List ℕ)) (tables : Tables) → tables_in texts ≡ Ok tables → AreOfTheirTexts texts tables

-- the tables of an accepted bundle are those of its texts
pub tables-read : (bundle : List ℕ) (texts : List (List ℕ)) (tables : Tables) → bundle_of bundle ≡ Ok texts → IsAccepted bundle tables → tables_in texts ≡ Ok tables
tables-read bundle texts tables is accepted = sym (ap (λ r. r >>= tables_in) is) ∙ accepted.tables_are

abbrev HasDesk : Booking → Type 0
HasDesk b = (1 ≤ b.desk) × (b.desk ≤ 64)

-- bookings that stand may stand in a script
each-writable : (bookings : List Booking) (s : Supply) → All HasDesk bookings → All (λ (b : Booking). IsLine s b.line) bookings → All IsWritable bookings
each-writable [] s desks lines = All-nil IsWritable
each-writable (b ∷ bookings) s desks lines =
    let line = All-head (λ (b : Booking). IsLine s b.line) b bookings lines in
    All-cons IsWritable b bookings (record { desk = All-head HasDesk b bookings desks; quantity = (line.quantity.0, line.quantity.1) })
    (each-writable bookings s (All-tail HasDesk b bookings desks) (All-tail (λ (b : Booking). IsLine s b.line) b bookings lines))

lines-stand : (old : Tables) (bookings : List Booking) → AreStanding old bookings → All (λ (b : Booking). IsLine (supply_of old) b.line) bookings
lines-stand old bookings stand = subst (All (λ (b : Booking). IsLine (supply_of old) b.line)) (sym stand.left) (legal-lines (supply_of old) stand.history stand.legal)

writable : (old : Tables) (start : ℕ) (bookings : List Booking) → AreStanding old bookings → All IsWritable (carried start bookings)
writable old start bookings stand =
    let desks = subst (All HasDesk) (sym stand.left) (standing-desks (supply_of old) stand.history stand.legal) in
    All-filter (is_due_from start) IsWritable bookings (each-writable bookings (supply_of old) desks (lines-stand old bookings stand))

-- the rows of a script that begins with the records that are written
record IsReadAgain (old new : Tables) (bookings : List Booking) (more : List ℕ) : Type 0 where
  rows : List ScriptRow
  again : AllZip (ReadsAgain old new) bookings rows
  others : List ScriptRow
  script : new.script ≡ rows ++ others
  alone : more ≡ [] → others ≡ []

append-none : {A : Type 0} (xs ys : List A) → xs ++ ys ≡ xs → ys ≡ []
append-none [] ys same = same
append-none (x ∷ xs) ys same = append-none xs ys cc

read-again : Facts → (old new : Tables) (bookings : List Booking) (rows : List Row) (text more : List ℕ) (texts : List (List ℕ)) → All IsWritable bookings
    → AllZip (IsRecordOf old) bookings rows → text ≡ row (columns_of form.Script) ++ flat_map row rows → tables_in texts ≡ Ok new → text ++ more ≡ text_in texts t.Script → IsReadAgain old new bookings more
read-again facts old new bookings rows text more texts may are is accepted script =
    let reads = reads_of t.Script (by_itself (script_row new.calendar new.items)) in
    let own = layout_of t.Script in
    let has = text-records facts.csv form.Script rows text more (records-wide old bookings rows are) is in
    let of = facts.texts texts new accepted in
    let is_calendar : calendar_in texts ≡ Ok new.calendar = rw of.calendar refl in
    let is_items : items_in texts ≡ Ok new.items = of.items in
    let read : rows_of reads own (text_in texts t.Script) ≡ Ok new.script = sym (rw (is_calendar, is_items) refl) ∙ of.script in
    let from : rows_from reads own [] 1 (rows ++ has.tail) ≡ Ok new.script =
    sym (ap (λ o. o >>= λ (all : Left). rows_from reads own [] all.number all.left) (script-opened (text ++ more) (rows ++ has.tail) has.records)) ∙ ap (rows_of reads own) script ∙ read in
    let on = rows-read facts.numbers old new bookings rows [] new.script 1 has.tail are may from in
    let grow = rows-grow reads own on.rows new.script on.next has.tail on.left in
    record {
      rows = on.rows;
      again = on.again;
      others = grow.0;
      script = grow.1;
      alone = λ none.
          let end : has.tail ≡ [] = nothing-follows has.tail (subst (λ (x : List ℕ). AreRecords default_config st.StartRecord x has.tail) none has.left) in
          let whole : new.script ≡ on.rows = rows-end reads own on.rows new.script on.next (subst (λ (x : List Row). rows_from reads own on.rows on.next x ≡ Ok new.script) end on.left) in
          append-none on.rows grow.0 (sym grow.1 ∙ whole);
    }

same-length : {A B : Type 0} (R : A → B → Type 0) (xs : List A) (ys : List B) → AllZip R xs ys → length ys ≡ length xs
same-length R [] [] all = refl
same-length R [] (y ∷ ys) all = absurd all
same-length R (x ∷ xs) [] all = absurd all
same-length R (x ∷ xs) (y ∷ ys) all = ap (λ n. suc n) (same-length R xs ys all.1)

-- a run may be added at a script's end
run-added : (calls : Script) → (last : Script) × (with_run calls ≡ calls ++ last)
run-added calls = by (list_any (λ r. is_run r.1) calls) refl
  where
    by : (b : Bool) → list_any (λ r. is_run r.1) calls ≡ b → (last : Script) × ((if b then calls else calls ++ (1, call.Snapshot) ∷ []) ≡ calls ++ last)
    by true e = ([], sym (append-nil calls))
    by false e = ((1, call.Snapshot) ∷ [], refl)

-- the first entries of a history that answers such a script
record HasFirst (old new : Tables) (bookings : List Booking) (h : History) : Type 0 where
  legal : IsLegal (supply_of new) (first_entries bookings h)
  entries : AllZip (BooksAgain old new) (enumerate_from 1 bookings) (first_entries bookings h)

first-again : (old new : Tables) (bookings : List Booking) (rows : List ScriptRow) (rest : Script) (h : History) → AllZip (ReadsAgain old new) bookings rows → IsLegal (supply_of new) h → asked h ≡ map record_of rows ++ rest
    → HasFirst old new bookings h
first-again old new bookings rows rest h again legal in_order =
    let s = supply_of new in
    let first = first_entries bookings h in
    let count : length (map record_of rows) ≡ length bookings = length-map rows record_of ∙ same-length (ReadsAgain old new) bookings rows again in
    let calls : asked first ≡ map record_of rows = subst (λ (n : ℕ). asked (take n h) ≡ map record_of rows) count (booked.asked-front (map record_of rows) rest h in_order) in
    let front : IsLegal s first = legal-front s first (drop (length bookings) h) (subst (IsLegal s) (sym (take-append-drop (length bookings) h)) legal) in
    record { legal = front; entries = entries-again s old new [] bookings rows first again calls (InTurn-from_Each (MayFollow s) [] first front) }

pub begins-again : Facts → (old new : Tables) (start : ℕ) (bookings : List Booking) (text more : List ℕ) (texts : List (List ℕ)) (h : History) → AreStanding old bookings → IsText form.Script old start bookings text
    → tables_in texts ≡ Ok new → text ++ more ≡ text_in texts t.Script → AnswersScript new h → BeginsAgain old new (carried start bookings) h
begins-again facts old new start bookings text more texts h stand (rows, are, is) accepted script answers =
    let bs = carried start bookings in
    let read = read-again facts old new bs rows text more texts (writable old start bookings stand) are is accepted script in
    let added = run-added (script_of new) in
    let calls : script_of new ≡ map record_of read.rows ++ map record_of read.others = ap (map record_of) read.script ∙ map-append record_of read.rows read.others in
    let in_order : asked h ≡ map record_of read.rows ++ (map record_of read.others ++ added.0) =
    answers.in_order ∙ added.1 ∙ ap (λ (x : Script). x ++ added.0) calls ∙ append_assoc (map record_of read.rows) (map record_of read.others) added.0 in
    let first = first-again old new bs read.rows (map record_of read.others ++ added.0) h read.again answers.legal in_order in
    record { entries = first.entries; decided = first.legal; stand = λ all. stand-again old new bs (first_entries bs h) first.entries all }

-- In tables of one shop.

there : (tables : Tables) (item : ℕ) → IsMaster (supply_of tables) item → item < length tables.items
there tables item is = elim (cases_lt item (length tables.items)) [
  | inl within ↦ within
  | inr past ↦
      let size : length (map (λ (i : Item). is_master i.class) tables.items) ≡ length tables.items = length-map tables.items (λ (i : Item). is_master i.class) in
      let none = get_or_past (map (λ (i : Item). is_master i.class) tables.items) item false (omega (arith, size, past)) in
      absurd cc
]

apart : (tables : Tables) (one other : ℕ) → AllDiffer (names_of tables.items) → one < other → other < length tables.items → name_at tables one ≡ name_at tables other → ⊥
apart tables one other differ before within same =
    let name = λ (item : ℕ) (inside : item < length tables.items). get_or-map (λ (i : Item). i.name) tables.items item (item_at [] 0) [] inside in
    differ one other [] before (rw length-map within) (name one (omega (arith, before, within)) ∙ same ∙ sym (name other within))

-- items of one name are one
same-item : (tables : Tables) (one other : ℕ) → AllDiffer (names_of tables.items) → one < length tables.items → other < length tables.items → name_at tables one ≡ name_at tables other → one ≡ other
same-item tables one other differ here there same = elim (cases_lt one other) [
  | inl before ↦ absurd (apart tables one other differ before there same)
  | inr behind ↦ elim (cases_lt other one) [
    | inl after ↦ absurd (apart tables other one differ after here (sym same))
    | inr at ↦ omega (arith, behind, at)
  ]
]

week-is : (c : ShopCalendar) (day : Date) (a b : ℕ) → week_of c day ≡ Some a → week_of c day ≡ Some b → a ≡ b
week-is c day a b one other = let same = sym one ∙ other in cc

module _ (old new : Tables) (one : AreOfOneShop old new) (differ : AllDiffer (names_of old.items)) where
  abbrev FitsOld : Booking → Type 0
  FitsOld b = IsLine (supply_of old) b.line

  same-line : (l m : Line) → IsLine (supply_of old) l → IsLine (supply_of new) m → IsSameLine old new l m → m ≡ l
  same-line l m fits-old fits-new same =
      let fits : IsLine (supply_of old) m = subst (λ (x : Supply). IsLine x m) (ap supply_of one) fits-new in
      let name : name_at old m.item ≡ name_at old l.item = sym (ap (λ (x : Tables). name_at x m.item) one) ∙ same.item in
      let item = same-item old m.item l.item differ (there old m.item fits.item) (there old l.item fits-old.item) name in
      let read : week_of old.calendar same.day ≡ Some m.week = subst (λ (c : ShopCalendar). week_of c same.day ≡ Some m.week) (ap (λ (x : Tables). x.calendar) one) same.week in
      let week = week-is old.calendar same.day m.week l.week read (week_of-first_day old.calendar same.day l.week (fits-old.week.0, fits-old.week.1) same.first_day) in
      λ i. record { item = item i; week = week i; quantity = same.quantity i }

  lines-booked : (number : ℕ) (bookings : List Booking) (before h : History) → AllZip (BooksAgain old new) (enumerate_from number bookings) h → IsLegalFrom (supply_of new) before h → All FitsOld bookings
      → AllZip (λ (e : Entry Call Reply) (l : Line). e.call ≡ call.Book l) h (lines_of bookings)
  lines-booked number [] before [] are legal fits = tt
  lines-booked number [] before (e ∷ h) are legal fits = absurd are
  lines-booked number (b ∷ bookings) before [] are legal fits = absurd are
  lines-booked number (b ∷ bookings) before (e ∷ h) (again, are) (follows, legal) fits =
      let own : IsLine (supply_of new) again.line = subst (Fits (supply_of new)) again.call follows.2 in
      let line = same-line b.line again.line (All-head FitsOld b bookings fits) own again.same in
      (again.call ∙ ap call.Book line, lines-booked (number + 1) bookings (before ++ e ∷ []) h are legal (All-tail FitsOld b bookings fits))

  carried-fit : (start : ℕ) (bookings : List Booking) → AreStanding old bookings → All FitsOld (carried start bookings)
  carried-fit start bookings stand = All-filter (is_due_from start) FitsOld bookings (lines-stand old bookings stand)

  -- what is carried is covered
  carried-covered : (start : ℕ) (bookings : List Booking) → AreStanding old bookings → IsCovered (supply_of new) (booked [] ++ lines_of (carried start bookings))
  carried-covered start bookings stand =
      let s = supply_of old in
      let all : IsCovered s (lines_of (bookings ++ [])) = subst (λ (x : List Booking). IsCovered s (lines_of x)) (sym stand.left ∙ sym (append-nil bookings)) (legal-covered s stand.history stand.legal) in
      let some : IsCovered s (lines_of (carried start bookings)) = subst (λ (x : List Booking). IsCovered s (lines_of x)) (append-nil (carried start bookings)) (covered-fewer s (is_due_from start) bookings [] all) in
      let none : booked [] ++ lines_of (carried start bookings) ≡ lines_of (carried start bookings) = ap (λ (x : List Booking). lines_of x ++ lines_of (carried start bookings)) nothing-stands in
      subst (IsCovered (supply_of new)) (sym none) (subst (λ (x : Supply). IsCovered x (lines_of (carried start bookings))) (sym (ap supply_of one)) some)

  -- none is short
  first-booked : (start : ℕ) (bookings : List Booking) (h : History) → AreStanding old bookings → HasFirst old new (carried start bookings) h → All IsBooked (first_entries (carried start bookings) h)
  first-booked start bookings h stand first =
      let bs = carried start bookings in
      let legal = InTurn-from_Each (MayFollow (supply_of new)) [] (first_entries bs h) first.legal in
      none-short (supply_of new) (lines_of bs) [] (first_entries bs h) (lines-booked 1 bs [] (first_entries bs h) first.entries legal (carried-fit start bookings stand)) (carried-covered start bookings stand) legal

  -- a booking of the same desk and line
  record IsSame (b again : Booking) : Type 0 where
    desk : again.desk ≡ b.desk
    line : again.line ≡ b.line

  stand-same : (number : ℕ) (bookings again : List Booking) → AllZip (StandsAgain old new) (enumerate_from number bookings) again → All FitsOld bookings → All (λ (b : Booking). IsLine (supply_of new) b.line) again → AllZip IsSame bookings again
  stand-same number [] [] are fits own = tt
  stand-same number [] (a ∷ again) are fits own = absurd are
  stand-same number (b ∷ bookings) [] are fits own = absurd are
  stand-same number (b ∷ bookings) (a ∷ again) (is, are) fits own = (
    record { desk = is.desk; line = same-line b.line a.line (All-head FitsOld b bookings fits) (All-head (λ (b : Booking). IsLine (supply_of new) b.line) a again own) is.same },
    stand-same (number + 1) bookings again are (All-tail FitsOld b bookings fits) (All-tail (λ (b : Booking). IsLine (supply_of new) b.line) a again own),
  )

  -- all of them are carried
  carried-again : (start : ℕ) (bookings again : List Booking) → All (λ (b : Booking). is_due_from start b ≡ true) bookings → AllZip IsSame bookings again → carried start again ≡ again
  carried-again start [] [] due are = refl
  carried-again start [] (a ∷ again) due are = absurd are
  carried-again start (b ∷ bookings) [] due are = absurd are
  carried-again start (b ∷ bookings) (a ∷ again) due (is, are) =
      let own : is_due_from start a ≡ true = ap (λ (l : Line). nat_le start l.week) is.line ∙ All-head (λ (b : Booking). is_due_from start b ≡ true) b bookings due in
      rw own (ap (λ (x : List Booking). a ∷ x) (carried-again start bookings again (All-tail (λ (b : Booking). is_due_from start b ≡ true) b bookings due) are))

  record-same : (b a : Booking) (cells again : Row) → IsSame b a → IsRecordOf old b cells → IsRecordOf new a again → again ≡ cells
  record-same b a cells again same (day, first, is) (day_again, first_again, is_again) =
      let calendar = ap (λ (x : Tables). x.calendar) one in
      let on : epoch_day day_again ≡ epoch_day day =
      first_again ∙ ap (λ (c : ShopCalendar). first_day_of c a.line.week) calendar ∙ ap (λ (l : Line). first_day_of old.calendar l.week) same.line ∙ sym first in
      let parts = epoch_day_injective day_again day on in
      let same_day : day_again ≡ day = same_parts day_again day parts.0 parts.1 parts.2 in
      let name : name_at new a.line.item ≡ name_at old b.line.item = ap (λ (x : Tables). name_at x a.line.item) one ∙ ap (λ (l : Line). name_at old l.item) same.line in
      is_again ∙ (λ i. decimal (same.desk i) ∷ codes "book" ∷ name i ∷ date_text (same_day i) ∷ decimal (same.line i).quantity ∷ [] ∷ []) ∙ sym is

  rows-same : (bookings again : List Booking) (rows rows_again : List Row) → AllZip IsSame bookings again → AllZip (IsRecordOf old) bookings rows → AllZip (IsRecordOf new) again rows_again → rows_again ≡ rows
  rows-same [] [] [] [] same are others = refl
  rows-same [] [] [] (r ∷ rows_again) same are others = absurd others
  rows-same [] [] (r ∷ rows) rows_again same are others = absurd are
  rows-same [] (a ∷ again) rows rows_again same are others = absurd same
  rows-same (b ∷ bookings) [] rows rows_again same are others = absurd same
  rows-same (b ∷ bookings) (a ∷ again) [] rows_again same are others = absurd are
  rows-same (b ∷ bookings) (a ∷ again) (r ∷ rows) [] same are others = absurd others
  rows-same (b ∷ bookings) (a ∷ again) (r ∷ rows) (q ∷ rows_again) (is, same) (own, are) (other, others) =
      let first = record-same b a r q is own other in
      let rest = rows-same bookings again rows rows_again same are others in
      λ i. first i ∷ rest i

each-due : (start : ℕ) (bookings : List Booking) → All (λ (b : Booking). is_due_from start b ≡ true) (carried start bookings)
each-due start bookings = filter_passes (is_due_from start) bookings

-- what the script alone has as its text
alone-again : Facts → (old new : Tables) (start : ℕ) (bookings : List Booking) (text : List ℕ) (texts : List (List ℕ)) → AreStanding old bookings → IsText form.Script old start bookings text
    → tables_in texts ≡ Ok new → text ≡ text_in texts t.Script → (rows : List ScriptRow) × AllZip (ReadsAgain old new) (carried start bookings) rows × (new.script ≡ rows)
alone-again facts old new start bookings text texts stand (rows, are, is) accepted script =
    let bs = carried start bookings in
    let read = read-again facts old new bs rows text [] texts (writable old start bookings stand) are is accepted (append-nil text ∙ script) in
    (read.rows, read.again, read.script ∙ ap (λ (x : List ScriptRow). read.rows ++ x) (read.alone refl) ∙ append-nil read.rows)

pub same-booked : Facts → (old new : Tables) (start : ℕ) (bookings : List Booking) (text : List ℕ) (texts : List (List ℕ)) (h : History) → AllDiffer (names_of old.items) → AreStanding old bookings
    → IsText form.Script old start bookings text → tables_in texts ≡ Ok new → text ≡ text_in texts t.Script → AreOfOneShop old new → AnswersScript new h → All IsBooked (first_entries (carried start bookings) h)
same-booked facts old new start bookings text texts h differ stand is accepted script one answers =
    let (rows, again, whole) = alone-again facts old new start bookings text texts stand is accepted script in
    let added = run-added (script_of new) in
    let in_order = answers.in_order ∙ added.1 ∙ ap (λ (x : List ScriptRow). map record_of x ++ added.0) whole in
    first-booked old new one differ start bookings h stand (first-again old new (carried start bookings) rows added.0 h again answers.legal in_order)

pub same-text : Facts → (old new : Tables) (start : ℕ) (bookings again : List Booking) (text text_again : List ℕ) (texts : List (List ℕ)) → AllDiffer (names_of old.items) → AreStanding old bookings
    → IsText form.Script old start bookings text → tables_in texts ≡ Ok new → text ≡ text_in texts t.Script → AreOfOneShop old new → AreStanding new again → IsText form.Script new start again text_again → text_again ≡ text
same-text facts old new start bookings again text text_again texts differ stand (rows, are, is) accepted script one stand_again (rows_again, are_again, is_again) =
    let bs = carried start bookings in
    let h = stand_again.history in
    let (read, reads, whole) = alone-again facts old new start bookings text texts stand (rows, are, is) accepted script in
    let in_order = stand_again.in_order ∙ ap (map record_of) whole ∙ sym (append-nil (map record_of read)) in
    let first = first-again old new bs read [] h reads stand_again.legal in_order in
    let count : length h ≤ length bs =
    omega (arith, ap (length {A = ℕ × Call}) stand_again.in_order, length-map {B = ℕ × Call} h (λ (e : Entry Call Reply). (e.who, e.call)), ap (length {A = ScriptRow}) whole, length-map new.script record_of, same-length (ReadsAgain old new) bs read reads) in
    let all : first_entries bs h ≡ h = take_all (length bs) h count in
    let behind = stand-again old new bs (first_entries bs h) first.entries (first-booked old new one differ start bookings h stand first) in
    let own : AllZip (StandsAgain old new) (enumerate_from 1 bs) again = subst (AllZip (StandsAgain old new) (enumerate_from 1 bs)) (ap standing all ∙ sym stand_again.left) behind in
    let same = stand-same old new one differ 1 bs again own (carried-fit old new one differ start bookings stand) (lines-stand new again stand_again) in
    let carries : carried start again ≡ again = carried-again old new one differ start bs again (each-due start bookings) same in
    let rows_are = rows-same old new one differ bs again rows rows_again same are (subst (λ (x : List Booking). AllZip (IsRecordOf new) x rows_again) carries are_again) in
    is_again ∙ ap (λ (x : List Row). row (columns_of form.Script) ++ flat_map row x) rows_are ∙ sym is
