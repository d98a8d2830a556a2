-- What holds of accepted tables, by the definitions alone.
use Rattle.std.proofs.Common.{◌≡◌, ◌⊎◌, ◌≤◌, ℕ, List, [], ◌∷◌, ◌++◌, Result, Ok, Err, inl, inr, refl, sym, subst, ◌∙◌, arith, length}
use Rattle.std.specs.Prelude.{All, nat_eq, nat_lt, ◌&&◌}
use Rattle.std.specs.Cmp.{nat_eq_equiv}
use Rattle.std.specs.Cmp.Lexicographic.{nat_list_eq_equiv, pointwise}
use Rattle.std.specs.List.{list_any}
use Rattle.std.proofs.lemmas.List.Elements.{All-append, All-cons, All-nil}
use Rattle.mrp_qty.specs.Reading.{◌>>=◌}
use Rattle.mrp_cal.specs.Calendar.{ShopCalendar}
use Rattle.mrp_rows.specs.Bundle.{text_in}
use Rattle.mrp_rows.specs.Columns.{Layout, layout_of}
use Rattle.mrp_rows.specs.Cell.{fault_at}
use Rattle.mrp_rows.specs.declared.fault.Fault.{Fault}
use Rattle.mrp_rows.specs.declared.faults.TheConstants as faults
use Rattle.mrp_rows.specs.declared.fault.Table.{Table}
use Rattle.mrp_rows.specs.declared.fault.Table.TheVariants as t
use Rattle.mrp_rows.specs.Left.{Cells}
use Rattle.mrp_rows.specs.Next.{next_number, opened}
use Rattle.mrp_rows.proofs.TextLaws.{whole_step}
use Rattle.mrp_tables.specs.declared.limits.TheConstants as limits
use Rattle.mrp_tables.specs.declared.calendar.CalendarTable.{CalendarTable}
use Rattle.mrp_tables.specs.declared.item.Item.{Item}
use Rattle.mrp_tables.specs.declared.version.Version.{Version}
use Rattle.mrp_tables.specs.declared.rows.Centre.{Centre}
use Rattle.mrp_tables.specs.declared.rows.MasterRow.{MasterRow}
use Rattle.mrp_tables.specs.declared.rows.Operation.{Operation}
use Rattle.mrp_tables.specs.declared.rows.Receipt.{Receipt}
use Rattle.mrp_tables.specs.declared.rows.StockRow.{StockRow}
use Rattle.mrp_tables.specs.Bills.{bill_row}
use Rattle.mrp_tables.specs.Centres.{centre_cells, centre_names, centre_row}
use Rattle.mrp_tables.specs.Facts.{AllDiffer, IsBillLine, IsCentre, IsItem, IsMasterRow, IsMasterRowIfAny, IsOperation, IsReceipt, IsReceiptIfAny, IsScriptRow, IsStockRow, NumbersRise, RowsRise}
use Rattle.mrp_tables.specs.Items.{is_master, item_cells, item_row, names_of}
use Rattle.mrp_tables.specs.Laws.{HasOneReading, IsReportedAtItsTable}
use Rattle.mrp_tables.specs.Master.{master_row, that_count}
use Rattle.mrp_tables.specs.Readers.{by_centres, by_dates, by_items, by_version, calendar_in, calendar_table_in, centres_in, items_in, version_in}
use Rattle.mrp_tables.specs.Reading.{Reads, admitted, by_itself, reads_of, rows_from, rows_of}
use Rattle.mrp_tables.specs.Receipts.{orders_of, receipt_row, receipts_that_count}
use Rattle.mrp_tables.specs.Routings.{operation_row, operations_of}
use Rattle.mrp_tables.specs.Script.{script_row}
use Rattle.mrp_tables.specs.Stock.{items_in_stock, stock_cells, stock_row}
use Rattle.mrp_tables.specs.Versions.{items_layout, most_lead}
use Rattle.mrp_tables.specs.Tables.{AreTables, Tables, tables_in}
use Rattle.mrp_tables.proofs.AcceptedTables.{of_their_texts}
use Rattle.mrp_tables.proofs.CellsRead.{past_check, same_value, unless}
use Rattle.mrp_tables.proofs.Counting.{counted}
use Rattle.mrp_tables.proofs.Distinct.{grown_field, same_operation_equiv, same_order_equiv}
use Rattle.mrp_tables.proofs.Kept.{kept, kept-count, kept_orders, kept_receipts, kept_receipts-count}
use Rattle.mrp_tables.proofs.RecordsRead.{is_bill_line, is_centre, is_item, item_lead, is_master_row, is_placed, is_routed, is_script_row, is_stock_row}
use Rattle.mrp_tables.proofs.Rising.{master_rises, receipts_rise}
use Rattle.mrp_tables.proofs.Stocked.{more_items}
use Rattle.mrp_tables.proofs.TellingTables.{reported_at_its_table}

-- what holds of no row, and of one row more that is read, holds of all
kept_from : {X : Type 0} (Are : List X → Type 0) (read : Reads X) → ((before : List X) (r : Cells) (x : X) → Are before → read.row before r ≡ Ok x → Are (before ++ x ∷ []))
    → (own : Layout) (before : List X) (number : ℕ) (left : List (List (List ℕ))) (rows : List X) → Are before → rows_from read own before number left ≡ Ok rows → Are rows
unfolding rows_from
kept_from Are read more own before number [] rows are e = subst Are (same_value before rows (Ok before) refl e) are
kept_from Are read more own before number (cells ∷ rest) rows are e =
    let r = whole_step (admitted (read.limit before) own (record { table = own.table; number = number; cells = cells })) _ rows e in
    let x = whole_step (read.row before r.0) _ rows r.2 in
    kept_from Are read more own (before ++ x.0 ∷ []) (next_number number) rest rows (more before r.0 x.0 are x.1) x.2

kept_of : {X : Type 0} (Are : List X → Type 0) (read : Reads X) → ((before : List X) (r : Cells) (x : X) → Are before → read.row before r ≡ Ok x → Are (before ++ x ∷ []))
    → (own : Layout) (text : List ℕ) (rows : List X) → Are [] → rows_of read own text ≡ Ok rows → Are rows
kept_of Are read more own text rows none e =
    let all = whole_step (opened own text) _ rows e in
    kept_from Are read more own [] all.0.number all.0.left rows none all.2

with_one : {X : Type 0} (Is : X → Type 0) (xs : List X) (x : X) → All Is xs → Is x → All Is (xs ++ x ∷ [])
with_one Is xs x all is = All-append Is xs (x ∷ []) all (All-cons Is x [] is (All-nil Is))

each_kept : {X : Type 0} (Is : X → Type 0) (read : Reads X) → ((before : List X) (r : Cells) (x : X) → read.row before r ≡ Ok x → Is x)
    → (own : Layout) (text : List ℕ) (rows : List X) → rows_of read own text ≡ Ok rows → All Is rows
each_kept Is read one own text rows e = kept_of (All Is) read (λ before r x all given. with_one Is before x all (one before r x given)) own text rows (All-nil Is) e

none_differ : {X : Type 0} → AllDiffer {X = X} []
none_differ = λ i j d less within same. absurd (omega (arith, within))

-- the items, with names that differ and lead times of their version
record AreItems (version : Version) (items : List Item) : Type 0 where
  within : All IsItem items
  leads : All (λ item. item.lead ≤ most_lead version) items
  names : AllDiffer (names_of items)

one_item : (version : Version) (before : List Item) (r : Cells) (item : Item) → AreItems version before → item_row version before r ≡ Ok item → AreItems version (before ++ item ∷ [])
one_item version before r item are e =
    let read = whole_step (item_cells version r) _ item e in
    let new = past_check (list_any (pointwise nat_eq read.0.name) (names_of before)) (fault_at r faults.REPEATED) _ item read.2 in
    let last = unless (is_master read.0.class && nat_lt 0 read.0.safety) (fault_at r faults.MASTER_SAFETY) read.0 item new.1 in
    subst (λ (x : Item). AreItems version (before ++ x ∷ [])) last.1 (record {
      within = more_items before read.0 are.within (is_item version r read.0 read.1) last.0;
      leads = with_one (λ (x : Item). x.lead ≤ most_lead version) before read.0 are.leads (item_lead version r read.0 read.1);
      names = grown_field nat_list_eq_equiv (λ (i : Item). i.name) before (before ++ read.0 ∷ []) read.0 refl are.names new.0;
    })

are_items : (version : Version) (text : List ℕ) (items : List Item) → rows_of (reads_of t.Items (item_row version)) (items_layout version) text ≡ Ok items → AreItems version items
are_items version text items e =
    kept_of (AreItems version) (reads_of t.Items (item_row version)) (one_item version) (items_layout version) text items
    (record { within = All-nil IsItem; leads = All-nil (λ (x : Item). x.lead ≤ most_lead version); names = none_differ }) e

-- those of a bundle, by its version
beside_version : (texts : List (List ℕ)) (table : CalendarTable) (items : List Item) → calendar_table_in texts ≡ Ok table → items_in texts ≡ Ok items
    → rows_of (reads_of t.Items (item_row table.version)) (items_layout table.version) (text_in texts t.Items) ≡ Ok items
beside_version texts table items is e = sym (rw is refl) ∙ e

-- the centres, with names that differ
record AreCentres (centres : List Centre) : Type 0 where
  within : All IsCentre centres
  differ : AllDiffer (centre_names centres)

one_centre : (before : List Centre) (r : Cells) (centre : Centre) → AreCentres before → centre_row before r ≡ Ok centre → AreCentres (before ++ centre ∷ [])
one_centre before r centre are e =
    let read = whole_step (centre_cells r) _ centre e in
    let last = unless (list_any (pointwise nat_eq read.0.name) (centre_names before)) (fault_at r faults.REPEATED) read.0 centre read.2 in
    subst (λ (x : Centre). AreCentres (before ++ x ∷ [])) last.1 (record {
      within = with_one IsCentre before read.0 are.within (is_centre r read.0 read.1);
      differ = grown_field nat_list_eq_equiv (λ (k : Centre). k.name) before (before ++ read.0 ∷ []) read.0 refl are.differ last.0;
    })

are_centres : (text : List ℕ) (centres : List Centre) → rows_of (reads_of t.Centres centre_row) (layout_of t.Centres) text ≡ Ok centres → AreCentres centres
are_centres text centres e = kept_of AreCentres (reads_of t.Centres centre_row) one_centre (layout_of t.Centres) text centres (record { within = All-nil IsCentre; differ = none_differ }) e

-- the operations, with numbers that differ by item
record AreOperations (items : List Item) (centres : List Centre) (rows : List Operation) : Type 0 where
  within : All (IsOperation items centres) rows
  differ : AllDiffer (operations_of rows)

one_operation : (items : List Item) (centres : List Centre) (before : List Operation) (r : Cells) (row : Operation)
    → AreOperations items centres before → operation_row items centres before r ≡ Ok row → AreOperations items centres (before ++ row ∷ [])
one_operation items centres before r row are e =
    let is = is_routed items centres (operations_of before) r row e in
    record {
      within = with_one (IsOperation items centres) before row are.within is.within;
      differ = grown_field same_operation_equiv (λ (o : Operation). (o.item, o.operation)) before (before ++ row ∷ []) row refl are.differ is.fresh;
    }

are_operations : (items : List Item) (centres : List Centre) (text : List ℕ) (rows : List Operation) → rows_of (reads_of t.Routings (operation_row items centres)) (layout_of t.Routings) text ≡ Ok rows → AreOperations items centres rows
are_operations items centres text rows e =
    kept_of (AreOperations items centres) (reads_of t.Routings (operation_row items centres)) (one_operation items centres) (layout_of t.Routings) text rows
    (record { within = All-nil (IsOperation items centres); differ = none_differ }) e

-- the stock, with items that differ
record AreStock (items : List Item) (rows : List StockRow) : Type 0 where
  within : All (IsStockRow items) rows
  stocked : AllDiffer (items_in_stock rows)

one_stocked : (items : List Item) (before : List StockRow) (r : Cells) (row : StockRow) → AreStock items before → stock_row items before r ≡ Ok row → AreStock items (before ++ row ∷ [])
one_stocked items before r row are e =
    let read = whole_step (stock_cells items r) _ row e in
    let last = unless (list_any (nat_eq read.0.item) (items_in_stock before)) (fault_at r faults.REPEATED) read.0 row read.2 in
    subst (λ (x : StockRow). AreStock items (before ++ x ∷ [])) last.1 (record {
      within = with_one (IsStockRow items) before read.0 are.within (is_stock_row items r read.0 read.1);
      stocked = grown_field nat_eq_equiv (λ (s : StockRow). s.item) before (before ++ read.0 ∷ []) read.0 refl are.stocked last.0;
    })

are_stock : (items : List Item) (text : List ℕ) (rows : List StockRow) → rows_of (reads_of t.Stock (stock_row items)) (layout_of t.Stock) text ≡ Ok rows → AreStock items rows
are_stock items text rows e = kept_of (AreStock items) (reads_of t.Stock (stock_row items)) (one_stocked items) (layout_of t.Stock) text rows (record { within = All-nil (IsStockRow items); stocked = none_differ }) e

-- the open receipts, with orders that differ
record AreReceipts (calendar : ShopCalendar) (items : List Item) (rows : List Receipt) : Type 0 where
  within : All (IsReceiptIfAny calendar.weeks items) rows
  ordered : AllDiffer (orders_of rows)

one_receipt : (calendar : ShopCalendar) (items : List Item) (before : List Receipt) (r : Cells) (row : Receipt)
    → AreReceipts calendar items before → receipt_row calendar items before r ≡ Ok row → AreReceipts calendar items (before ++ row ∷ [])
one_receipt calendar items before r row are e =
    let is = is_placed calendar items (orders_of before) r row e in
    record {
      within = with_one (IsReceiptIfAny calendar.weeks items) before row are.within is.within;
      ordered = grown_field same_order_equiv (λ (x : Receipt). (x.item, x.order)) before (before ++ row ∷ []) row refl are.ordered is.fresh;
    }

are_receipts : (calendar : ShopCalendar) (items : List Item) (text : List ℕ) (rows : List Receipt) → rows_of (reads_of t.Receipts (receipt_row calendar items)) (layout_of t.Receipts) text ≡ Ok rows → AreReceipts calendar items rows
are_receipts calendar items text rows e =
    kept_of (AreReceipts calendar items) (reads_of t.Receipts (receipt_row calendar items)) (one_receipt calendar items) (layout_of t.Receipts) text rows
    (record { within = All-nil (IsReceiptIfAny calendar.weeks items); ordered = none_differ }) e

-- a table that refers to these
beside_items : {X : Type 0} (texts : List (List ℕ)) (own : Table) (reads : List Item → Reads X) (items : List Item) (rows : List X) → items_in texts ≡ Ok items
    → (by_items texts reads >>= λ read. rows_of read (layout_of own) (text_in texts own)) ≡ Ok rows → rows_of (reads items) (layout_of own) (text_in texts own) ≡ Ok rows
beside_items texts own reads items rows is e = sym (rw is refl) ∙ e

beside_dates : {X : Type 0} (texts : List (List ℕ)) (own : Table) (reads : ShopCalendar → List Item → Reads X) (calendar : ShopCalendar) (items : List Item) (rows : List X)
    → calendar_in texts ≡ Ok calendar → items_in texts ≡ Ok items
    → (by_dates texts reads >>= λ read. rows_of read (layout_of own) (text_in texts own)) ≡ Ok rows → rows_of (reads calendar items) (layout_of own) (text_in texts own) ≡ Ok rows
beside_dates {X} texts own reads calendar items rows is_calendar is_items e =
    let same : (by_dates texts reads >>= λ read. rows_of read (layout_of own) (text_in texts own)) ≡ rows_of (reads calendar items) (layout_of own) (text_in texts own) = rw (is_calendar, is_items) refl in
    sym same ∙ e

beside_version_dates : {X : Type 0} (texts : List (List ℕ)) (own : Table) (reads : Version → ShopCalendar → List Item → Reads X) (version : Version) (calendar : ShopCalendar) (items : List Item) (rows : List X)
    → version_in texts ≡ Ok version → calendar_in texts ≡ Ok calendar → items_in texts ≡ Ok items
    → (by_version texts reads >>= λ read. rows_of read (layout_of own) (text_in texts own)) ≡ Ok rows → rows_of (reads version calendar items) (layout_of own) (text_in texts own) ≡ Ok rows
beside_version_dates {X} texts own reads version calendar items rows is_version is_calendar is_items e =
    let same : (by_version texts reads >>= λ read. rows_of read (layout_of own) (text_in texts own)) ≡ rows_of (reads version calendar items) (layout_of own) (text_in texts own) = rw (is_items, is_calendar, is_version) refl in
    sym same ∙ e

beside_centres : {X : Type 0} (texts : List (List ℕ)) (own : Table) (reads : List Item → List Centre → Reads X) (items : List Item) (centres : List Centre) (rows : List X)
    → items_in texts ≡ Ok items → centres_in texts ≡ Ok centres
    → (by_centres texts reads >>= λ read. rows_of read (layout_of own) (text_in texts own)) ≡ Ok rows → rows_of (reads items centres) (layout_of own) (text_in texts own) ≡ Ok rows
beside_centres {X} texts own reads items centres rows is_items is_centres e =
    let same : (by_centres texts reads >>= λ read. rows_of read (layout_of own) (text_in texts own)) ≡ rows_of (reads items centres) (layout_of own) (text_in texts own) = rw (is_items, is_centres) refl in
    sym same ∙ e

-- the open receipts that have pieces
record AreReceiptsKept (calendar : ShopCalendar) (items : List Item) (rows : List Receipt) : Type 0 where
  within : All (IsReceipt calendar.weeks items) rows
  numbered : NumbersRise rows
  ordered : AllDiffer (orders_of rows)
  count : length rows ≤ limits.MOST_ROWS

receipts_kept : (texts : List (List ℕ)) (calendar : ShopCalendar) (items : List Item) (rows : List Receipt) → calendar_in texts ≡ Ok calendar → items_in texts ≡ Ok items
    → ((by_dates texts (λ calendar items. reads_of t.Receipts (receipt_row calendar items)) >>= λ read. rows_of read (layout_of t.Receipts) (text_in texts t.Receipts)) >>= λ rows. Ok (receipts_that_count rows)) ≡ Ok rows → AreReceiptsKept calendar items rows
receipts_kept texts calendar items rows is_calendar is_items e =
    let text = text_in texts t.Receipts in
    let all = whole_step (by_dates texts (λ calendar items. reads_of t.Receipts (receipt_row calendar items)) >>= λ read. rows_of read (layout_of t.Receipts) (text_in texts t.Receipts)) _ rows e in
    let read = beside_dates texts t.Receipts (λ calendar items. reads_of t.Receipts (receipt_row calendar items)) calendar items all.0 is_calendar is_items all.1 in
    let are = are_receipts calendar items text all.0 read in
    let few = counted (reads_of t.Receipts (receipt_row calendar items)) (layout_of t.Receipts) text all.0 limits.MOST_ROWS (omega arith) (λ before. refl) read in
    let fewer = kept_receipts-count all.0 in
    subst (AreReceiptsKept calendar items) (same_value (receipts_that_count all.0) rows (Ok (receipts_that_count all.0)) refl all.2) (record {
      within = kept_receipts calendar.weeks items all.0 are.within;
      numbered = receipts_rise calendar items text all.0 read;
      ordered = kept_orders all.0 are.ordered;
      count = omega (arith, few, fewer);
    })

-- the rows of the master schedule that have pieces
record AreMasterKept (calendar : ShopCalendar) (items : List Item) (rows : List MasterRow) : Type 0 where
  within : All (IsMasterRow calendar.weeks items) rows
  numbered : RowsRise rows
  count : length rows ≤ limits.MOST_ROWS

master_kept : (texts : List (List ℕ)) (version : Version) (calendar : ShopCalendar) (items : List Item) (rows : List MasterRow)
    → version_in texts ≡ Ok version → calendar_in texts ≡ Ok calendar → items_in texts ≡ Ok items
    → ((by_version texts (λ version calendar items. reads_of t.Master (by_itself (master_row version calendar items))) >>= λ read. rows_of read (layout_of t.Master) (text_in texts t.Master)) >>= λ rows. Ok (that_count rows)) ≡ Ok rows → AreMasterKept calendar items rows
master_kept texts version calendar items rows is_version is_calendar is_items e =
    let text = text_in texts t.Master in
    let all = whole_step (by_version texts (λ version calendar items. reads_of t.Master (by_itself (master_row version calendar items))) >>= λ read. rows_of read (layout_of t.Master) (text_in texts t.Master)) _ rows e in
    let read = beside_version_dates texts t.Master (λ version calendar items. reads_of t.Master (by_itself (master_row version calendar items))) version calendar items all.0 is_version is_calendar is_items all.1 in
    let are = each_kept (IsMasterRowIfAny calendar.weeks items) (reads_of t.Master (by_itself (master_row version calendar items))) (λ before. is_master_row version calendar items) (layout_of t.Master) text all.0 read in
    let few = counted (reads_of t.Master (by_itself (master_row version calendar items))) (layout_of t.Master) text all.0 limits.MOST_ROWS (omega arith) (λ before. refl) read in
    let fewer = kept-count all.0 in
    subst (AreMasterKept calendar items) (same_value (that_count all.0) rows (Ok (that_count all.0)) refl all.2) (record {
      within = kept calendar.weeks items all.0 are;
      numbered = master_rises version calendar items text all.0 read;
      count = omega (arith, few, fewer);
    })

pub are_tables : (texts : List (List ℕ)) (tables : Tables) → tables_in texts ≡ Ok tables → AreTables tables
are_tables texts tables e =
    let own = of_their_texts texts tables e in
    let calendar = tables.calendar in
    let items = tables.items in
    let table : CalendarTable = record { version = tables.version; calendar = calendar } in
    let own_version : version_in texts ≡ Ok tables.version = rw own.calendar refl in
    let own_calendar : calendar_in texts ≡ Ok calendar = rw own.calendar refl in
    let own_items = beside_version texts table items own.calendar own.items in
    let item_facts = are_items tables.version (text_in texts t.Items) items own_items in
    let centres = are_centres (text_in texts t.Centres) tables.centres own.centres in
    let routed = beside_centres texts t.Routings (λ items centres. reads_of t.Routings (operation_row items centres)) items tables.centres tables.routings own.items own.centres own.routings in
    let operations = are_operations items tables.centres (text_in texts t.Routings) tables.routings routed in
    let stock = are_stock items (text_in texts t.Stock) tables.stock (beside_items texts t.Stock (λ items. reads_of t.Stock (stock_row items)) items tables.stock own.items own.stock) in
    let receipts = receipts_kept texts calendar items tables.receipts own_calendar own.items own.receipts in
    let lines = beside_items texts t.Bills (λ items. reads_of t.Bills (by_itself (bill_row items))) items tables.bills own.items own.bills in
    let master = master_kept texts tables.version calendar items tables.master own_version own_calendar own.items own.master in
    let calls = beside_dates texts t.Script (λ calendar items. reads_of t.Script (by_itself (script_row calendar items))) calendar items tables.script own_calendar own.items own.script in
    record {
      items = item_facts.within;
      leads = item_facts.leads;
      names = item_facts.names;
      item_count = counted (reads_of t.Items (item_row tables.version)) (items_layout tables.version) (text_in texts t.Items) items limits.MOST_ITEMS (omega arith) (λ before. refl) own_items;
      centres = centres.within;
      centres_differ = centres.differ;
      centre_count = counted (reads_of t.Centres centre_row) (layout_of t.Centres) (text_in texts t.Centres) tables.centres limits.MOST_CENTRES (omega arith) (λ before. refl) own.centres;
      stock = stock.within;
      stocked = stock.stocked;
      receipts = receipts.within;
      numbered = receipts.numbered;
      ordered = receipts.ordered;
      receipt_count = receipts.count;
      bills = each_kept (IsBillLine items) (reads_of t.Bills (by_itself (bill_row items))) (λ before. is_bill_line items) (layout_of t.Bills) (text_in texts t.Bills) tables.bills lines;
      line_count = counted (reads_of t.Bills (by_itself (bill_row items))) (layout_of t.Bills) (text_in texts t.Bills) tables.bills limits.MOST_ROWS (omega arith) (λ before. refl) lines;
      routings = operations.within;
      routed = operations.differ;
      operation_count = counted (reads_of t.Routings (operation_row items tables.centres)) (layout_of t.Routings) (text_in texts t.Routings) tables.routings limits.MOST_OPERATIONS (omega arith) (λ before. refl) routed;
      master = master.within;
      scheduled = master.numbered;
      master_count = master.count;
      script = each_kept (IsScriptRow calendar.weeks items) (reads_of t.Script (by_itself (script_row calendar items))) (λ before. is_script_row calendar items) (layout_of t.Script) (text_in texts t.Script) tables.script calls;
      script_count = counted (reads_of t.Script (by_itself (script_row calendar items))) (layout_of t.Script) (text_in texts t.Script) tables.script limits.MOST_ROWS (omega arith) (λ before. refl) calls;
    }

-- texts have tables or a fault
same_fault : (f g : Fault) (r : Result Tables Fault) → r ≡ Err f → r ≡ Err g → f ≡ g
same_fault f g r is e = cc

not_both : (tables : Tables) (f : Fault) (r : Result Tables Fault) → r ≡ Ok tables → r ≡ Err f → ⊥
not_both tables f r is e = absurd cc

pub one_reading : (texts : List (List ℕ)) → HasOneReading texts
one_reading texts = record {
  either = by (tables_in texts) refl;
  tables = λ a b. same_value a b (tables_in texts);
  faults = λ f g. same_fault f g (tables_in texts);
  apart = λ tables f. not_both tables f (tables_in texts);
}
  where
    by : (r : Result Tables Fault) → tables_in texts ≡ r
        → ((tables : Tables) × (tables_in texts ≡ Ok tables) × AreTables tables) ⊎ ((f : Fault) × (tables_in texts ≡ Err f) × IsReportedAtItsTable texts f)
    by (Ok tables) e = inl (tables, e, are_tables texts tables e)
    by (Err f) e = inr (f, e, reported_at_its_table texts f e)
