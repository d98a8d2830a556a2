-- What holds of a record's row that was read.
use Rattle.std.proofs.Common.{◌≡◌, ◌≤◌, ℕ, Bool, true, false, List, Result, Ok, refl, sym, subst, ap, arith}
use Rattle.std.specs.Prelude.{if◌then◌else◌, nat_lt, not, ◌==◌}
use Rattle.std.specs.Int.{IsInRange}
use Rattle.std.specs.List.{list_any}
use Rattle.std.proofs.lemmas.Bool.{eqb-true}
use Rattle.std.proofs.lemmas.Grind.{common_steps}
use Rattle.jiff.specs.Types.{Date}
use Rattle.mrp_cal.specs.Calendar.{ShopCalendar, week_of}
use Rattle.mrp_rows.specs.declared.fault.Fault.{Fault}
use Rattle.mrp_rows.specs.declared.faults.TheConstants as faults
use Rattle.mrp_rows.specs.Cell.{blame, cell_at, date_cell, fault_at, name_of, number_cell, or_code, word_of}
use Rattle.mrp_rows.specs.Left.{Cells}
use Rattle.mrp_rows.proofs.TextLaws.{whole_step}
use Rattle.mrp_tables.specs.declared.limits.TheConstants as limits
use Rattle.mrp_tables.specs.declared.item.Item.{Item}
use Rattle.mrp_tables.specs.declared.item.LotRule.TheVariants.{Fixed, LotForLot, Period}
use Rattle.mrp_tables.specs.declared.receipts.OpenOrder.{OpenOrder}
use Rattle.mrp_tables.specs.declared.rows.BillLine.{BillLine}
use Rattle.mrp_tables.specs.declared.rows.Centre.{Centre}
use Rattle.mrp_tables.specs.declared.rows.MasterRow.{MasterRow}
use Rattle.mrp_tables.specs.declared.rows.Operation.{Operation}
use Rattle.mrp_tables.specs.declared.rows.Receipt.{Receipt}
use Rattle.mrp_tables.specs.declared.routings.RoutingLine.{RoutingLine}
use Rattle.mrp_tables.specs.declared.rows.ScriptCall.{ScriptCall}
use Rattle.mrp_tables.specs.declared.rows.ScriptCall.TheVariants as call
use Rattle.mrp_tables.specs.declared.rows.ScriptRow.{ScriptRow}
use Rattle.mrp_tables.specs.declared.rows.StockRow.{StockRow}
use Rattle.mrp_tables.specs.declared.version.Version.{Version}
use Rattle.mrp_tables.specs.declared.version.Version.TheVariants.{One, Two, Three}
use Rattle.mrp_tables.specs.Bills.{bill_row}
use Rattle.mrp_tables.specs.Centres.{centre_cells, known_centre}
use Rattle.mrp_tables.specs.Facts.{IsBillLine, IsCentre, IsItemUnlessStocked, IsMasterItem, IsMasterRowIfAny, IsOpenOrder, IsOperation, IsReceiptIfAny, IsRoutingLine, IsScriptCall, IsScriptRow, IsStockRow}
use Rattle.mrp_tables.specs.Items.{class_at, class_words, greatest_size, is_master_at, item_at, item_cells, known, least_cell, least_size, lot_at, step_cell}
use Rattle.mrp_tables.specs.Limits.{call_words, lot_words}
use Rattle.mrp_tables.specs.Master.{class_fault, has_kind, kind_at, master_row}
use Rattle.mrp_tables.specs.Receipts.{order_cells, order_checked, receipt_beside, receipt_placed, same_order}
use Rattle.mrp_tables.specs.Routings.{operation_beside, routing_cells, routing_checked, routing_placed, same_operation}
use Rattle.mrp_tables.specs.Script.{ask_cells, book_cells, call_at, cancel_cells, mastered, script_row, spot_of, when_cells}
use Rattle.mrp_tables.specs.Stock.{stock_cells}
use Rattle.mrp_tables.specs.Versions.{has_steps, kind_words, most_lead}
use Rattle.mrp_tables.proofs.CellsRead.{centre-there, in_range, in_week, master-there, named, same_value, there, unless}

pub is_bill_line : (items : List Item) (r : Cells) (line : BillLine) → bill_row items r ≡ Ok line → IsBillLine items line
unfolding bill_row
is_bill_line items r line e =
    let parent_name = whole_step (blame r (name_of (cell_at r 0))) _ line e in
    let component_name = whole_step (blame r (name_of (cell_at r 1))) _ line parent_name.2 in
    let per = whole_step (blame r (number_cell 1 limits.MOST_PER (cell_at r 2))) _ line component_name.2 in
    let parent = whole_step (blame r (known items parent_name.0)) _ line per.2 in
    let component = whole_step (blame r (known items component_name.0)) _ line parent.2 in
    let made : BillLine = record { parent = parent.0; component = component.0; per = per.0 } in
    let last = unless (is_master_at items component.0) (fault_at r faults.MASTER_COMPONENT) made line component.2 in
    subst (IsBillLine items) last.1 (record {
      parent = there items r parent_name.0 parent.0 parent.1;
      component = there items r component_name.0 component.0 component.1;
      part = last.0;
      per = in_range 1 limits.MOST_PER r (cell_at r 2) per.0 per.1;
    })

pub is_stock_row : (items : List Item) (r : Cells) (row : StockRow) → stock_cells items r ≡ Ok row → IsStockRow items row
unfolding stock_cells
is_stock_row items r row e =
    let name = whole_step (blame r (name_of (cell_at r 0))) _ row e in
    let on_hand = whole_step (blame r (number_cell 0 limits.MOST_PIECES (cell_at r 1))) _ row name.2 in
    let item = whole_step (blame r (known items name.0)) _ row on_hand.2 in
    let made : StockRow = record { item = item.0; on_hand = on_hand.0 } in
    subst (IsStockRow items) (same_value made row (Ok made) refl item.2) (record {
      item = there items r name.0 item.0 item.1;
      on_hand = (in_range 0 limits.MOST_PIECES r (cell_at r 1) on_hand.0 on_hand.1).1;
    })

is_open_order : (items : List Item) (r : Cells) (order : OpenOrder) → order_cells items r ≡ Ok order → IsOpenOrder items order
unfolding order_cells
is_open_order items r order e =
    let name = whole_step (blame r (name_of (cell_at r 0))) _ order e in
    let own = whole_step (blame r (name_of (cell_at r 1))) _ order name.2 in
    let date = whole_step (blame r (date_cell (cell_at r 2))) _ order own.2 in
    let quantity = whole_step (blame r (number_cell 0 limits.MOST_PIECES (cell_at r 3))) _ order date.2 in
    let item = whole_step (blame r (known items name.0)) _ order quantity.2 in
    let made : OpenOrder = record { item = item.0; order = own.0; date = date.0; quantity = quantity.0 } in
    subst (IsOpenOrder items) (same_value made order (Ok made) refl item.2) (record {
      item = there items r name.0 item.0 item.1;
      name = named r (cell_at r 1) own.0 own.1;
      quantity = (in_range 0 limits.MOST_PIECES r (cell_at r 3) quantity.0 quantity.1).1;
    })

-- an open receipt is placed as its order, which no earlier one is, with its record's number
pub record IsPlaced (calendar : ShopCalendar) (items : List Item) (seen : List (ℕ × List ℕ)) (r : Cells) (row : Receipt) : Type 0 where
  pub within : IsReceiptIfAny calendar.weeks items row
  pub fresh : list_any (same_order (row.item, row.order)) seen ≡ false
  pub number : row.number ≡ r.number

placed : (calendar : ShopCalendar) (items : List Item) (seen : List (ℕ × List ℕ)) (r : Cells) (order : OpenOrder) (row : Receipt) → IsOpenOrder items order
    → list_any (same_order (order.item, order.order)) seen ≡ false → receipt_placed calendar items r order ≡ Ok row → IsPlaced calendar items seen r row
unfolding receipt_placed
placed calendar items seen r order row is fresh e =
    let week = whole_step (blame r (or_code faults.DATE_OUTSIDE (week_of calendar order.date))) _ row e in
    let made : Receipt = record { number = r.number; item = order.item; order = order.order; week = week.0; quantity = order.quantity } in
    let last = unless (is_master_at items order.item) (fault_at r faults.MASTER_RECEIPT) made row week.2 in
    subst (IsPlaced calendar items seen r) last.1 (record {
      within = λ any. record { item = is.item; order = is.name; part = last.0; week = in_week calendar r order.date week.0 week.1; quantity = (any, is.quantity) };
      fresh = fresh;
      number = refl;
    })

pub is_placed : (calendar : ShopCalendar) (items : List Item) (seen : List (ℕ × List ℕ)) (r : Cells) (row : Receipt) → receipt_beside calendar items seen r ≡ Ok row → IsPlaced calendar items seen r row
is_placed calendar items seen r row e =
    let read = whole_step (order_cells items r) _ row e in
    let checked = whole_step (order_checked seen r read.0) _ row read.2 in
    let last = unless (list_any (same_order (read.0.item, read.0.order)) seen) (fault_at r faults.REPEATED) read.0 checked.0 checked.1 in
    let is = is_open_order items r read.0 read.1 in
    placed calendar items seen r read.0 row is last.0 (rw last.1 checked.2)

pub is_centre : (r : Cells) (centre : Centre) → centre_cells r ≡ Ok centre → IsCentre centre
unfolding centre_cells
is_centre r centre e =
    let name = whole_step (blame r (name_of (cell_at r 0))) _ centre e in
    let minutes = whole_step (blame r (number_cell 0 limits.MOST_MINUTES (cell_at r 1))) _ centre name.2 in
    let made : Centre = record { name = name.0; minutes = minutes.0 } in
    subst IsCentre (same_value made centre (Ok made) refl minutes.2) (record {
      name = named r (cell_at r 0) name.0 name.1;
      minutes = (in_range 0 limits.MOST_MINUTES r (cell_at r 1) minutes.0 minutes.1).1;
    })

is_routing_line : (items : List Item) (r : Cells) (line : RoutingLine) → routing_cells items r ≡ Ok line → IsRoutingLine items line
unfolding routing_cells
is_routing_line items r line e =
    let name = whole_step (blame r (name_of (cell_at r 0))) _ line e in
    let operation = whole_step (blame r (number_cell 1 limits.GREATEST_OPERATION (cell_at r 1))) _ line name.2 in
    let centre = whole_step (blame r (name_of (cell_at r 2))) _ line operation.2 in
    let setup = whole_step (blame r (number_cell 0 limits.MOST_SETUP (cell_at r 3))) _ line centre.2 in
    let run = whole_step (blame r (number_cell 0 limits.MOST_RUN (cell_at r 4))) _ line setup.2 in
    let offset = whole_step (blame r (number_cell 0 limits.MOST_OFFSET (cell_at r 5))) _ line run.2 in
    let item = whole_step (blame r (known items name.0)) _ line offset.2 in
    let made : RoutingLine = record { item = item.0; operation = operation.0; centre = centre.0; setup = setup.0; run = run.0; offset = offset.0 } in
    subst (IsRoutingLine items) (same_value made line (Ok made) refl item.2) (record {
      item = there items r name.0 item.0 item.1;
      operation = in_range 1 limits.GREATEST_OPERATION r (cell_at r 1) operation.0 operation.1;
      setup = (in_range 0 limits.MOST_SETUP r (cell_at r 3) setup.0 setup.1).1;
      run = (in_range 0 limits.MOST_RUN r (cell_at r 4) run.0 run.1).1;
      offset = (in_range 0 limits.MOST_OFFSET r (cell_at r 5) offset.0 offset.1).1;
    })

-- an operation is its line's, which no earlier one is
pub record IsRouted (items : List Item) (centres : List Centre) (seen : List (ℕ × ℕ)) (row : Operation) : Type 0 where
  pub within : IsOperation items centres row
  pub fresh : list_any (same_operation (row.item, row.operation)) seen ≡ false

routed : (items : List Item) (centres : List Centre) (seen : List (ℕ × ℕ)) (r : Cells) (line : RoutingLine) (row : Operation) → IsRoutingLine items line
    → list_any (same_operation (line.item, line.operation)) seen ≡ false → routing_placed centres r line ≡ Ok row → IsRouted items centres seen row
unfolding routing_placed
routed items centres seen r line row is fresh e =
    let centre = whole_step (blame r (known_centre centres line.centre)) _ row e in
    let made : Operation = record { item = line.item; operation = line.operation; centre = centre.0; setup = line.setup; run = line.run; offset = line.offset } in
    subst (IsRouted items centres seen) (same_value made row (Ok made) refl centre.2) (record {
      within = record { item = is.item; operation = is.operation; centre = centre-there centres r line.centre centre.0 centre.1; setup = is.setup; run = is.run; offset = is.offset };
      fresh = fresh;
    })

pub is_routed : (items : List Item) (centres : List Centre) (seen : List (ℕ × ℕ)) (r : Cells) (row : Operation) → operation_beside items centres seen r ≡ Ok row → IsRouted items centres seen row
is_routed items centres seen r row e =
    let read = whole_step (routing_cells items r) _ row e in
    let checked = whole_step (routing_checked seen r read.0) _ row read.2 in
    let last = unless (list_any (same_operation (read.0.item, read.0.operation)) seen) (fault_at r faults.REPEATED) read.0 checked.0 checked.1 in
    let is = is_routing_line items r read.0 read.1 in
    routed items centres seen r read.0 row is last.0 (rw last.1 checked.2)

pub is_master_row : (version : Version) (calendar : ShopCalendar) (items : List Item) (r : Cells) (row : MasterRow) → master_row version calendar items r ≡ Ok row → IsMasterRowIfAny calendar.weeks items row
unfolding master_row
is_master_row version calendar items r row e =
    let name = whole_step (blame r (name_of (cell_at r 0))) _ row e in
    let kind = whole_step (blame r (word_of (kind_words version) (cell_at r 1))) _ row name.2 in
    let date = whole_step (blame r (date_cell (cell_at r 2))) _ row kind.2 in
    let quantity = whole_step (blame r (number_cell 0 limits.MOST_PIECES (cell_at r 3))) _ row date.2 in
    let item = whole_step (blame r (known items name.0)) _ row quantity.2 in
    let week = whole_step (blame r (or_code faults.DATE_OUTSIDE (week_of calendar date.0))) _ row item.2 in
    let made : MasterRow = record { number = r.number; item = item.0; kind = kind_at kind.0; week = week.0; quantity = quantity.0 } in
    let last = unless (not (has_kind (item_at items item.0).class (kind_at kind.0))) (fault_at r (class_fault (kind_at kind.0))) made row week.2 in
    subst (IsMasterRowIfAny calendar.weeks items) last.1 (λ any. record {
      item = there items r name.0 item.0 item.1;
      class = not-not (has_kind (item_at items item.0).class (kind_at kind.0)) last.0;
      week = in_week calendar r date.0 week.0 week.1;
      quantity = (any, (in_range 0 limits.MOST_PIECES r (cell_at r 3) quantity.0 quantity.1).1);
    })
  where
    not-not : (b : Bool) → not b ≡ false → b ≡ true
    not-not true h = refl
    not-not false h = absurd cc

-- a row of the master schedule has its record's number
pub master_row-number : (version : Version) (calendar : ShopCalendar) (items : List Item) (r : Cells) (row : MasterRow) → master_row version calendar items r ≡ Ok row → row.number ≡ r.number
unfolding master_row
master_row-number version calendar items r row e =
    let name = whole_step (blame r (name_of (cell_at r 0))) _ row e in
    let kind = whole_step (blame r (word_of (kind_words version) (cell_at r 1))) _ row name.2 in
    let date = whole_step (blame r (date_cell (cell_at r 2))) _ row kind.2 in
    let quantity = whole_step (blame r (number_cell 0 limits.MOST_PIECES (cell_at r 3))) _ row date.2 in
    let item = whole_step (blame r (known items name.0)) _ row quantity.2 in
    let week = whole_step (blame r (or_code faults.DATE_OUTSIDE (week_of calendar date.0))) _ row item.2 in
    let made : MasterRow = record { number = r.number; item = item.0; kind = kind_at kind.0; week = week.0; quantity = quantity.0 } in
    let last = unless (not (has_kind (item_at items item.0).class (kind_at kind.0))) (fault_at r (class_fault (kind_at kind.0))) made row week.2 in
    sym (ap (λ (x : MasterRow). x.number) last.1)

-- a master item and a week
pub record IsSpot (calendar : ShopCalendar) (items : List Item) (spot : ℕ × ℕ) : Type 0 where
  pub item : IsMasterItem items spot.0
  pub week : IsInRange 1 calendar.weeks spot.1

is_spot : (calendar : ShopCalendar) (items : List Item) (r : Cells) (name : List ℕ) (date : Date) (spot : ℕ × ℕ) → spot_of calendar items r name date ≡ Ok spot → IsSpot calendar items spot
unfolding spot_of
is_spot calendar items r name date spot e =
    let item = whole_step (blame r (known items name)) _ spot e in
    let week = whole_step (blame r (or_code faults.DATE_OUTSIDE (week_of calendar date))) _ spot item.2 in
    let master = whole_step (blame r (mastered items item.0)) _ spot week.2 in
    let made : ℕ × ℕ = (master.0, week.0) in
    subst (IsSpot calendar items) (same_value made spot (Ok made) refl master.2) (record {
      item = master-there items r item.0 master.0 (there items r name item.0 item.1) master.1;
      week = in_week calendar r date week.0 week.1;
    })

a_booking : (weeks : ℕ) (items : List Item) (i w q : ℕ) → IsMasterItem items i → IsInRange 1 weeks w → IsInRange 1 limits.MOST_PIECES q → IsScriptCall weeks items (call.Book i w q)
a_booking weeks items i w q item week quantity = record {
  book = λ i' w' q' e.
      let a : i ≡ i' = cc in
      let b : w ≡ w' = cc in
      let c : q ≡ q' = cc in
      (subst (IsMasterItem items) a item, subst (IsInRange 1 weeks) b week, subst (IsInRange 1 limits.MOST_PIECES) c quantity);
  cancel = λ entry e. absurd cc;
  ask = λ i' w' e. absurd cc;
  when = λ i' q' e. absurd cc;
}

a_cancellation : (weeks : ℕ) (items : List Item) (n : ℕ) → IsInRange 1 limits.MOST_ENTRIES n → IsScriptCall weeks items (call.Cancel n)
a_cancellation weeks items n entry = record {
  book = λ i' w' q' e. absurd cc;
  cancel = λ n' e. let a : n ≡ n' = cc in subst (IsInRange 1 limits.MOST_ENTRIES) a entry;
  ask = λ i' w' e. absurd cc;
  when = λ i' q' e. absurd cc;
}

a_question : (weeks : ℕ) (items : List Item) (i w : ℕ) → IsMasterItem items i → IsInRange 1 weeks w → IsScriptCall weeks items (call.Ask i w)
a_question weeks items i w item week = record {
  book = λ i' w' q' e. absurd cc;
  cancel = λ n' e. absurd cc;
  ask = λ i' w' e.
      let a : i ≡ i' = cc in
      let b : w ≡ w' = cc in
      (subst (IsMasterItem items) a item, subst (IsInRange 1 weeks) b week);
  when = λ i' q' e. absurd cc;
}

a_search : (weeks : ℕ) (items : List Item) (i q : ℕ) → IsMasterItem items i → IsInRange 1 limits.MOST_PIECES q → IsScriptCall weeks items (call.When i q)
a_search weeks items i q item quantity = record {
  book = λ i' w' q' e. absurd cc;
  cancel = λ n' e. absurd cc;
  ask = λ i' w' e. absurd cc;
  when = λ i' q' e.
      let a : i ≡ i' = cc in
      let b : q ≡ q' = cc in
      (subst (IsMasterItem items) a item, subst (IsInRange 1 limits.MOST_PIECES) b quantity);
}

a_run : (weeks : ℕ) (items : List Item) → IsScriptCall weeks items call.Run
a_run weeks items = record { book = λ i' w' q' e. absurd cc; cancel = λ n' e. absurd cc; ask = λ i' w' e. absurd cc; when = λ i' q' e. absurd cc }

is_booking : (calendar : ShopCalendar) (items : List Item) (r : Cells) (given : ScriptCall) → book_cells calendar items r ≡ Ok given → IsScriptCall calendar.weeks items given
unfolding book_cells
is_booking calendar items r given e =
    let name = whole_step (blame r (name_of (cell_at r 2))) _ given e in
    let date = whole_step (blame r (date_cell (cell_at r 3))) _ given name.2 in
    let quantity = whole_step (blame r (number_cell 1 limits.MOST_PIECES (cell_at r 4))) _ given date.2 in
    let spot = whole_step (spot_of calendar items r name.0 date.0) _ given quantity.2 in
    let is = is_spot calendar items r name.0 date.0 spot.0 spot.1 in
    let made : ScriptCall = call.Book spot.0.0 spot.0.1 quantity.0 in
    subst (IsScriptCall calendar.weeks items) (same_value made given (Ok made) refl spot.2)
    (a_booking calendar.weeks items spot.0.0 spot.0.1 quantity.0 is.item is.week (in_range 1 limits.MOST_PIECES r (cell_at r 4) quantity.0 quantity.1))

is_cancellation : (weeks : ℕ) (items : List Item) (r : Cells) (given : ScriptCall) → cancel_cells r ≡ Ok given → IsScriptCall weeks items given
unfolding cancel_cells
is_cancellation weeks items r given e =
    let entry = whole_step (blame r (number_cell 1 limits.MOST_ENTRIES (cell_at r 5))) _ given e in
    let made : ScriptCall = call.Cancel entry.0 in
    subst (IsScriptCall weeks items) (same_value made given (Ok made) refl entry.2)
    (a_cancellation weeks items entry.0 (in_range 1 limits.MOST_ENTRIES r (cell_at r 5) entry.0 entry.1))

is_question : (calendar : ShopCalendar) (items : List Item) (r : Cells) (given : ScriptCall) → ask_cells calendar items r ≡ Ok given → IsScriptCall calendar.weeks items given
unfolding ask_cells
is_question calendar items r given e =
    let name = whole_step (blame r (name_of (cell_at r 2))) _ given e in
    let date = whole_step (blame r (date_cell (cell_at r 3))) _ given name.2 in
    let spot = whole_step (spot_of calendar items r name.0 date.0) _ given date.2 in
    let is = is_spot calendar items r name.0 date.0 spot.0 spot.1 in
    let made : ScriptCall = call.Ask spot.0.0 spot.0.1 in
    subst (IsScriptCall calendar.weeks items) (same_value made given (Ok made) refl spot.2) (a_question calendar.weeks items spot.0.0 spot.0.1 is.item is.week)

is_search : (weeks : ℕ) (items : List Item) (r : Cells) (given : ScriptCall) → when_cells items r ≡ Ok given → IsScriptCall weeks items given
unfolding when_cells
is_search weeks items r given e =
    let name = whole_step (blame r (name_of (cell_at r 2))) _ given e in
    let quantity = whole_step (blame r (number_cell 1 limits.MOST_PIECES (cell_at r 4))) _ given name.2 in
    let item = whole_step (blame r (known items name.0)) _ given quantity.2 in
    let master = whole_step (blame r (mastered items item.0)) _ given item.2 in
    let made : ScriptCall = call.When master.0 quantity.0 in
    subst (IsScriptCall weeks items) (same_value made given (Ok made) refl master.2)
    (a_search weeks items master.0 quantity.0 (master-there items r item.0 master.0 (there items r name.0 item.0 item.1) master.1) (in_range 1 limits.MOST_PIECES r (cell_at r 4) quantity.0 quantity.1))

-- one of two ways to read
either : {X : Type 0} {Q : Type 0} (b : Bool) (x y : Result X Fault) (a : X) → (x ≡ Ok a → Q) → (y ≡ Ok a → Q) → (if b then x else y) ≡ Ok a → Q
either true x y a first second e = first e
either false x y a first second e = second e

is_call : (calendar : ShopCalendar) (items : List Item) (r : Cells) (place : ℕ) (given : ScriptCall) → call_at calendar items r place ≡ Ok given → IsScriptCall calendar.weeks items given
is_call calendar items r place given e =
    either (place == 0) (book_cells calendar items r) _ given (is_booking calendar items r given) (λ rest.
    either (place == 1) (cancel_cells r) _ given (is_cancellation calendar.weeks items r given) (λ rest.
    either (place == 2) (ask_cells calendar items r) _ given (is_question calendar items r given) (λ rest.
    either (place == 3) (when_cells items r) (Ok call.Run) given (is_search calendar.weeks items r given)
    (λ run. subst (IsScriptCall calendar.weeks items) (same_value call.Run given (Ok call.Run) refl run) (a_run calendar.weeks items)) rest) rest) rest) e

pub is_script_row : (calendar : ShopCalendar) (items : List Item) (r : Cells) (row : ScriptRow) → script_row calendar items r ≡ Ok row → IsScriptRow calendar.weeks items row
unfolding script_row
is_script_row calendar items r row e =
    let desk = whole_step (blame r (number_cell 1 limits.MOST_DESKS (cell_at r 0))) _ row e in
    let place = whole_step (blame r (word_of call_words (cell_at r 1))) _ row desk.2 in
    let own = whole_step (call_at calendar items r place.0) _ row place.2 in
    let made : ScriptRow = record { desk = desk.0; call = own.0 } in
    subst (IsScriptRow calendar.weeks items) (same_value made row (Ok made) refl own.2) (record {
      desk = in_range 1 limits.MOST_DESKS r (cell_at r 0) desk.0 desk.1;
      call = is_call calendar items r place.0 own.0 own.1;
    })

-- the size of a lot rule, as its own rule has it
pub record IsSize (place size : ℕ) : Type 0 where
  pub fixed : (pieces : ℕ) → lot_at place size ≡ Fixed pieces → IsInRange 1 limits.MOST_PIECES pieces
  pub period : (weeks : ℕ) → lot_at place size ≡ Period weeks → IsInRange 1 limits.MOST_PERIOD weeks

sized : (place size : ℕ) → IsInRange (least_size place) (greatest_size place) size → IsSize place size
sized place size within = by (place == 0) refl (place == 1) refl
  where
    by : (first : Bool) → (place == 0) ≡ first → (second : Bool) → (place == 1) ≡ second → IsSize place size
    by true is second is' =
        let free : lot_at place size ≡ LotForLot = rw is refl in
        record { fixed = λ pieces e. absurd cc; period = λ weeks e. absurd cc }
    by false is true is' =
        let rule : lot_at place size ≡ Fixed size = rw (is, is') refl in
        let one : place ≡ 1 = eqb-true place 1 is' in
        let own : IsInRange 1 limits.MOST_PIECES size = rw one at within in
        record {
          fixed = λ pieces e. let same : size ≡ pieces = cc in subst (IsInRange 1 limits.MOST_PIECES) same own;
          period = λ weeks e. absurd cc;
        }
    by false is false is' =
        let rule : lot_at place size ≡ Period size = rw (is, is') refl in
        let more : nat_lt place 2 ≡ false = grind (arith, common_steps) in
        let own : IsInRange 1 limits.MOST_PERIOD size = rw (is, more) at within in
        record {
          fixed = λ pieces e. absurd cc;
          period = λ weeks e. let same : size ≡ weeks = cc in subst (IsInRange 1 limits.MOST_PERIOD) same own;
        }

-- no version has longer lead times
short_lead : (version : Version) (lead : ℕ) → lead ≤ most_lead version → lead ≤ limits.MOST_LEAD
short_lead One lead within = omega (arith, within)
short_lead Two lead within = within
short_lead Three lead within = within

-- the minimum order quantity and the order multiple, read or not
few_least : (version : Version) (r : Cells) (least : ℕ) → least_cell version r ≡ Ok least → least ≤ limits.MOST_LEAST
few_least version r least e =
    either (has_steps version) (blame r (number_cell 0 limits.MOST_LEAST (cell_at r 7))) (Ok 0) least
    (λ given. (in_range 0 limits.MOST_LEAST r (cell_at r 7) least given).1)
    (λ none. let same : 0 ≡ least = cc in omega (arith, same)) e

some_step : (version : Version) (r : Cells) (step : ℕ) → step_cell version r ≡ Ok step → IsInRange 1 limits.MOST_STEP step
some_step version r step e =
    either (has_steps version) (blame r (number_cell 1 limits.MOST_STEP (cell_at r 8))) (Ok 1) step
    (in_range 1 limits.MOST_STEP r (cell_at r 8) step)
    (λ one. let same : 1 ≡ step = cc in (omega (arith, same), omega (arith, same))) e

pub is_item : (version : Version) (r : Cells) (item : Item) → item_cells version r ≡ Ok item → IsItemUnlessStocked item
unfolding item_cells
is_item version r item e =
    let name = whole_step (blame r (name_of (cell_at r 0))) _ item e in
    let class = whole_step (blame r (word_of class_words (cell_at r 1))) _ item name.2 in
    let lead = whole_step (blame r (number_cell 0 (most_lead version) (cell_at r 2))) _ item class.2 in
    let scrap = whole_step (blame r (number_cell 0 limits.MOST_SCRAP (cell_at r 3))) _ item lead.2 in
    let lot = whole_step (blame r (word_of lot_words (cell_at r 4))) _ item scrap.2 in
    let size = whole_step (blame r (number_cell (least_size lot.0) (greatest_size lot.0) (cell_at r 5))) _ item lot.2 in
    let safety = whole_step (blame r (number_cell 0 limits.MOST_PIECES (cell_at r 6))) _ item size.2 in
    let least = whole_step (least_cell version r) _ item safety.2 in
    let step = whole_step (step_cell version r) _ item least.2 in
    let made : Item = record { name = name.0; class = class_at class.0; lead = lead.0; scrap = scrap.0; lot = lot_at lot.0 size.0; safety = safety.0; least = least.0; step = step.0 } in
    let rule = sized lot.0 size.0 (in_range (least_size lot.0) (greatest_size lot.0) r (cell_at r 5) size.0 size.1) in
    subst IsItemUnlessStocked (same_value made item (Ok made) refl step.2) (λ unstocked. record {
      name = named r (cell_at r 0) name.0 name.1;
      lead = short_lead version lead.0 (in_range 0 (most_lead version) r (cell_at r 2) lead.0 lead.1).1;
      scrap = (in_range 0 limits.MOST_SCRAP r (cell_at r 3) scrap.0 scrap.1).1;
      fixed = rule.fixed;
      period = rule.period;
      safety = (in_range 0 limits.MOST_PIECES r (cell_at r 6) safety.0 safety.1).1;
      master = unstocked;
      least = few_least version r least.0 least.1;
      step = some_step version r step.0 step.1;
    })

-- an item's lead time is no longer than its version's
pub item_lead : (version : Version) (r : Cells) (item : Item) → item_cells version r ≡ Ok item → item.lead ≤ most_lead version
unfolding item_cells
item_lead version r item e =
    let name = whole_step (blame r (name_of (cell_at r 0))) _ item e in
    let class = whole_step (blame r (word_of class_words (cell_at r 1))) _ item name.2 in
    let lead = whole_step (blame r (number_cell 0 (most_lead version) (cell_at r 2))) _ item class.2 in
    let scrap = whole_step (blame r (number_cell 0 limits.MOST_SCRAP (cell_at r 3))) _ item lead.2 in
    let lot = whole_step (blame r (word_of lot_words (cell_at r 4))) _ item scrap.2 in
    let size = whole_step (blame r (number_cell (least_size lot.0) (greatest_size lot.0) (cell_at r 5))) _ item lot.2 in
    let safety = whole_step (blame r (number_cell 0 limits.MOST_PIECES (cell_at r 6))) _ item size.2 in
    let least = whole_step (least_cell version r) _ item safety.2 in
    let step = whole_step (step_cell version r) _ item least.2 in
    let made : Item = record { name = name.0; class = class_at class.0; lead = lead.0; scrap = scrap.0; lot = lot_at lot.0 size.0; safety = safety.0; least = least.0; step = step.0 } in
    subst (λ (x : Item). x.lead ≤ most_lead version) (same_value made item (Ok made) refl step.2) (in_range 0 (most_lead version) r (cell_at r 2) lead.0 lead.1).1
