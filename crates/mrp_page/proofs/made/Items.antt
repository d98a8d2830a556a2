-- Items, their orders and pegs, and the history.
use Rattle.std.proofs.Common.{◌≡◌, ◌-◌, ℕ, Bool, true, false, Option, None, Some, List, [], ◌++◌, codes, decimal, drop, length, refl, arith, not}
use Rattle.mrp_facts.specs.Facts.{Facts}
use Rattle.mrp_page.specs.ItemFacts.{item_facts_html}
use Rattle.std.specs.Prelude.{if◌then◌else◌, ◌==◌, ◌||◌}
use Rattle.std.proofs.lemmas.List.Elements.{All-filter}
use Rattle.std.specs.List.{All, flat_map, slice_get}
use Rattle.mrp_page.specs.Draw.{dated_table, has_none, history_html, item_name_html, link_html, more_html, more_items, more_lists, more_rows, more_weeks, named_note, named_record}
use Rattle.mrp_page.specs.Frame.{count_row}
use Rattle.mrp_page.specs.ItemRows.{ItemLists}
use Rattle.mrp_page.specs.Items.{count_html, index_html, index_line, item_html, item_lists_html, items_html, late_html, message_count, need_html, orders_html, parent_of, peg_html, pegs_html, supplier_of, supply_html, wait_html, waits_html}
use Rattle.mrp_page.specs.Known.{small_words}
use Rattle.mrp_page.specs.layout.History.{entry, history_end, history_open}
use Rattle.mrp_page.specs.layout.Items.{index_count, item_head, items_end, items_open, lists_open, order, orders_open, peg_back, peg_booking, peg_middle, peg_need, peg_parent, peg_supply, pegs_open, wait_end, wait_late, wait_order, wait_supply, waits_open}
use Rattle.mrp_page.specs.layout.Lists.{bullet_end, bullet_open, grid_end, rest_end, row_open, section_end}
use Rattle.mrp_page.specs.layout.Records.{no_promises}
use Rattle.mrp_page.specs.Outs.{lateness}
use Rattle.mrp_page.specs.Orders.{is_order, linked_html, passing, place_of}
use Rattle.mrp_page.specs.Pegs.{is_wait, waits_for}
use Rattle.mrp_page.specs.Refused.{entry_name_html}
use Rattle.mrp_page.specs.Row.{RowView, cell_at}
use Rattle.mrp_page.specs.Rows.{rows_named}
use Rattle.mrp_page.specs.Said.{item_messages, messages_at}
use Rattle.mrp_page.specs.Scene.{SceneView}
use Rattle.mrp_page.specs.Template.{dated_html, has_word, row_html}
use Rattle.mrp_page.specs.declared.limits.TheConstants.{FEW_ROWS}
use Rattle.mrp_page.specs.declared.counts.Counts.{Counts}
use Rattle.mrp_page.proofs.made.Facts.{Made, TablesKnown, Vocabulary}
use Rattle.mrp_page.proofs.made.Laid.{laid-entry, laid-index_count, laid-item_head, laid-order, laid-peg_back, laid-peg_middle, laid-peg_need, laid-peg_parent, laid-peg_supply, laid-wait_late, laid-wait_order}
use Rattle.mrp_page.proofs.made.Plain.{own-grid_end, own-history_end, own-history_open, own-bullet_end, own-bullet_open, own-items_end, own-items_open, own-lists_open, own-no_promises, own-orders_open, own-peg_booking, own-row_open, own-pegs_open, own-rest_end, own-section_end, own-wait_end, own-wait_supply, own-waits_open}
use Rattle.mrp_page.proofs.made.Pieces.{counted, dated-row, dated-table, each, either, entry-name, further, item-name, join, link, mark, none, nothing, row, small}
use Rattle.mrp_page.proofs.made.Records.{item-facts-of, record-or-none}
use Rattle.mrp_page.proofs.made.Rows.{all-named}
use Rattle.mrp_page.proofs.made.Scene.{SceneKnown, linked-number, linked-order, order-known}
use Rattle.mrp_page.proofs.made.Todo.{MessageKnown, said-named}

module _ (v : Vocabulary) where
  orders-of : (tables : Option Facts) → TablesKnown v.Known tables → (rs : List RowView) → All (λ (r : RowView). (column : ℕ) → v.Known (cell_at r column)) rs → Made v (orders_html tables rs)
  unfolding orders_html
  orders-of tables of rs all = dated-table v tables of orders_open order rs grid_end own-orders_open laid-order all own-grid_end

  need : (scene : SceneView) → SceneKnown v scene → (r : RowView) → ((column : ℕ) → v.Known (cell_at r column)) → Made v (need_html scene r)
  unfolding need_html
  need scene seen r known =
      let says : List ℕ = row_html peg_parent r in
      let parent-is : List ℕ = linked_html scene (parent_of scene r) says in
      let entry-is : List ℕ = entry_name_html scene.history (cell_at r 3) in
      either v (has_word 2 (codes "booking") r) (peg_booking ++ entry-is) (if has_word 2 (codes "parent") r then parent-is else row_html peg_need r)
      (join v peg_booking entry-is (mark v peg_booking own-peg_booking) (entry-name v scene.history (cell_at r 3) seen.kept (known 3)))
      (either v (has_word 2 (codes "parent") r) parent-is (row_html peg_need r) (linked-number v scene seen (cell_at r 4) (cell_at r 3) says (row v peg_parent r laid-peg_parent known)) (row v peg_need r laid-peg_need known))

  supply-of : (scene : SceneView) → SceneKnown v scene → (r : RowView) → ((column : ℕ) → v.Known (cell_at r column)) → Made v (supply_html scene r)
  supply-of scene seen r known = linked-order v scene seen (cell_at r 0) (cell_at r 6) (cell_at r 7) (row_html peg_supply r) (row v peg_supply r laid-peg_supply known)

  a-peg : (scene : SceneView) → SceneKnown v scene → (r : RowView) → ((column : ℕ) → v.Known (cell_at r column)) → Made v (peg_html scene r)
  unfolding peg_html
  a-peg scene seen r known =
      let supply : List ℕ = supply_html scene r in
      let middle : List ℕ = row_html peg_middle r in
      let for-what : List ℕ = need_html scene r in
      let back : List ℕ = dated_html scene.tables peg_back r in
      join v row_open (supply ++ (middle ++ (for-what ++ back))) (mark v row_open own-row_open)
      (join v supply (middle ++ (for-what ++ back)) (supply-of scene seen r known)
      (join v middle (for-what ++ back) (row v peg_middle r laid-peg_middle known) (join v for-what back (need scene seen r known) (dated-row v scene.tables seen.of-tables peg_back r laid-peg_back known))))

  pegs : (scene : SceneView) → SceneKnown v scene → (rs : List RowView) → All (λ (r : RowView). (column : ℕ) → v.Known (cell_at r column)) rs → Made v (pegs_html scene rs)
  unfolding pegs_html
  pegs scene seen rs all =
      join v pegs_open (flat_map (peg_html scene) rs ++ grid_end) (mark v pegs_open own-pegs_open) (join v (flat_map (peg_html scene) rs) grid_end (each v (λ (r : RowView). (column : ℕ) → v.Known (cell_at r column)) (peg_html scene) (λ r known. a-peg scene seen r known) rs all) (mark v grid_end own-grid_end))

  late-cells : (p : RowView → Bool) (o : Option RowView) → ((q : RowView) → o ≡ Some q → (column : ℕ) → v.Known (cell_at q column)) → Made v (late_html (passing p o))
  late-cells p None all = mark v wait_end own-wait_end
  late-cells p (Some q) all = by (p q)
    where
      by : (b : Bool) → Made v (late_html (if b then Some q else None))
      by true = row v wait_late q laid-wait_late (all q refl)
      by false = mark v wait_end own-wait_end

  a-wait : (scene : SceneView) → SceneKnown v scene → (r : RowView) → ((column : ℕ) → v.Known (cell_at r column)) → Made v (wait_html scene r)
  unfolding wait_html
  a-wait scene seen r known =
      let says : List ℕ = row_html wait_order r in
      let waiting : List ℕ = linked_html scene (parent_of scene r) says in
      let middle : List ℕ = row_html peg_middle r in
      let name : List ℕ = item_name_html scene.shown (cell_at r 0) in
      let supply : List ℕ = supply_html scene r in
      let lateness : List ℕ = late_html (supplier_of scene r) in
      join v row_open (waiting ++ (middle ++ (name ++ (wait_supply ++ (supply ++ lateness))))) (mark v row_open own-row_open)
      (join v waiting (middle ++ (name ++ (wait_supply ++ (supply ++ lateness)))) (linked-number v scene seen (cell_at r 4) (cell_at r 3) says (row v wait_order r laid-wait_order known))
      (join v middle (name ++ (wait_supply ++ (supply ++ lateness))) (row v peg_middle r laid-peg_middle known)
      (join v name (wait_supply ++ (supply ++ lateness)) (item-name v scene.shown (cell_at r 0) seen.led (known 0))
      (join v wait_supply (supply ++ lateness) (mark v wait_supply own-wait_supply)
      (join v supply lateness (supply-of scene seen r known)
      (late-cells (is_order (cell_at r 0) (cell_at r 6) (cell_at r 7)) (slice_get (rows_named (cell_at r 0) scene.orders) (place_of (cell_at r 7))) (order-known v scene seen (cell_at r 0) (place_of (cell_at r 7)))))))))

  waits : (scene : SceneView) → SceneKnown v scene → (rs : List RowView) → All (λ (r : RowView). (column : ℕ) → v.Known (cell_at r column)) rs → Made v (waits_html scene rs)
  unfolding waits_html
  waits scene seen rs all =
      let lines : List ℕ = flat_map (wait_html scene) rs in
      either v (has_none rs) [] (waits_open ++ (lines ++ grid_end)) (none v)
      (join v waits_open (lines ++ grid_end) (mark v waits_open own-waits_open) (join v lines grid_end (each v (λ (r : RowView). (column : ℕ) → v.Known (cell_at r column)) (wait_html scene) (λ r known. a-wait scene seen r known) rs all) (mark v grid_end own-grid_end)))

  pub record AllKnown (rows : ItemLists) : Type 0 where
    pub promises : All (λ (r : RowView). (column : ℕ) → v.Known (cell_at r column)) rows.promises
    pub plan : All (λ (r : RowView). (column : ℕ) → v.Known (cell_at r column)) rows.plan
    pub orders : All (λ (r : RowView). (column : ℕ) → v.Known (cell_at r column)) rows.orders
    pub pegs : All (λ (r : RowView). (column : ℕ) → v.Known (cell_at r column)) rows.pegs
    pub messages : All (λ (r : RowView). (column : ℕ) → v.Known (cell_at r column)) rows.messages

  item-lists : (scene : SceneView) → SceneKnown v scene → (name : List ℕ) → Made v (item_lists_html scene name)
  unfolding item_lists_html
  item-lists scene seen name =
      let of-orders : List ℕ = orders_html scene.tables (rows_named name scene.orders) in
      let of-pegs : List ℕ = pegs_html scene (rows_named name scene.pegs) in
      let of-waits : List ℕ = waits_html scene (waits_for scene.pegs name) in
      join v lists_open (of-orders ++ (of-pegs ++ (of-waits ++ (rest_end ++ section_end)))) (mark v lists_open own-lists_open)
      (join v of-orders (of-pegs ++ (of-waits ++ (rest_end ++ section_end))) (orders-of scene.tables seen.of-tables (rows_named name scene.orders) (all-named (λ (r : RowView). (column : ℕ) → v.Known (cell_at r column)) name scene.orders seen.of-orders))
      (join v of-pegs (of-waits ++ (rest_end ++ section_end)) (pegs scene seen (rows_named name scene.pegs) (all-named (λ (r : RowView). (column : ℕ) → v.Known (cell_at r column)) name scene.pegs seen.of-pegs))
      (join v of-waits (rest_end ++ section_end) (waits scene seen (waits_for scene.pegs name) (All-filter (is_wait name) (λ (r : RowView). (column : ℕ) → v.Known (cell_at r column)) scene.pegs seen.of-pegs))
      (join v rest_end section_end (mark v rest_end own-rest_end) (mark v section_end own-section_end)))))

  record-named : (tables : Option Facts) → TablesKnown v.Known tables → (rows : ItemLists) (name : List ℕ) → AllKnown rows → v.Known name → Made v (named_record tables rows name)
  unfolding named_record
  record-named tables of rows name all known = record-or-none v tables of name (rows_named name rows.plan) (rows_named name rows.promises) known (all-named (λ (r : RowView). (column : ℕ) → v.Known (cell_at r column)) name rows.plan all.plan) (all-named (λ (r : RowView). (column : ℕ) → v.Known (cell_at r column)) name rows.promises all.promises)

  noted : (rows : ItemLists) (missed : ℕ) (name : List ℕ) → Made v (named_note rows missed name)
  unfolding named_note
  noted rows missed name = either v ((missed == 0) || (has_none (rows_named name rows.plan) || not (has_none (rows_named name rows.promises)))) [] no_promises (none v) (mark v no_promises own-no_promises)

  an-item : (scene : SceneView) → SceneKnown v scene → (rows : ItemLists) (missed : ℕ) (r : RowView) → AllKnown rows → All (MessageKnown v scene) rows.messages → ((column : ℕ) → v.Known (cell_at r column)) → v.Known (decimal (length (drop FEW_ROWS (messages_at rows r)))) → Made v (item_html scene rows missed r)
  unfolding item_html
  an-item scene seen rows missed r all messages known folds =
      let name : List ℕ = cell_at r 0 in
      let facts-are : List ℕ = item_facts_html scene.tables name in
      let told-of : List ℕ = item_messages scene rows r in
      let recorded : List ℕ = named_record scene.tables rows name in
      let note : List ℕ = named_note rows missed name in
      let listed-of : List ℕ = item_lists_html scene name in
      join v (row_html item_head r) (facts-are ++ (told-of ++ (recorded ++ (note ++ listed-of)))) (row v item_head r laid-item_head known)
      (join v facts-are (told-of ++ (recorded ++ (note ++ listed-of))) (item-facts-of v scene.tables seen.of-tables name)
      (join v told-of (recorded ++ (note ++ listed-of)) (said-named v scene seen rows r messages folds)
      (join v recorded (note ++ listed-of) (record-named scene.tables seen.of-tables rows name all (known 0)) (join v note listed-of (noted rows missed name) (item-lists scene seen name)))))

  pub items : (scene : SceneView) → SceneKnown v scene → (rows : ItemLists) (missed : ℕ) (rs : List RowView) → AllKnown rows → All (MessageKnown v scene) rows.messages → All (λ (r : RowView). (column : ℕ) → v.Known (cell_at r column)) rs → All (λ (r : RowView). v.Known (decimal (length (drop FEW_ROWS (messages_at rows r))))) rs → Made v (items_html scene rows missed rs)
  unfolding items_html
  items scene seen rows missed rs all messages leads folds =
      each v (λ (r : RowView). ((column : ℕ) → v.Known (cell_at r column)) × v.Known (decimal (length (drop FEW_ROWS (messages_at rows r))))) (item_html scene rows missed) (λ r known. an-item scene seen rows missed r all messages known.0 known.1) rs (λ k d within. (leads k d within, folds k d within))

  -- an item of the index: its name, and how many messages it has
  pub record IndexKnown (ms : List RowView) (r : RowView) : Type 0 where
    pub led-to : v.Shown (cell_at r 0)
    pub counted-of : v.Known (decimal (message_count ms r))

  a-count : (n : ℕ) → v.Known (decimal n) → Made v (count_html n)
  a-count n known = either v (n == 0) [] (row_html index_count (count_row n [] [])) (none v) (row v index_count (count_row n [] []) laid-index_count (counted v n [] [] known (nothing v) (nothing v)))

  index-of : (ms : List RowView) (r : RowView) → IndexKnown ms r → Made v (index_line ms r)
  unfolding index_line
  index-of ms r known =
      let name : List ℕ = link_html (cell_at r 0) in
      let count : List ℕ = count_html (message_count ms r) in
      join v bullet_open (name ++ (count ++ bullet_end)) (mark v bullet_open own-bullet_open) (join v name (count ++ bullet_end) (link v (cell_at r 0) known.led-to) (join v count bullet_end (a-count (message_count ms r) known.counted-of) (mark v bullet_end own-bullet_end)))

  pub index : (ms rs : List RowView) → All (IndexKnown ms) rs → Made v (index_html ms rs)
  unfolding index_html
  index ms rs all =
      let lines : List ℕ = flat_map (index_line ms) rs in
      join v items_open (lines ++ items_end) (mark v items_open own-items_open) (join v lines items_end (each v (IndexKnown ms) (index_line ms) (λ r known. index-of ms r known) rs all) (mark v items_end own-items_end))

  more-weeks : (counts : Counts) → v.Known (decimal counts.plan) → v.Known (decimal counts.promises) → Made v (more_weeks counts)
  unfolding more_weeks small_words
  more-weeks counts a b = (join v (more_html counts.plan (codes "week of a record is") (codes "weeks of records are")) (more_html counts.promises (codes "week of promises is") (codes "weeks of promises are")) (further v counts.plan (codes "week of a record is") (codes "weeks of records are") a (small v (codes "week of a record is") 9 (omega arith) refl) (small v (codes "weeks of records are") 10 (omega arith) refl)) (further v counts.promises (codes "week of promises is") (codes "weeks of promises are") b (small v (codes "week of promises is") 11 (omega arith) refl) (small v (codes "weeks of promises are") 12 (omega arith) refl)))

  more-lists : (counts : Counts) → v.Known (decimal counts.orders) → v.Known (decimal counts.pegs) → Made v (more_lists counts)
  unfolding more_lists small_words
  more-lists counts a b = (join v (more_html counts.orders (codes "order is") (codes "orders are")) (more_html counts.pegs (codes "peg is") (codes "pegs are")) (further v counts.orders (codes "order is") (codes "orders are") a (small v (codes "order is") 13 (omega arith) refl) (small v (codes "orders are") 14 (omega arith) refl)) (further v counts.pegs (codes "peg is") (codes "pegs are") b (small v (codes "peg is") 15 (omega arith) refl) (small v (codes "pegs are") 16 (omega arith) refl)))

  pub more-items : (counts : Counts) (shown : List RowView) → v.Known (decimal (counts.items - length shown)) → v.Known (decimal counts.plan) → v.Known (decimal counts.promises) → v.Known (decimal counts.orders) → v.Known (decimal counts.pegs) → Made v (more_items counts shown)
  unfolding more_items more_rows small_words
  more-items counts shown n a b c d = (join v (more_html (counts.items - length shown) (codes "item is") (codes "items are")) (more_rows counts) (further v (counts.items - length shown) (codes "item is") (codes "items are") n (small v (codes "item is") 7 (omega arith) refl) (small v (codes "items are") 8 (omega arith) refl)) (join v (more_weeks counts) (more_lists counts) (more-weeks counts a b) (more-lists counts c d)))

  pub history-of : (tables : Option Facts) → TablesKnown v.Known tables → (rs : List RowView) (missed : ℕ) → All (λ (r : RowView). (column : ℕ) → v.Known (cell_at r column)) rs → v.Known (decimal missed) → Made v (history_html tables rs missed)
  unfolding history_html small_words
  history-of tables of rs missed all known = (join v (dated_table tables history_open entry rs grid_end) ((more_html missed (codes "entry is") (codes "entries are")) ++ history_end) (dated-table v tables of history_open entry rs grid_end own-history_open laid-entry all own-grid_end) (join v (more_html missed (codes "entry is") (codes "entries are")) history_end (further v missed (codes "entry is") (codes "entries are") known (small v (codes "entry is") 17 (omega arith) refl) (small v (codes "entries are") 18 (omega arith) refl)) (mark v history_end own-history_end)))
