-- The messages.
use Rattle.std.proofs.Common.{◌≡◌, ◌-◌, ℕ, Bool, true, false, Option, None, Some, List, [], ◌∷◌, ◌++◌, codes, decimal, drop, length, refl, arith, not}
use Rattle.mrp_facts.specs.Facts.{Facts, open_order}
use Rattle.mrp_tables.specs.declared.rows.Receipt.{Receipt}
use Rattle.mrp_page.specs.Receipts.{receipt_cells, receipt_of, receipt_row}
use Rattle.std.specs.Prelude.{if◌then◌else◌, ◌==◌, ◌&&◌, ◌*◌, nat_le}
use Rattle.std.proofs.lemmas.List.Elements.{All-cons, All-filter, All-nil}
use Rattle.std.specs.List.{All, Contains, slice_get}
use Rattle.mrp_page.specs.ByWord.{with_word}
use Rattle.mrp_page.specs.Draw.{has_none, is_plain, item_name_html, more_html}
use Rattle.mrp_page.specs.Folded.{Listing, capped_html, folded_html}
use Rattle.mrp_page.specs.Frame.{count_row}
use Rattle.mrp_page.specs.ItemRows.{ItemLists}
use Rattle.std.proofs.lemmas.List.Sorted.{All-permutation}
use Rattle.mrp_page.specs.declared.kinds.Sorting.{Sorting}
use Rattle.mrp_page.specs.Sorted.{sorted_by}
use Rattle.mrp_page.proofs.ByKey.{sorted-permutes}
use Rattle.mrp_page.specs.Kinds.{Kind, cancel, earlier, falling_rank, in_order, kind_html, kind_listing, kind_part, kinds_html, late, later, messages_of, note_html, open_count, open_html, order_html, order_of, other, other_messages, other_part, release, state_of, task_line, todo_back, todo_html, value_rank, pegged_html, received_html}
use Rattle.mrp_page.specs.Known.{layouts, small_words}
use Rattle.mrp_page.specs.layout.Lists.{rest_end, row_open, section_end}
use Rattle.mrp_page.specs.layout.Said.{no_message, said_back, said_front, said_other_back, said_other_front, said_pieces, said_receipt, said_start, said_week}
use Rattle.mrp_page.specs.layout.Todo.{nothing_to_do, open_pieces, open_receipt, order_unknown, task_middle, task_supply, todo_note, todo_open}
use Rattle.mrp_page.specs.Orders.{is_order, linked_html, passing, place_of}
use Rattle.mrp_page.specs.Row.{RowView, cell_at, same_text}
use Rattle.mrp_page.specs.Rows.{rows_named}
use Rattle.mrp_page.specs.Said.{back_of, by_urgency, front_of, is_release, item_messages, messages_at, pieces_row, said_html, said_known, said_listing, said_of_open, said_of_receipt, said_or_none, said_order, said_received, weeks_of_order}
use Rattle.mrp_page.proofs.Todo.{stand-once}
use Rattle.mrp_page.specs.Scene.{SceneView}
use Rattle.mrp_page.specs.Template.{dated_html, has_word, row_html}
use Rattle.mrp_page.specs.declared.limits.TheConstants.{FEW_ROWS, SOME_ROWS}
use Rattle.mrp_page.specs.declared.kinds.Sorting.TheVariants as sorts
use Rattle.mrp_day.specs.declared.section.Section.TheVariants as s
use Rattle.mrp_page.proofs.made.Facts.{Made, TablesKnown, Vocabulary}
use Rattle.mrp_page.proofs.made.Laid.{laid-open_pieces, laid-open_receipt, laid-said_back, laid-said_front, laid-said_other_back, laid-said_other_front, laid-said_pieces, laid-said_receipt, laid-said_start, laid-said_week, laid-task_supply}
use Rattle.mrp_page.proofs.made.OfKind.{OfKind, of-cancel, of-earlier, of-late, of-later, of-other, of-release}
use Rattle.mrp_page.proofs.made.Plain.{own-cell-end, own-no_message, own-nothing_to_do, own-order_unknown, own-rest_end, own-list_end, own-said_open, own-section_end, own-table_end, own-task_middle, own-row_open, own-todo_note, own-todo_open}
use Rattle.mrp_page.proofs.made.Pieces.{Counted, capped, counted, dated-row, either, folded, further, item-name, join, knows, mark, none, nothing, row, small, table-dated}
use Rattle.mrp_page.proofs.made.Rows.{all-named}
use Rattle.mrp_page.proofs.made.Scene.{SceneKnown, linked-order, order-known}

module _ (v : Vocabulary) where
  -- a message: its cells, and the pieces of the open order that it is about
  pub record MessageKnown (scene : SceneView) (r : RowView) : Type 0 where
    pub cells-in : (column : ℕ) → v.Known (cell_at r column)
    pub open-in : v.Known (decimal (open_count scene r))

  pegged-cells : (scene : SceneView) (r : RowView) → v.Known (decimal (open_count scene r)) → Made v (pegged_html scene r)
  pegged-cells scene r known =
      let count : RowView = count_row (open_count scene r) [] [] in
      either v (has_word 1 (codes "open") r && scene.whole) (row_html open_pieces count) order_unknown (row v open_pieces count laid-open_pieces (counted v (open_count scene r) [] [] known (nothing v) (nothing v))) (mark v order_unknown own-order_unknown)

  -- an open order's receipt, if there is one
  received-cells : (scene : SceneView) → SceneKnown v scene → (r : RowView) → v.Known (decimal (open_count scene r)) → (o : Option Receipt) → ((own : Receipt) → o ≡ Some own → All v.Known (receipt_cells own)) → Made v (received_html scene r o)
  received-cells scene seen r known None of = pegged-cells scene r known
  received-cells scene seen r known (Some own) of = table-dated v scene.tables seen.of-tables open_receipt (receipt_row own) laid-open_receipt (knows v s.Run (receipt_cells own) (of own refl))

  receipt-in : (tables : Option Facts) → TablesKnown v.Known tables → (r : RowView) (own : Receipt) → receipt_of tables r ≡ Some own → All v.Known (receipt_cells own)
  receipt-in None of r own is = absurd cc
  receipt-in (Some facts) of r own is = by (has_word 1 (codes "open") r) is
    where
      by : (b : Bool) → (if b then open_order facts.tables (cell_at r 0) (cell_at r 2) else None) ≡ Some own → All v.Known (receipt_cells own)
      by true found = of.of-orders (cell_at r 0) (cell_at r 2) own found
      by false found = absurd cc

  open-cells : (scene : SceneView) → SceneKnown v scene → (r : RowView) → v.Known (decimal (open_count scene r)) → Made v (open_html scene r)
  open-cells scene seen r known = received-cells scene seen r known (receipt_of scene.tables r) (λ own is. receipt-in scene.tables seen.of-tables r own is)

  order-cells : (kind : Kind) → OfKind kind → (scene : SceneView) → SceneKnown v scene → (r : RowView) → v.Known (decimal (open_count scene r)) → (p : RowView → Bool) (o : Option RowView) → ((q : RowView) → o ≡ Some q → (column : ℕ) → v.Known (cell_at q column)) → Made v (order_html kind scene r (passing p o))
  order-cells kind of scene seen r known p None all = open-cells scene seen r known
  order-cells kind of scene seen r known p (Some q) all = by (p q)
    where
      by : (b : Bool) → Made v (order_html kind scene r (if b then Some q else None))
      by true = dated-row v scene.tables seen.of-tables kind.order q of.order-laid (all q refl)
      by false = open-cells scene seen r known

  a-task : (kind : Kind) → OfKind kind → (scene : SceneView) → SceneKnown v scene → (r : RowView) → MessageKnown scene r → Made v (task_line kind scene r)
  unfolding task_line
  a-task kind of scene seen r known =
      let name : List ℕ = item_name_html scene.shown (cell_at r 0) in
      let says : List ℕ = row_html task_supply r in
      let supply : List ℕ = linked_html scene (order_of scene r) says in
      let of-order : List ℕ = order_html kind scene r (order_of scene r) in
      let value : List ℕ = dated_html scene.tables kind.value r in
      join v row_open (name ++ (task_middle ++ (supply ++ (codes "</td>" ++ (of-order ++ value))))) (mark v row_open own-row_open)
      (join v name (task_middle ++ (supply ++ (codes "</td>" ++ (of-order ++ value)))) (item-name v scene.shown (cell_at r 0) seen.led (known.cells-in 0))
      (join v task_middle (supply ++ (codes "</td>" ++ (of-order ++ value))) (mark v task_middle own-task_middle)
      (join v supply (codes "</td>" ++ (of-order ++ value)) (linked-order v scene seen (cell_at r 0) (cell_at r 1) (cell_at r 2) says (row v task_supply r laid-task_supply known.cells-in))
      (join v (codes "</td>") (of-order ++ value) (mark v (codes "</td>") own-cell-end)
      (join v of-order value
      (order-cells kind of scene seen r known.open-in (is_order (cell_at r 0) (cell_at r 1) (cell_at r 2)) (slice_get (rows_named (cell_at r 0) scene.orders) (place_of (cell_at r 2))) (order-known v scene seen (cell_at r 0) (place_of (cell_at r 2))))
      (dated-row v scene.tables seen.of-tables kind.value r of.value-laid known.cells-in))))))

  quantity-known : (t : List ℕ) → v.Known t → (column : ℕ) → v.Known (cell_at (pieces_row t) column)
  unfolding small_words
  quantity-known t known =
      let word : List ℕ = if same_text t (codes "1") then codes " piece" else codes " pieces" in
      knows v s.Run (t ∷ word ∷ []) (All-cons v.Known t (word ∷ []) known (All-cons v.Known word [] (by (same_text t (codes "1"))) (All-nil v.Known)))
    where
      by : (b : Bool) → v.Known (if b then codes " piece" else codes " pieces")
      by true = small v (codes " piece") 42 (omega arith) refl
      by false = small v (codes " pieces") 43 (omega arith) refl

  said-of-order : (tables : Option Facts) → TablesKnown v.Known tables → (r o : RowView) → ((column : ℕ) → v.Known (cell_at o column)) → Made v (said_order tables r o)
  unfolding said_order
  said-of-order tables of r o known =
      join v (row_html said_pieces (pieces_row (cell_at o 4))) (dated_html tables (weeks_of_order r) o) (row v said_pieces (pieces_row (cell_at o 4)) laid-said_pieces (quantity-known (cell_at o 4) (known 4))) (dated-row v tables of (weeks_of_order r) o (laid (is_release r)) known)
    where
      laid : (b : Bool) → Contains layouts (if b then said_start else said_week)
      laid true = laid-said_start
      laid false = laid-said_week

  said-open-of : (scene : SceneView) (r : RowView) → v.Known (decimal (open_count scene r)) → Made v (said_of_open scene r)
  unfolding said_of_open
  said-open-of scene r known =
      let pieces-of : RowView = pieces_row (decimal (open_count scene r)) in
      either v (has_word 1 (codes "open") r && scene.whole) (row_html said_pieces pieces-of) [] (row v said_pieces pieces-of laid-said_pieces (quantity-known (decimal (open_count scene r)) known)) (none v)

  said-receipt-of : (scene : SceneView) → SceneKnown v scene → (r : RowView) → v.Known (decimal (open_count scene r)) → (o : Option Receipt) → ((own : Receipt) → o ≡ Some own → All v.Known (receipt_cells own)) → Made v (said_of_receipt scene r o)
  unfolding said_received
  said-receipt-of scene seen r known None of = said-open-of scene r known
  said-receipt-of scene seen r known (Some own) of =
      let pieces-of : List ℕ = decimal own.quantity in
      let cells-of : (column : ℕ) → v.Known (cell_at (receipt_row own) column) = knows v s.Run (receipt_cells own) (of own refl) in
      join v (row_html said_pieces (pieces_row pieces-of)) (dated_html scene.tables said_receipt (receipt_row own)) (row v said_pieces (pieces_row pieces-of) laid-said_pieces (quantity-known pieces-of (cells-of 0))) (table-dated v scene.tables seen.of-tables said_receipt (receipt_row own) laid-said_receipt cells-of)

  said-unkept-of : (scene : SceneView) → SceneKnown v scene → (r : RowView) → v.Known (decimal (open_count scene r)) → Made v (said_of_receipt scene r (receipt_of scene.tables r))
  said-unkept-of scene seen r known = said-receipt-of scene seen r known (receipt_of scene.tables r) (λ own is. receipt-in scene.tables seen.of-tables r own is)

  said-known-of : (scene : SceneView) → SceneKnown v scene → (r : RowView) → v.Known (decimal (open_count scene r)) → (p : RowView → Bool) (o : Option RowView) → ((q : RowView) → o ≡ Some q → (column : ℕ) → v.Known (cell_at q column)) → Made v (said_known scene r (passing p o))
  said-known-of scene seen r known p None all = said-unkept-of scene seen r known
  said-known-of scene seen r known p (Some q) all = by (p q)
    where
      by : (b : Bool) → Made v (said_known scene r (if b then Some q else None))
      by true = said-of-order scene.tables seen.of-tables r q (all q refl)
      by false = said-unkept-of scene seen r known

  sentence : (scene : SceneView) → SceneKnown v scene → (r : RowView) → MessageKnown scene r → Made v (said_html scene r)
  unfolding said_html
  sentence scene seen r known =
      let front : List ℕ = row_html (front_of r) r in
      let supply : List ℕ = linked_html scene (order_of scene r) (row_html task_supply r) in
      let of-order : List ℕ = said_known scene r (order_of scene r) in
      let back : List ℕ = dated_html scene.tables (back_of r) r in
      join v front (supply ++ (of-order ++ back)) (row v (front_of r) r (laid-front (is_plain r)) known.cells-in)
      (join v supply (of-order ++ back) (linked-order v scene seen (cell_at r 0) (cell_at r 1) (cell_at r 2) (row_html task_supply r) (row v task_supply r laid-task_supply known.cells-in))
      (join v of-order back
      (said-known-of scene seen r known.open-in (is_order (cell_at r 0) (cell_at r 1) (cell_at r 2)) (slice_get (rows_named (cell_at r 0) scene.orders) (place_of (cell_at r 2))) (order-known v scene seen (cell_at r 0) (place_of (cell_at r 2))))
      (dated-row v scene.tables seen.of-tables (back_of r) r (laid-back (is_plain r)) known.cells-in)))
    where
      laid-front : (b : Bool) → Contains layouts (if b then said_front else said_other_front)
      laid-front true = laid-said_front
      laid-front false = laid-said_other_front

      laid-back : (b : Bool) → Contains layouts (if b then said_back else said_other_back)
      laid-back true = laid-said_back
      laid-back false = laid-said_other_back

  said-messages : (scene : SceneView) → SceneKnown v scene → (ms : List RowView) → All (MessageKnown scene) ms → v.Known (decimal (length (drop FEW_ROWS ms))) → Made v (said_or_none scene ms)
  unfolding said_or_none
  said-messages scene seen ms all count =
      either v (has_none ms) no_message (folded_html (said_listing scene) FEW_ROWS ms) (mark v no_message own-no_message)
      (folded v (MessageKnown scene) (said_listing scene) FEW_ROWS ms own-said_open own-list_end (λ r known. sentence scene seen r known) all count)

  pub said-named : (scene : SceneView) → SceneKnown v scene → (rows : ItemLists) (r : RowView) → All (MessageKnown scene) rows.messages → v.Known (decimal (length (drop FEW_ROWS (messages_at rows r)))) → Made v (item_messages scene rows r)
  unfolding item_messages
  said-named scene seen rows r all count =
      let of-item : List RowView = rows_named (cell_at r 0) rows.messages in
      said-messages scene seen (messages_at rows r) (All-permutation (MessageKnown scene) of-item (by_urgency of-item) (stand-once of-item) (all-named (MessageKnown scene) (cell_at r 0) rows.messages all)) count

  kind-part-of : (kind : Kind) → OfKind kind → (scene : SceneView) → SceneKnown v scene → (state : List ℕ) (rs : List RowView) → All (MessageKnown scene) rs → v.Known state → Counted v rs → Made v (kind_html kind scene state rs)
  unfolding kind_html
  kind-part-of kind of scene seen state rs all of-state counts =
      let head : List ℕ = row_html kind.head (count_row (length rs) state state) in
      let listing : Listing = kind_listing kind scene in
      let lines : List ℕ = capped_html listing SOME_ROWS rs in
      either v (has_none rs) [] (head ++ (lines ++ rest_end)) (none v)
      (join v head (lines ++ rest_end) (row v kind.head (count_row (length rs) state state) of.open-laid (counted v (length rs) state state counts.all-of of-state of-state))
      (join v lines rest_end (capped v (MessageKnown scene) listing rs of.front-own own-table_end (λ r known. a-task kind of scene seen r known) all counts) (mark v rest_end own-rest_end)))

  -- the counts of the messages, kind by kind, are known
  pub record AllCounted (ms : List RowView) : Type 0 where
    pub of-late : Counted v (messages_of ms late)
    pub of-release : Counted v (messages_of ms release)
    pub of-earlier : Counted v (messages_of ms earlier)
    pub of-later : Counted v (messages_of ms later)
    pub of-cancel : Counted v (messages_of ms cancel)
    pub of-other : Counted v (other_messages ms)

  state-known : (ms : List RowView) → v.Known (state_of ms)
  unfolding small_words
  state-known ms = by (nat_le (length ms) (2 * SOME_ROWS))
    where
      by : (b : Bool) → v.Known (if b then codes "open" else [])
      by true = small v (codes "open") 24 (omega arith) refl
      by false = nothing v

  in-order : (P : RowView → Type 0) (sorting : Sorting) (rs : List RowView) → All P rs → All P (in_order sorting rs)
  in-order P sorts.Day rs all = all
  in-order P sorts.Rising rs all = All-permutation P rs (sorted_by value_rank rs) (sorted-permutes value_rank rs) all
  in-order P sorts.Falling rs all = All-permutation P rs (sorted_by falling_rank rs) (sorted-permutes falling_rank rs) all

  a-kind : (kind : Kind) → OfKind kind → (scene : SceneView) → SceneKnown v scene → (ms : List RowView) → All (MessageKnown scene) ms → Counted v (messages_of ms kind) → Made v (kind_part scene ms kind)
  unfolding kind_part
  a-kind kind of scene seen ms all counts =
      kind-part-of kind of scene seen (state_of ms) (messages_of ms kind) (in-order (MessageKnown scene) kind.sorting (with_word 3 ms kind.word) (All-filter (has_word 3 kind.word) (MessageKnown scene) ms all)) (state-known ms) counts

  every-kind : (scene : SceneView) → SceneKnown v scene → (ms : List RowView) → All (MessageKnown scene) ms → AllCounted ms → Made v (kinds_html scene ms)
  unfolding kinds_html other_part
  every-kind scene seen ms all counts =
      let part-of : Kind → List ℕ = kind_part scene ms in
      let others : List ℕ = kind_html other scene (state_of ms) (other_messages ms) in
      join v (part-of late) (part-of release ++ (part-of earlier ++ (part-of later ++ (part-of cancel ++ others)))) (a-kind late of-late scene seen ms all counts.of-late)
      (join v (part-of release) (part-of earlier ++ (part-of later ++ (part-of cancel ++ others))) (a-kind release of-release scene seen ms all counts.of-release)
      (join v (part-of earlier) (part-of later ++ (part-of cancel ++ others)) (a-kind earlier of-earlier scene seen ms all counts.of-earlier)
      (join v (part-of later) (part-of cancel ++ others) (a-kind later of-later scene seen ms all counts.of-later)
      (join v (part-of cancel) others (a-kind cancel of-cancel scene seen ms all counts.of-cancel)
      (kind-part-of other of-other scene seen (state_of ms) (other_messages ms) (All-filter (λ message. not (is_plain message)) (MessageKnown scene) ms all) (state-known ms) counts.of-other)))))

  pub todo : (scene : SceneView) → SceneKnown v scene → (ms : List RowView) (missed : ℕ) → All (MessageKnown scene) ms → AllCounted ms → v.Known (decimal missed) → Made v (todo_html scene ms missed)
  unfolding todo_html todo_back small_words
  todo scene seen ms missed all counts known =
      let note : List ℕ = note_html ms missed in
      let parts : List ℕ = kinds_html scene ms in
      let past : List ℕ = more_html missed (codes "message, perhaps an urgent one, is") (codes "messages, urgent ones perhaps among them, are") in
      join v todo_open (note ++ (parts ++ (past ++ section_end))) (mark v todo_open own-todo_open)
      (join v note (parts ++ (past ++ section_end)) (either v (has_none ms && (missed == 0)) nothing_to_do todo_note (mark v nothing_to_do own-nothing_to_do) (mark v todo_note own-todo_note))
      (join v parts (past ++ section_end) (every-kind scene seen ms all counts)
      (join v past section_end (further v missed (codes "message, perhaps an urgent one, is") (codes "messages, urgent ones perhaps among them, are") known (small v (codes "message, perhaps an urgent one, is") 3 (omega arith) refl) (small v (codes "messages, urgent ones perhaps among them, are") 4 (omega arith) refl)) (mark v section_end own-section_end))))
