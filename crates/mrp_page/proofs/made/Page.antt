-- Pages consist of fixed markup and of texts that are known.
use Rattle.std.proofs.Common.{◌≡◌, ◌-◌, ◌<◌, ℕ, true, Option, List, [], ◌∷◌, ◌++◌, codes, decimal, drop, get_or, length, refl, take, arith}
use Rattle.mrp_facts.specs.Facts.{Facts}
use Rattle.mrp_page.specs.Dates.{date_in}
use Rattle.mrp_page.specs.Weeks.{start_html}
use Rattle.std.proofs.lemmas.List.Elements.{All-cons, All-contains, All-contains_itself, All-nil, Contains-append_left, Contains-append_right}
use Rattle.std.specs.List.{All, Contains, flat_map}
use Rattle.std.specs.Prelude.{nat_le}
use Rattle.mrp_page.specs.Centres.{load_section, work_in}
use Rattle.mrp_page.specs.Draw.{has_item, history_html, more_items}
use Rattle.mrp_page.specs.Frame.{heading, last_week, count_row}
use Rattle.mrp_page.specs.ItemRows.{ItemLists, item_lists}
use Rattle.mrp_page.specs.Items.{index_html, items_html, message_count}
use Rattle.mrp_page.specs.Kinds.{cancel, earlier, late, later, messages_of, open_count, other_messages, release, todo_html}
use Rattle.mrp_page.specs.Known.{count_texts, index_texts, item_texts, list_counts, listed_texts, load_texts, open_texts, outs_texts, overloaded_texts, own_counts, row_lists, summary_counts, own_scene, risk_texts}
use Rattle.mrp_page.specs.layout.Head.{page_end, page_head, page_items, page_top, style, head_end, page_shown}
use Rattle.mrp_page.specs.Notes.{Noted}
use Rattle.mrp_page.specs.Page.{glance_html, head_html, items_of, page_html, page_of, rest_html, scene_in, shown_items, top_html, shown_html}
use Rattle.mrp_page.specs.AtRisk.{RisksView}
use Rattle.mrp_page.specs.Promises.{risks_html}
use Rattle.mrp_page.specs.Refused.{refused_section}
use Rattle.mrp_page.specs.Row.{RowView, cell_at}
use Rattle.mrp_page.specs.Rows.{greatest, rows_in, rows_named}
use Rattle.mrp_page.specs.Said.{messages_at}
use Rattle.mrp_page.specs.Scene.{SceneView}
use Rattle.mrp_page.specs.Shares.{overloads_first}
use Rattle.mrp_page.specs.Summary.{summary_html}
use Rattle.mrp_page.specs.Template.{row_html}
use Rattle.mrp_page.specs.declared.limits.TheConstants.{FEW_ROWS, MOST_LINES, SOME_ROWS}
use Rattle.mrp_day.specs.declared.section.Section.{Section}
use Rattle.mrp_page.specs.Unshown.{unshown}
use Rattle.mrp_day.specs.declared.section.Section.TheVariants as s
use Rattle.mrp_page.proofs.made.Centres.{LoadKnown, centres}
use Rattle.mrp_page.proofs.made.Facts.{Made, TablesKnown, Vocabulary, WorksKnown}
use Rattle.mrp_page.proofs.made.Glance.{at-risk, glance, item-text}
use Rattle.mrp_page.proofs.made.Items.{AllKnown, IndexKnown, history-of, index, items, more-items}
use Rattle.mrp_page.proofs.made.Laid.{laid-page_head, laid-page_items, laid-page_top, laid-page_shown}
use Rattle.mrp_page.proofs.made.OfKind.{of-cancel, of-earlier, of-late, of-later, of-other, of-release}
use Rattle.mrp_page.proofs.made.Plain.{own-page_end, own-style, own-head_end}
use Rattle.mrp_page.proofs.made.Pieces.{Counted, date-known, join, knows, mark, nought, row, table-row, counted, either, none, nothing}
use Rattle.mrp_page.proofs.made.Records.{a-start, top-known}
use Rattle.mrp_page.proofs.made.Rows.{all-in, all-shown, contains-flat}
use Rattle.mrp_page.proofs.made.Scene.{SceneKnown, unkept}
use Rattle.mrp_page.proofs.made.Summary.{summed}
use Rattle.mrp_page.proofs.made.Todo.{AllCounted, MessageKnown, todo}

module _ (v : Vocabulary) where
  page-head : (tables : Option Facts) → TablesKnown v.Known tables → (r : RowView) → ((column : ℕ) → v.Known (cell_at r column)) → Made v (head_html tables r)
  unfolding head_html
  page-head tables of r known =
      let start : List ℕ = start_html (date_in tables (codes "1")) in
      join v (row_html page_top r) (style ++ (row_html page_head r ++ (start ++ row_html page_items r))) (row v page_top r laid-page_top known)
      (join v style (row_html page_head r ++ (start ++ row_html page_items r)) (mark v style own-style)
      (join v (row_html page_head r) (start ++ row_html page_items r) (row v page_head r laid-page_head known)
      (join v start (row_html page_items r) (a-start v (date_in tables (codes "1")) (date-known v tables of (codes "1"))) (table-row v page_items r laid-page_items known))))

  last-week-known : (report : List RowView) → All (λ (r : RowView). (column : ℕ) → v.Known (cell_at r column)) report → v.Known (last_week report)
  last-week-known report all =
      let of-in : (section : Section) → All (λ (r : RowView). (column : ℕ) → v.Known (cell_at r column)) (rows_in section report) = λ section. all-in (λ (r : RowView). (column : ℕ) → v.Known (cell_at r column)) section report all in
      top-known v 1 (greatest 1 (codes "0") (rows_in s.Plan report)) (rows_in s.Loads report) (top-known v 1 (codes "0") (rows_in s.Plan report) (nought v) (of-in s.Plan)) (of-in s.Loads)

  headed : (title : List ℕ) (report : List RowView) (number : ℕ) → v.Known title → v.Known (decimal number) → All (λ (r : RowView). (column : ℕ) → v.Known (cell_at r column)) report → (column : ℕ) → v.Known (cell_at (heading title report number) column)
  headed title report number known of-number all =
      let run : List RowView = rows_in s.Run report in
      let of-run : All (λ (r : RowView). (column : ℕ) → v.Known (cell_at r column)) run = all-in (λ (r : RowView). (column : ℕ) → v.Known (cell_at r column)) s.Run report all in
      let a : List ℕ = greatest 0 (codes "0") run in
      let b : List ℕ = greatest 1 (codes "0") run in
      let c : List ℕ = last_week report in
      knows v s.Run (title ∷ a ∷ b ∷ c ∷ decimal number ∷ []) (All-cons v.Known title (a ∷ b ∷ c ∷ decimal number ∷ []) known (All-cons v.Known a (b ∷ c ∷ decimal number ∷ []) (top-known v 0 (codes "0") run (nought v) of-run)
      (All-cons v.Known b (c ∷ decimal number ∷ []) (top-known v 1 (codes "0") run (nought v) of-run) (All-cons v.Known c (decimal number ∷ []) (last-week-known report all) (All-cons v.Known (decimal number) [] of-number (All-nil v.Known))))))

  all-lists : (report : List RowView) → All (λ (r : RowView). (column : ℕ) → v.Known (cell_at r column)) report → AllKnown v (item_lists report)
  all-lists report all = record {
    promises = all-in (λ (r : RowView). (column : ℕ) → v.Known (cell_at r column)) s.Promises report all;
    plan = all-in (λ (r : RowView). (column : ℕ) → v.Known (cell_at r column)) s.Plan report all;
    orders = all-in (λ (r : RowView). (column : ℕ) → v.Known (cell_at r column)) s.Orders report all;
    pegs = all-in (λ (r : RowView). (column : ℕ) → v.Known (cell_at r column)) s.Pegs report all;
    messages = all-in (λ (r : RowView). (column : ℕ) → v.Known (cell_at r column)) s.Messages report all;
  }

  later-counts : (notes : Noted) → All (Contains (own_counts notes)) (summary_counts notes.history (rows_in s.Messages notes.report) (rows_in s.Loads notes.report))
  later-counts notes = λ k d within.
      let counts : List (List ℕ) = summary_counts notes.history (rows_in s.Messages notes.report) (rows_in s.Loads notes.report) in
      let first : List (List ℕ) = take 11 (own_counts notes) in
      Contains-append_right first counts (get_or counts k d) (All-contains_itself counts k d within)

  counted-list : (notes : Noted) → All v.Known (count_texts notes) → (rs : List RowView) → Contains (row_lists notes) rs → Counted v rs
  counted-list notes counts rs has =
      let one : (t : List ℕ) → Contains (list_counts rs) t → v.Known t = λ t is. All-contains v.Known (count_texts notes) t counts (Contains-append_right (own_counts notes) (listed_texts notes) t (Contains-append_left (flat_map list_counts (row_lists notes)) (flat_map load_texts (rows_in s.Loads notes.report) ++ item_texts notes) t (contains-flat list_counts (row_lists notes) rs t has.0 has.1 has.2 is))) in
      record {
        all-of = one (decimal (length rs)) (0, omega arith, refl);
        rest-of = one (decimal (length (drop SOME_ROWS (take MOST_LINES rs)))) (1, omega arith, refl);
        past-of = one (decimal (length (drop MOST_LINES rs))) (2, omega arith, refl);
      }

  loads-known : (notes : Noted) → All v.Known (count_texts notes) → All (λ (r : RowView). (column : ℕ) → v.Known (cell_at r column)) (rows_in s.Loads notes.report) → All (LoadKnown v) (rows_in s.Loads notes.report)
  loads-known notes counts all = λ k d within.
      let loaded : List RowView = rows_in s.Loads notes.report in
      let r : RowView = get_or loaded k d in
      let has : Contains loaded r = All-contains_itself loaded k d within in
      record {
        cells-of = all k d within;
        drawn-of = λ i t inside. All-contains v.Known (count_texts notes) (get_or (load_texts r) i t) counts
            (Contains-append_right (own_counts notes) (listed_texts notes) (get_or (load_texts r) i t) (Contains-append_right (flat_map list_counts (row_lists notes)) (flat_map load_texts loaded ++ item_texts notes) (get_or (load_texts r) i t)
            (Contains-append_left (flat_map load_texts loaded) (item_texts notes) (get_or (load_texts r) i t) (contains-flat load_texts loaded r (get_or (load_texts r) i t) has.0 has.1 has.2 (All-contains_itself (load_texts r) i t inside)))));
      }

  messages-known : (tables : Option Facts) (notes : Noted) → All v.Known (count_texts notes) → All (λ (r : RowView). (column : ℕ) → v.Known (cell_at r column)) (rows_in s.Messages notes.report) → All (MessageKnown v (scene_in tables notes)) (rows_in s.Messages notes.report)
  messages-known tables notes counts all = λ k d within.
      let ms : List RowView = rows_in s.Messages notes.report in
      let r : RowView = get_or ms k d in
      let t : List ℕ = decimal (open_count (own_scene notes) r) in
      let has : Contains ms r = All-contains_itself ms k d within in
      record {
        cells-in = all k d within;
        open-in = item-text v notes counts t (Contains-append_left (flat_map (open_texts (own_scene notes)) ms) (flat_map (index_texts ms) (shown_items (item_lists notes.report)) ++ (outs_texts notes ++ overloaded_texts notes)) t (contains-flat (open_texts (own_scene notes)) ms r t has.0 has.1 has.2 (0, omega arith, refl)));
      }

  index-known : (notes : Noted) → All v.Known (count_texts notes) → All (λ (r : RowView). v.Shown (cell_at r 0)) (shown_items (item_lists notes.report)) → All (IndexKnown v (rows_in s.Messages notes.report)) (shown_items (item_lists notes.report))
  index-known notes counts led = λ k d within.
      let ms : List RowView = rows_in s.Messages notes.report in
      let rs : List RowView = shown_items (item_lists notes.report) in
      let r : RowView = get_or rs k d in
      let t : List ℕ = decimal (message_count ms r) in
      let has : Contains rs r = All-contains_itself rs k d within in
      record {
        led-to = led k d within;
        counted-of = item-text v notes counts t (Contains-append_right (flat_map (open_texts (own_scene notes)) ms) (flat_map (index_texts ms) rs ++ (outs_texts notes ++ overloaded_texts notes)) t
            (Contains-append_left (flat_map (index_texts ms) rs) (outs_texts notes ++ overloaded_texts notes) t (contains-flat (index_texts ms) rs r t has.0 has.1 has.2 (0, omega arith, refl))));
      }

  -- how many messages of each item are folded is known
  folds-known : (notes : Noted) → All v.Known (count_texts notes) → All (λ (r : RowView). v.Known (decimal (length (drop FEW_ROWS (messages_at (item_lists notes.report) r))))) (shown_items (item_lists notes.report))
  folds-known notes counts = λ k d within.
      let ms : List RowView = rows_in s.Messages notes.report in
      let rs : List RowView = shown_items (item_lists notes.report) in
      let r : RowView = get_or rs k d in
      let t : List ℕ = decimal (length (drop FEW_ROWS (messages_at (item_lists notes.report) r))) in
      let has : Contains rs r = All-contains_itself rs k d within in
      item-text v notes counts t
      (Contains-append_right (flat_map (open_texts (own_scene notes)) ms) (flat_map (index_texts ms) rs ++ (outs_texts notes ++ overloaded_texts notes)) t
      (Contains-append_left (flat_map (index_texts ms) rs) (outs_texts notes ++ overloaded_texts notes) t (contains-flat (index_texts ms) rs r t has.0 has.1 has.2 (1, omega arith, refl))))

  a-top : (title : List ℕ) (tables : Option Facts) (report : List RowView) (items shown : ℕ) → Made v (head_html tables (heading title report items)) → v.Known (decimal shown) → Made v (top_html title tables report items shown)
  unfolding top_html shown_html
  a-top title tables report items shown of-head known =
      let head : List ℕ = head_html tables (heading title report items) in
      let more : List ℕ = shown_html items shown in
      join v head (more ++ head_end) of-head
      (join v more head_end
      (either v (nat_le items shown) [] (row_html page_shown (count_row shown [] [])) (none v) (row v page_shown (count_row shown [] []) laid-page_shown (counted v shown [] [] known (nothing v) (nothing v))))
      (mark v head_end own-head_end))

  pub page : (title : List ℕ) (tables : Option Facts) (notes : Noted) (risks : RisksView) → TablesKnown v.Known tables → WorksKnown v.Known (work_in (scene_in tables notes) (rows_in s.Loads notes.report)) (rows_in s.Loads notes.report) → v.Known title → All (λ (r : RowView). (column : ℕ) → v.Known (cell_at r column)) notes.history → All (λ (r : RowView). (column : ℕ) → v.Known (cell_at r column)) notes.report → All v.Known (count_texts notes) → All v.Known (risk_texts risks)
      → All (λ (r : RowView). v.Shown (cell_at r 0)) (shown_items (item_lists notes.report)) → All (λ (r : RowView). v.Kept (cell_at r 0)) notes.history
      → ((name : List ℕ) → has_item (shown_items (item_lists notes.report)) name ≡ true → All (λ (r : RowView). v.Ordered (cell_at r 1) name) (rows_named name (rows_in s.Orders notes.report))) → Made v (page_html title tables notes risks)
  unfolding page_html page_of rest_html items_of
  page title tables notes risks of of-works known entries all counts risk-texts led kept leads =
      let count : (k : ℕ) → k < 20 → v.Known (get_or (own_counts notes) k []) = λ k within. All-contains v.Known (count_texts notes) (get_or (own_counts notes) k []) counts (Contains-append_left (own_counts notes) (listed_texts notes) (get_or (own_counts notes) k []) (All-contains_itself (own_counts notes) k [] (omega (arith, within)))) in
      let of-list : (rs : List RowView) → Contains (row_lists notes) rs → Counted v rs = λ rs has. counted-list notes counts rs has in
      let lists : ItemLists = item_lists notes.report in
      let of-lists : AllKnown v lists = all-lists notes.report all in
      let shown : List RowView = shown_items lists in
      let of-shown : All (λ (r : RowView). (column : ℕ) → v.Known (cell_at r column)) shown = all-shown (λ (r : RowView). (column : ℕ) → v.Known (cell_at r column)) lists of-lists.messages of-lists.plan in
      let scene : SceneView = scene_in tables notes in
      let seen : SceneKnown v scene = record { led = led; of-shown = of-shown; of-orders = of-lists.orders; of-pegs = of-lists.pegs; of-entries = entries; kept = kept; leads-to = leads; of-tables = of } in
      let loaded : List RowView = rows_in s.Loads notes.report in
      let of-loaded : All (LoadKnown v) loaded = loads-known notes counts (all-in (λ (r : RowView). (column : ℕ) → v.Known (cell_at r column)) s.Loads notes.report all) in
      let top : List ℕ = top_html title tables notes.report notes.counts.items (length shown) in
      let sums : List ℕ = summary_html notes.history lists.messages loaded risks in
      let of-sums : All v.Known (summary_counts notes.history lists.messages loaded) = λ k d within. All-contains v.Known (count_texts notes) (get_or (summary_counts notes.history lists.messages loaded) k d) counts (Contains-append_left (own_counts notes) (listed_texts notes) (get_or (summary_counts notes.history lists.messages loaded) k d) (later-counts notes k d within)) in
      let calls : List ℕ = refused_section scene notes.counts.history in
      let promises : List ℕ = risks_html scene risks in
      let todos : List ℕ = todo_html scene lists.messages notes.counts.messages in
      let of-messages : AllCounted v lists.messages = record { of-late = of-list (messages_of lists.messages late) (1, omega arith, refl); of-release = of-list (messages_of lists.messages release) (2, omega arith, refl); of-earlier = of-list (messages_of lists.messages earlier) (3, omega arith, refl); of-later = of-list (messages_of lists.messages later) (4, omega arith, refl); of-cancel = of-list (messages_of lists.messages cancel) (5, omega arith, refl); of-other = of-list (other_messages lists.messages) (6, omega arith, refl) } in
      let at-once : List ℕ = glance_html scene notes.report notes.counts.plan in
      let centred : List ℕ = load_section scene loaded notes.counts.loads in
      let indexed : List ℕ = index_html lists.messages shown in
      let each-item : List ℕ = items_html scene lists notes.counts.promises shown in
      let item-parts : List ℕ = indexed ++ (each-item ++ more_items (unshown lists shown notes.counts) shown) in
      let past : List ℕ = history_html tables notes.history notes.counts.history in
      join v top (sums ++ (at-once ++ (calls ++ (promises ++ (todos ++ (centred ++ (item-parts ++ (past ++ page_end))))))))
      (a-top title tables notes.report notes.counts.items (length shown) (page-head tables of (heading title notes.report notes.counts.items) (headed title notes.report notes.counts.items known (count 8 (omega arith)) all)) (count 10 (omega arith)))
      (join v sums (at-once ++ (calls ++ (promises ++ (todos ++ (centred ++ (item-parts ++ (past ++ page_end)))))))
      (summed v notes.history lists.messages loaded risks of-sums (risk-texts 0 [] (omega arith)))
      (join v at-once (calls ++ (promises ++ (todos ++ (centred ++ (item-parts ++ (past ++ page_end)))))) (glance v tables notes seen of-lists.plan of-loaded counts)
      (join v calls (promises ++ (todos ++ (centred ++ (item-parts ++ (past ++ page_end)))))
      (unkept v scene seen notes.counts.history (count 7 (omega arith)) (count 9 (omega arith)))
      (join v promises (todos ++ (centred ++ (item-parts ++ (past ++ page_end)))) (at-risk v scene seen risks risk-texts)
      (join v todos (centred ++ (item-parts ++ (past ++ page_end)))
      (todo v scene seen lists.messages notes.counts.messages (messages-known tables notes counts of-lists.messages) of-messages (count 0 (omega arith)))
      (join v centred (item-parts ++ (past ++ page_end))
      (centres v scene seen loaded notes.counts.loads of-works of-loaded (of-list (overloads_first loaded) (0, omega arith, refl)) (count 1 (omega arith)))
      (join v item-parts (past ++ page_end)
      (join v indexed (each-item ++ more_items (unshown lists shown notes.counts) shown) (index v lists.messages shown (index-known notes counts led))
      (join v each-item (more_items (unshown lists shown notes.counts) shown) (items v scene seen lists notes.counts.promises shown of-lists (messages-known tables notes counts of-lists.messages) of-shown (folds-known notes counts))
      (more-items v (unshown lists shown notes.counts) shown (count 2 (omega arith)) (count 3 (omega arith)) (count 4 (omega arith)) (count 5 (omega arith)) (count 6 (omega arith)))))
      (join v past page_end (history-of v tables of notes.history notes.counts.history entries (count 7 (omega arith))) (mark v page_end own-page_end)))))))))
