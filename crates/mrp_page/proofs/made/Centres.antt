-- Work centres.
use Rattle.std.proofs.Common.{◌≡◌, ◌⊎◌, ◌-◌, ◌<◌, ◌≤◌, ℕ, suc, Option, None, Some, List, [], ◌∷◌, ◌++◌, codes, decimal, drop, get_or, length, map, refl, sym, subst, take, unwrap_or, arith, inl, inr}
use Rattle.mrp_facts.specs.Facts.{Facts}
use Rattle.mrp_page.specs.Weeks.{weeks_html}
use Rattle.std.specs.Prelude.{◌==◌, ◌&&◌, count_by, nat_le}
use Rattle.std.proofs.lemmas.Bool.{cases_lt}
use Rattle.std.proofs.lemmas.List.{get_or_past}
use Rattle.std.proofs.lemmas.List.Elements.{All-cons, All-contains, All-contains_itself, All-drop, All-filter, All-map, All-nil, All-take, Contains-append_left, Contains-append_right}
use Rattle.std.specs.List.{All, Contains, flat_map}
use Rattle.mrp_page.specs.Amounts.{amount}
use Rattle.mrp_page.specs.Centres.{all_loads, centre_html, centres_back, each_centre, explained_note, framed_centre, later_loads, load_section, loads_html, loads_table, over_listing, over_or_none, shares_html, times_html, work_in}
use Rattle.mrp_page.specs.Draw.{has_none, more_html, table_html}
use Rattle.mrp_page.specs.Escaped.{escaped}
use Rattle.mrp_page.specs.Explained.{explained_html, explained_or_plain, explained_texts, falling_time, left_html, more_works_html, order_name_html, order_work, overload_html, plain_html, time_html, time_share, time_share_row, time_texts, work_line, work_texts, works_first, works_or_none, works_table}
use Rattle.mrp_page.specs.Folded.{capped_html}
use Rattle.mrp_page.specs.Frame.{count_row}
use Rattle.mrp_page.specs.Html.{is_zero}
use Rattle.std.proofs.lemmas.List.Sorted.{All-permutation}
use Rattle.mrp_page.specs.Sorted.{sorted_by}
use Rattle.mrp_page.proofs.ByKey.{sorted-permutes}
use Rattle.mrp_page.specs.Known.{centre_texts, load_texts, own_words, small_words}
use Rattle.mrp_page.specs.layout.Centres.{above_bar, above_end, capacity_label, centre_head, centre_open, centres_open, cut_bar, hot_bar, hot_end, load_chart, load_end, load_label, low_bar, low_end, none_over, over_label, over_open, over_words, share_cell, share_label}
use Rattle.mrp_page.specs.layout.Glance.{overloaded_line, overloaded_open}
use Rattle.mrp_page.specs.layout.Lists.{bullet_end, bullet_open, grid_end, rest_end, row_open, section_end, title_end, title_open}
use Rattle.mrp_page.specs.layout.Records.{later_open}
use Rattle.mrp_page.specs.layout.Work.{work_back, work_blank, work_count, work_end, work_head, work_name, work_note, work_open, work_operation, work_other, work_rest, work_share, work_unknown}
use Rattle.mrp_page.specs.Overloaded.{falling_rate, first_share, most_overloaded, name_of, overloaded, overloaded_first, overloaded_html, overloaded_row, share_of_all, share_sign, share_words, weeks_of, worst_week}
use Rattle.mrp_page.specs.Pictured.{bars_html, centre_frame, picture_html}
use Rattle.mrp_page.specs.Row.{RowView, cell_at}
use Rattle.mrp_page.specs.Rows.{greatest, leaders, rows_named}
use Rattle.mrp_page.specs.Scene.{SceneView}
use Rattle.mrp_page.specs.Shares.{falling_share, is_whole, minutes_at, minutes_html, minutes_tag, overloads_first, share_cells, share_of, share_row, titled_tag, week_rank, whole}
use Rattle.mrp_page.specs.Summary.{is_over, overloads}
use Rattle.mrp_page.specs.Template.{dated_html, row_html, rows_html}
use Rattle.mrp_page.specs.declared.limits.TheConstants.{MOST_EXPLAINED, MOST_OVERLOADED, SOME_ROWS, TABLE_WEEKS}
use Rattle.mrp_page.specs.Work.{WorkView, work_view, works_of}
use Rattle.mrp_page.specs.Numbering.{row_at}
use Rattle.mrp_work.specs.declared.order.Work.{Work}
use Rattle.mrp_work.specs.Work.{total}
use Rattle.mrp_qty.specs.Minutes.{minutes_text_of}
use Rattle.mrp_day.specs.declared.section.Section.TheVariants as s
use Rattle.mrp_page.proofs.made.Facts.{Made, TablesKnown, Vocabulary, WorksKnown}
use Rattle.mrp_page.proofs.made.Laid.{laid-above_bar, laid-centre_head, laid-centre_open, laid-cut_bar, laid-hot_bar, laid-load_chart, laid-load_end, laid-low_bar, laid-over_open, laid-over_words, laid-overloaded_line, laid-share_cell, laid-work_back, laid-work_count, laid-work_head, laid-work_name, laid-work_operation, laid-work_rest, laid-work_share}
use Rattle.mrp_page.proofs.made.Plain.{own-above_end, own-bullet_end, own-bullet_open, own-capacity_label, own-cell, own-cell-end, own-centres_open, own-empty, own-grid_end, own-hot_end, own-later_open, own-list_end, own-load_label, own-low_end, own-none, own-none_over, own-over_front, own-over_label, own-overloaded_open, own-rest_end, own-row-end, own-row_open, own-section_end, own-share_label, own-title_end, own-title_open, own-work_blank, own-work_end, own-work_note, own-work_open, own-work_other, own-work_unknown}
use Rattle.mrp_page.proofs.made.Pieces.{Counted, capped, counted, dated-row, each, either, further, join, knows, mark, none, nothing, row, rows-of, small, table, table-dated, table-row, text, unit}
use Rattle.mrp_page.proofs.made.Records.{top-known, weeks-of-rows}
use Rattle.mrp_page.proofs.made.Rows.{all-leaders, all-named, contains-flat}
use Rattle.mrp_page.proofs.made.Scene.{OrdersKnown, SceneKnown, linked-order}

module _ (v : Vocabulary) where
  -- a week of a work centre: its cells, and what is made of them
  pub record LoadKnown (r : RowView) : Type 0 where
    pub cells-of : (column : ℕ) → v.Known (cell_at r column)
    pub drawn-of : All v.Known (load_texts r)

  whole-load : (r : RowView) → LoadKnown r → v.Known (whole (cell_at r 2))
  whole-load r known = known.drawn-of 0 [] (omega arith)

  whole-capacity : (r : RowView) → LoadKnown r → v.Known (whole (cell_at r 3))
  whole-capacity r known = known.drawn-of 1 [] (omega arith)

  whole-over : (r : RowView) → LoadKnown r → v.Known (whole (cell_at r 4))
  whole-over r known = known.drawn-of 2 [] (omega arith)

  share-known : (r : RowView) → LoadKnown r → (column : ℕ) → v.Known (cell_at (share_row r) column)
  share-known r known = knows v s.Run (share_cells r (share_of r)) (λ k d within. known.drawn-of (suc (suc (suc k))) d (omega (arith, within)))

  shares-known : (rs : List RowView) → All LoadKnown rs → All (λ (r : RowView). (column : ℕ) → v.Known (cell_at r column)) (map share_row rs)
  shares-known rs all = All-map (λ (r : RowView). (column : ℕ) → v.Known (cell_at r column)) share_row rs (λ k d within. share-known (get_or rs k d) (all k d within))

  cells-known : (rs : List RowView) → All LoadKnown rs → All (λ (r : RowView). (column : ℕ) → v.Known (cell_at r column)) rs
  cells-known rs all = λ k d within. (all k d within).cells-of

  titled : (t : List ℕ) → v.Known t → Made v (titled_tag t)
  unfolding titled_tag
  titled t known = join v title_open (escaped t ++ title_end) (mark v title_open own-title_open) (join v (escaped t) title_end (text v t known) (mark v title_end own-title_end))

  minutes-tag : (t : List ℕ) → v.Known t → Made v (minutes_tag t)
  minutes-tag t known = either v (is_whole t) (codes "<td>") (titled_tag t) (mark v (codes "<td>") own-cell) (titled t known)

  minutes : (t : List ℕ) → v.Known t → v.Known (whole t) → Made v (minutes_html t)
  minutes t known of-whole =
      either v (is_zero t) (codes "<td></td>") (minutes_tag t ++ (escaped (whole t) ++ codes "</td>")) (mark v (codes "<td></td>") own-empty)
      (join v (minutes_tag t) (escaped (whole t) ++ codes "</td>") (minutes-tag t known) (join v (escaped (whole t)) (codes "</td>") (text v (whole t) of-whole) (mark v (codes "</td>") own-cell-end)))

  times : (label : List ℕ) (column : ℕ) (rs : List RowView) → Contains own_words label → ((r : RowView) → LoadKnown r → v.Known (whole (cell_at r column))) → All LoadKnown rs → Made v (times_html label column rs)
  unfolding times_html
  times label column rs is of-whole all =
      join v label (flat_map (minutes_at column) rs ++ codes "</tr>\n") (mark v label is)
      (join v (flat_map (minutes_at column) rs) (codes "</tr>\n") (each v LoadKnown (minutes_at column) (λ r known. minutes (cell_at r column) (known.cells-of column) (of-whole r known)) rs all) (mark v (codes "</tr>\n") own-row-end))

  bars : (ss : List RowView) → All (λ (r : RowView). (column : ℕ) → v.Known (cell_at r column)) ss → Made v (bars_html ss)
  unfolding bars_html
  bars ss all =
      let low : List ℕ = table_html [] low_bar ss low_end in
      let hot : List ℕ = table_html [] hot_bar ss hot_end in
      let above : List ℕ = table_html [] above_bar ss above_end in
      let cut : List ℕ = rows_html cut_bar ss in
      join v low (hot ++ (above ++ cut)) (table v [] low_bar ss low_end own-none laid-low_bar all own-low_end)
      (join v hot (above ++ cut) (table v [] hot_bar ss hot_end own-none laid-hot_bar all own-hot_end)
      (join v above cut (table v [] above_bar ss above_end own-none laid-above_bar all own-above_end) (rows-of v cut_bar ss laid-cut_bar all)))

  picture : (f : RowView) (ss : List RowView) → ((column : ℕ) → v.Known (cell_at f column)) → All (λ (r : RowView). (column : ℕ) → v.Known (cell_at r column)) ss → Made v (picture_html f ss)
  unfolding picture_html
  picture f ss known all = join v (row_html load_chart f) (bars_html ss ++ row_html load_end f) (row v load_chart f laid-load_chart known) (join v (bars_html ss) (row_html load_end f) (bars ss all) (row v load_end f laid-load_end known))

  loads : (rs : List RowView) → All LoadKnown rs → Made v (loads_html rs)
  unfolding loads_html shares_html
  loads rs all =
      let load-of : List ℕ = times_html load_label 2 rs in
      let capacity-of : List ℕ = times_html capacity_label 3 rs in
      let share-row-of : List ℕ = table_html share_label share_cell (map share_row rs) (codes "</tr>\n") in
      let over-of : List ℕ = times_html over_label 4 rs in
      join v load-of (capacity-of ++ (share-row-of ++ (over-of ++ grid_end))) (times load_label 2 rs own-load_label whole-load all)
      (join v capacity-of (share-row-of ++ (over-of ++ grid_end)) (times capacity_label 3 rs own-capacity_label whole-capacity all)
      (join v share-row-of (over-of ++ grid_end) (table v share_label share_cell (map share_row rs) (codes "</tr>\n") own-share_label laid-share_cell (shares-known rs all) own-row-end)
      (join v over-of grid_end (times over_label 4 rs own-over_label whole-over all) (mark v grid_end own-grid_end))))

  loads-table : (tables : Option Facts) → TablesKnown v.Known tables → (f : RowView) (rs : List RowView) → ((column : ℕ) → v.Known (cell_at f column)) → All LoadKnown rs → Made v (loads_table tables f rs)
  unfolding loads_table
  loads-table tables of f rs known all =
      join v (row_html centre_head f) (weeks_html tables rs ++ loads_html rs) (row v centre_head f laid-centre_head known) (join v (weeks_html tables rs) (loads_html rs) (weeks-of-rows v tables of rs (cells-known rs all)) (loads rs all))

  loads-later : (tables : Option Facts) → TablesKnown v.Known tables → (f : RowView) (rs : List RowView) → ((column : ℕ) → v.Known (cell_at f column)) → All LoadKnown rs → Made v (later_loads tables f rs)
  unfolding later_loads
  loads-later tables of f rs known all =
      either v (has_none rs) [] (later_open ++ (loads_table tables f rs ++ rest_end)) (none v)
      (join v later_open (loads_table tables f rs ++ rest_end) (mark v later_open own-later_open) (join v (loads_table tables f rs) rest_end (loads-table tables of f rs known all) (mark v rest_end own-rest_end)))

  loads-all : (tables : Option Facts) → TablesKnown v.Known tables → (f : RowView) (rs : List RowView) → ((column : ℕ) → v.Known (cell_at f column)) → All LoadKnown rs → Made v (all_loads tables f rs)
  unfolding all_loads
  loads-all tables of f rs known all =
      join v (loads_table tables f (take TABLE_WEEKS rs)) (later_loads tables f (drop TABLE_WEEKS rs)) (loads-table tables of f (take TABLE_WEEKS rs) known (All-take LoadKnown TABLE_WEEKS rs all)) (loads-later tables of f (drop TABLE_WEEKS rs) known (All-drop LoadKnown TABLE_WEEKS rs all))

  centre-framed : (tables : Option Facts) → TablesKnown v.Known tables → (f : RowView) (rs : List RowView) → ((column : ℕ) → v.Known (cell_at f column)) → All LoadKnown rs → Made v (framed_centre tables f rs)
  unfolding framed_centre
  centre-framed tables of f rs known all =
      let drawn : List ℕ = picture_html f (map share_row rs) in
      join v (row_html centre_open f) (drawn ++ (all_loads tables f rs ++ section_end)) (row v centre_open f laid-centre_open known)
      (join v drawn (all_loads tables f rs ++ section_end) (picture f (map share_row rs) known (shares-known rs all))
      (join v (all_loads tables f rs) section_end (loads-all tables of f rs known all) (mark v section_end own-section_end)))

  centre-frame : (name : List ℕ) (rs : List RowView) → v.Known name → All LoadKnown rs → (column : ℕ) → v.Known (cell_at (centre_frame name rs) column)
  centre-frame name rs known all =
      let last : List ℕ = greatest 1 (codes "1") rs in
      knows v s.Run (name ∷ last ∷ [] ∷ []) (All-cons v.Known name (last ∷ [] ∷ []) known (All-cons v.Known last ([] ∷ []) (top-known v 1 (codes "1") rs (unit v) (cells-known rs all)) (All-cons v.Known [] [] (nothing v) (All-nil v.Known))))

  centre : (tables : Option Facts) → TablesKnown v.Known tables → (ls : List RowView) (r : RowView) → All LoadKnown ls → LoadKnown r → Made v (centre_html tables ls r)
  unfolding centre_html
  centre tables of ls r all known =
      let name : List ℕ = cell_at r 0 in
      let own-loads : List RowView = rows_named name ls in
      let of-loads : All LoadKnown own-loads = all-named LoadKnown name ls all in
      centre-framed tables of (centre_frame name own-loads) own-loads (centre-frame name own-loads (known.cells-of 0) of-loads) of-loads

  each-centre : (tables : Option Facts) → TablesKnown v.Known tables → (ls rs : List RowView) → All LoadKnown ls → All LoadKnown rs → Made v (each_centre tables ls rs)
  unfolding each_centre
  each-centre tables of ls rs all leads = each v LoadKnown (centre_html tables ls) (λ r known. centre tables of ls r all known) rs leads

  share-words : (o : Option ℕ) (digits : List ℕ) → v.Known digits → v.Known (share_words o digits)
  unfolding small_words
  share-words None digits known = small v (codes "no capacity") 40 (omega arith) refl
  share-words (Some percent) digits known = known

  share-sign : (o : Option ℕ) → v.Known (share_sign o)
  unfolding small_words
  share-sign None = nothing v
  share-sign (Some percent) = small v (codes " %") 41 (omega arith) refl

  -- The operations that load an overload.

  a-share : (load : RowView) (time : ℕ) → All v.Known (time_texts load time) → (column : ℕ) → v.Known (cell_at (time_share_row load time) column)
  a-share load time texts =
      let digits : List ℕ = decimal (unwrap_or (time_share load time) 0) in
      let words-of : List ℕ = share_words (time_share load time) digits in
      let sign-of : List ℕ = share_sign (time_share load time) in
      knows v s.Run (words-of ∷ sign-of ∷ [])
      (All-cons v.Known words-of (sign-of ∷ []) (share-words (time_share load time) digits (texts 2 [] (omega arith))) (All-cons v.Known sign-of [] (share-sign (time_share load time)) (All-nil v.Known)))

  a-time : (load : RowView) (time : ℕ) → All v.Known (time_texts load time) → Made v (time_html load time)
  unfolding time_html
  a-time load time texts =
      join v (minutes_html (minutes_text_of time)) (row_html work_share (time_share_row load time)) (minutes (minutes_text_of time) (texts 0 [] (omega arith)) (texts 1 [] (omega arith)))
      (table-row v work_share (time_share_row load time) laid-work_share (a-share load time texts))

  order-named : (scene : SceneView) → SceneKnown v scene → (r : RowView) → ((column : ℕ) → v.Known (cell_at r column)) → Made v (order_name_html scene r)
  order-named scene seen r known = linked-order v scene seen (cell_at r 0) (cell_at r 2) (cell_at r 1) (row_html work_name r) (table-row v work_name r laid-work_name known)

  a-work : (scene : SceneView) → SceneKnown v scene → (r load : RowView) (work : Work) → ((column : ℕ) → v.Known (cell_at r column)) → All v.Known (work_texts load work) → Made v (order_work scene r load work)
  unfolding order_work
  a-work scene seen r load work known texts =
      let named : List ℕ = order_name_html scene r in
      let numbered-of : List ℕ = row_html work_operation (count_row work.operation [] []) in
      let timed : List ℕ = time_html load work.time in
      let back : List ℕ = dated_html scene.tables work_back r in
      join v row_open (named ++ (numbered-of ++ (timed ++ back))) (mark v row_open own-row_open)
      (join v named (numbered-of ++ (timed ++ back)) (order-named scene seen r known)
      (join v numbered-of (timed ++ back) (table-row v work_operation (count_row work.operation [] []) laid-work_operation (counted v work.operation [] [] (texts 0 [] (omega arith)) (nothing v) (nothing v)))
      (join v timed back (a-time load work.time (λ k d within. texts (suc k) d (omega (arith, within)))) (table-dated v scene.tables seen.of-tables work_back r laid-work_back known))))

  row-known : (rs : List RowView) → All (λ (r : RowView). (column : ℕ) → v.Known (cell_at r column)) rs → (place : ℕ) → (column : ℕ) → v.Known (cell_at (row_at rs place) column)
  row-known rs all place = by (cases_lt place (length rs))
    where
      by : (place < length rs) ⊎ (length rs ≤ place) → (column : ℕ) → v.Known (cell_at (row_at rs place) column)
      by (inl within) = all place (record { section = s.Run; cells = [] }) within
      by (inr past) = subst (λ (r : RowView). (column : ℕ) → v.Known (cell_at r column)) (sym (get_or_past rs place (record { section = s.Run; cells = [] }) past)) (knows v s.Run [] (All-nil v.Known))

  the-rest : (load : RowView) (works : List Work) → v.Known (decimal (length works)) → All v.Known (time_texts load (total works)) → Made v (more_works_html load works)
  unfolding more_works_html
  the-rest load works count texts =
      let head : List ℕ = row_html work_rest (count_row (length works) [] []) in
      let timed : List ℕ = time_html load (total works) in
      either v (length works == 0) [] (head ++ (timed ++ work_blank)) (none v)
      (join v head (timed ++ work_blank) (table-row v work_rest (count_row (length works) [] []) laid-work_rest (counted v (length works) [] [] count (nothing v) (nothing v)))
      (join v timed work_blank (a-time load (total works) texts) (mark v work_blank own-work_blank)))

  what-else : (load : RowView) (time : ℕ) → All v.Known (time_texts load time) → Made v (left_html load time)
  unfolding left_html
  what-else load time texts =
      let timed : List ℕ = time_html load time in
      either v (time == 0) [] (work_other ++ (timed ++ work_blank)) (none v)
      (join v work_other (timed ++ work_blank) (mark v work_other own-work_other) (join v timed work_blank (a-time load time texts) (mark v work_blank own-work_blank)))

  -- the texts of an overload, part by part
  record WorkKnown (load : RowView) (works : List Work) : Type 0 where
    all-of : v.Known (decimal (length works))
    rest-of : v.Known (decimal (length (drop SOME_ROWS (works_first works))))
    rest-time : All v.Known (time_texts load (total (drop SOME_ROWS (works_first works))))
    other-time : All v.Known (time_texts load (amount (cell_at load 2) - total works))
    each-of : All (λ (work : Work). All v.Known (work_texts load work)) works

  work-known : (load : RowView) (works : List Work) → All v.Known (explained_texts load works) → WorkKnown load works
  work-known load works texts =
      let counts : List (List ℕ) = decimal (length works) ∷ decimal (length (drop SOME_ROWS (works_first works))) ∷ [] in
      let rest-texts : List (List ℕ) = time_texts load (total (drop SOME_ROWS (works_first works))) in
      let other-texts : List (List ℕ) = time_texts load (amount (cell_at load 2) - total works) in
      let each-texts : List (List ℕ) = flat_map (work_texts load) works in
      let has : (t : List ℕ) → Contains (explained_texts load works) t → v.Known t = λ t is. All-contains v.Known (explained_texts load works) t texts is in
      let after : (t : List ℕ) → Contains (rest-texts ++ (other-texts ++ each-texts)) t → Contains (explained_texts load works) t = λ t is. Contains-append_right counts (rest-texts ++ (other-texts ++ each-texts)) t is in
      record {
        all-of = texts 0 [] (omega arith);
        rest-of = texts 1 [] (omega arith);
        rest-time = λ k d within. has (get_or rest-texts k d) (after (get_or rest-texts k d) (Contains-append_left rest-texts (other-texts ++ each-texts) (get_or rest-texts k d) (All-contains_itself rest-texts k d within)));
        other-time = λ k d within. has (get_or other-texts k d) (after (get_or other-texts k d) (Contains-append_right rest-texts (other-texts ++ each-texts) (get_or other-texts k d) (Contains-append_left other-texts each-texts (get_or other-texts k d) (All-contains_itself other-texts k d within))));
        each-of = λ k d within i t inside.
            let work : Work = get_or works k d in
            let own-text : List ℕ = get_or (work_texts load work) i t in
            let at : Contains works work = All-contains_itself works k d within in
            has own-text (after own-text (Contains-append_right rest-texts (other-texts ++ each-texts) own-text (Contains-append_right other-texts each-texts own-text (contains-flat (work_texts load) works work own-text at.0 at.1 at.2 (All-contains_itself (work_texts load work) i t inside)))));
      }

  the-works : (scene : SceneView) → SceneKnown v scene → (orders : List RowView) → All (λ (r : RowView). (column : ℕ) → v.Known (cell_at r column)) orders → (load : RowView) → LoadKnown load → (works : List Work) → WorkKnown load works → Made v (works_table scene orders load works)
  unfolding works_table
  the-works scene seen orders of-orders load known works texts =
      let first : List Work = works_first works in
      let of-first : All (λ (work : Work). All v.Known (work_texts load work)) first = All-permutation (λ (work : Work). All v.Known (work_texts load work)) works first (sorted-permutes falling_time works) texts.each-of in
      let head : List ℕ = row_html work_head (share_row load) in
      let lines : List ℕ = flat_map (work_line scene orders load) (take SOME_ROWS first) in
      let rest : List ℕ = more_works_html load (drop SOME_ROWS first) in
      let other-of : List ℕ = left_html load (amount (cell_at load 2) - total works) in
      join v head (lines ++ (rest ++ (other-of ++ grid_end))) (table-row v work_head (share_row load) laid-work_head (share-known load known))
      (join v lines (rest ++ (other-of ++ grid_end))
      (each v (λ (work : Work). All v.Known (work_texts load work)) (work_line scene orders load) (λ work is. a-work scene seen (row_at orders work.order) load work (row-known orders of-orders work.order) is) (take SOME_ROWS first) (All-take (λ (work : Work). All v.Known (work_texts load work)) SOME_ROWS first of-first))
      (join v rest (other-of ++ grid_end) (the-rest load (drop SOME_ROWS first) texts.rest-of texts.rest-time)
      (join v other-of grid_end (what-else load (amount (cell_at load 2) - total works) texts.other-time) (mark v grid_end own-grid_end))))

  over-words : (tables : Option Facts) → TablesKnown v.Known tables → (r : RowView) → LoadKnown r → Made v (dated_html tables over_words (share_row r))
  over-words tables of r known = dated-row v tables of over_words (share_row r) laid-over_words (share-known r known)

  explained : (scene : SceneView) → SceneKnown v scene → (orders : List RowView) → All (λ (r : RowView). (column : ℕ) → v.Known (cell_at r column)) orders → (load : RowView) → LoadKnown load → (works : List Work) → WorkKnown load works → Made v (explained_html scene orders load works)
  unfolding explained_html works_or_none small_words
  explained scene seen orders of-orders load known works texts =
      let words : List ℕ = dated_html scene.tables over_words (share_row load) in
      let count : List ℕ = row_html work_count (count_row (length works) (codes "operation") (codes "operations")) in
      let inner : List ℕ = works_or_none scene orders load works in
      join v work_open (words ++ (count ++ (inner ++ work_end))) (mark v work_open own-work_open)
      (join v words (count ++ (inner ++ work_end)) (over-words scene.tables seen.of-tables load known)
      (join v count (inner ++ work_end) (table-row v work_count (count_row (length works) (codes "operation") (codes "operations")) laid-work_count (counted v (length works) (codes "operation") (codes "operations") texts.all-of (small v (codes "operation") 46 (omega arith) refl) (small v (codes "operations") 47 (omega arith) refl)))
      (join v inner work_end
      (either v (nat_le (total works) (amount (cell_at load 2))) (works_table scene orders load works) work_unknown (the-works scene seen orders of-orders load known works texts) (mark v work_unknown own-work_unknown))
      (mark v work_end own-work_end))))

  -- an overload: its cells, and what is known of the operations that load it
  record OverKnown (ls : List RowView) (r : RowView) : Type 0 where
    load-of : LoadKnown r
    kept-in : Contains ls r

  plain-over : (tables : Option Facts) → TablesKnown v.Known tables → (r : RowView) → LoadKnown r → Made v (plain_html tables r)
  unfolding plain_html
  plain-over tables of r known =
      let words : List ℕ = dated_html tables over_words (share_row r) in
      join v bullet_open (words ++ bullet_end) (mark v bullet_open own-bullet_open)
      (join v words bullet_end (over-words tables of r known) (mark v bullet_end own-bullet_end))

  an-over : (scene : SceneView) → SceneKnown v scene → (work : Option WorkView) (ls : List RowView) → OrdersKnown v work → WorksKnown v.Known work ls → (r : RowView) → OverKnown ls r → Made v (overload_html scene work r)
  an-over scene seen None ls of-orders of-works r known = plain-over scene.tables seen.of-tables r known.load-of
  an-over scene seen (Some work) ls of-orders of-works r known = by (works_of work r) refl
    where
      by : (o : Option (List Work)) → works_of work r ≡ o → Made v (explained_or_plain scene work.orders r o)
      by None is = plain-over scene.tables seen.of-tables r known.load-of
      by (Some works) is = explained scene seen work.orders of-orders r known.load-of works (work-known r works (of-works r known.kept-in works is))

  over-or-none : (scene : SceneView) → SceneKnown v scene → (work : Option WorkView) (ls : List RowView) → OrdersKnown v work → WorksKnown v.Known work ls → (missed : ℕ) (rs : List RowView) → All (OverKnown ls) rs → Counted v rs → Made v (over_or_none scene work missed rs)
  unfolding over_or_none
  over-or-none scene seen work ls of-orders of-works missed rs all counts =
      let head : List ℕ = row_html over_open (count_row (length rs) [] []) in
      let lines : List ℕ = capped_html (over_listing scene work) SOME_ROWS rs in
      either v (has_none rs && (missed == 0)) none_over (head ++ (explained_note work ++ lines)) (mark v none_over own-none_over)
      (join v head (explained_note work ++ lines) (row v over_open (count_row (length rs) [] []) laid-over_open (counted v (length rs) [] [] counts.all-of (nothing v) (nothing v)))
      (join v (explained_note work) lines (note work)
      (capped v (OverKnown ls) (over_listing scene work) rs own-over_front own-list_end (λ r known. an-over scene seen work ls of-orders of-works r known) all counts)))
    where
      note : (o : Option WorkView) → Made v (explained_note o)
      note None = none v
      note (Some view) = mark v work_note own-work_note

  name-known : (rs : List RowView) → All LoadKnown rs → v.Known (name_of rs)
  name-known [] all = nothing v
  name-known (r ∷ rs) all = (all 0 r (omega arith)).cells-of 0

  first-known : (rs : List RowView) → All LoadKnown rs → (column : ℕ) → v.Known (cell_at (first_share rs) column)
  first-known [] all = knows v s.Run [] (All-nil v.Known)
  first-known (r ∷ rs) all = share-known r (all 0 r (omega arith))

  worst-known : (rs : List RowView) → All LoadKnown rs → (column : ℕ) → v.Known (cell_at (worst_week rs) column)
  worst-known rs all = first-known (sorted_by falling_share (overloads rs)) (All-permutation LoadKnown (overloads rs) (sorted_by falling_share (overloads rs)) (sorted-permutes falling_share (overloads rs)) (All-filter is_over LoadKnown rs all))

  -- a work centre that is over its capacity: its weeks, and what is counted of them
  pub record CentreKnown (rs : List RowView) : Type 0 where
    weeks-known : All LoadKnown rs
    texts-known : All v.Known (centre_texts rs)

  overloaded-known : (rs : List RowView) → CentreKnown rs → (column : ℕ) → v.Known (cell_at (overloaded_row rs) column)
  overloaded-known rs known =
      let over : List ℕ = decimal (count_by is_over rs) in
      let weeks-of : List ℕ = decimal (length rs) in
      let digits : List ℕ = decimal (unwrap_or (share_of_all rs) 0) in
      let worst : RowView = worst_week rs in
      let words-of : List ℕ = share_words (share_of_all rs) digits in
      let sign-of : List ℕ = share_sign (share_of_all rs) in
      knows v s.Run (name_of rs ∷ over ∷ weeks-of ∷ cell_at worst 2 ∷ cell_at worst 3 ∷ cell_at worst 1 ∷ words-of ∷ sign-of ∷ [])
      (All-cons v.Known (name_of rs) (over ∷ weeks-of ∷ cell_at worst 2 ∷ cell_at worst 3 ∷ cell_at worst 1 ∷ words-of ∷ sign-of ∷ []) (name-known rs known.weeks-known)
      (All-cons v.Known over (weeks-of ∷ cell_at worst 2 ∷ cell_at worst 3 ∷ cell_at worst 1 ∷ words-of ∷ sign-of ∷ []) (known.texts-known 0 [] (omega arith))
      (All-cons v.Known weeks-of (cell_at worst 2 ∷ cell_at worst 3 ∷ cell_at worst 1 ∷ words-of ∷ sign-of ∷ []) (known.texts-known 1 [] (omega arith))
      (All-cons v.Known (cell_at worst 2) (cell_at worst 3 ∷ cell_at worst 1 ∷ words-of ∷ sign-of ∷ []) (worst-known rs known.weeks-known 2)
      (All-cons v.Known (cell_at worst 3) (cell_at worst 1 ∷ words-of ∷ sign-of ∷ []) (worst-known rs known.weeks-known 3)
      (All-cons v.Known (cell_at worst 1) (words-of ∷ sign-of ∷ []) (worst-known rs known.weeks-known 1)
      (All-cons v.Known words-of (sign-of ∷ []) (share-words (share_of_all rs) digits (known.texts-known 2 [] (omega arith)))
      (All-cons v.Known sign-of [] (share-sign (share_of_all rs)) (All-nil v.Known)))))))))

  an-overloaded : (tables : Option Facts) → TablesKnown v.Known tables → (rs : List RowView) → CentreKnown rs → Made v (overloaded_html tables rs)
  unfolding overloaded_html
  an-overloaded tables of rs known =
      let f : RowView = centre_frame (name_of rs) rs in
      join v (dated_html tables overloaded_line (overloaded_row rs)) (picture_html f (map share_row rs)) (dated-row v tables of overloaded_line (overloaded_row rs) laid-overloaded_line (overloaded-known rs known))
      (picture f (map share_row rs) (centre-frame (name_of rs) rs (name-known rs known.weeks-known) known.weeks-known) (shares-known rs known.weeks-known))

  pub most-of : (tables : Option Facts) → TablesKnown v.Known tables → (cs : List (List RowView)) → All CentreKnown cs → Made v (most_overloaded tables cs)
  unfolding most_overloaded
  most-of tables of cs all =
      let lines : List ℕ = flat_map (overloaded_html tables) (take MOST_OVERLOADED cs) in
      either v (length cs == 0) [] (overloaded_open ++ (lines ++ section_end)) (none v)
      (join v overloaded_open (lines ++ section_end) (mark v overloaded_open own-overloaded_open)
      (join v lines section_end (each v CentreKnown (overloaded_html tables) (λ rs known. an-overloaded tables of rs known) (take MOST_OVERLOADED cs) (All-take CentreKnown MOST_OVERLOADED cs all)) (mark v section_end own-section_end)))

  pub most-known : (ls : List RowView) → All LoadKnown ls → All (λ (rs : List RowView). All v.Known (centre_texts rs)) (overloaded ls) → All CentreKnown (overloaded_first ls)
  most-known ls all texts =
      let leads : List RowView = leaders [] (overloads ls) in
      let weeks-in : All (All LoadKnown) (overloaded ls) = All-map (All LoadKnown) (weeks_of ls) leads (λ k d within. all-named LoadKnown (cell_at (get_or leads k d) 0) ls all) in
      All-permutation CentreKnown (overloaded ls) (overloaded_first ls) (sorted-permutes falling_rate (overloaded ls))
      (λ k d within. record { weeks-known = weeks-in k d within; texts-known = texts k d within })

  over-known : (ls : List RowView) → All LoadKnown ls → All (OverKnown ls) (overloads_first ls)
  over-known ls all =
      let over-of : List RowView = overloads ls in
      let first : List RowView = sorted_by falling_share over-of in
      let each-of : All (OverKnown ls) ls = λ k d within. record { load-of = all k d within; kept-in = All-contains_itself ls k d within } in
      All-permutation (OverKnown ls) first (sorted_by week_rank first) (sorted-permutes week_rank first)
      (All-permutation (OverKnown ls) over-of first (sorted-permutes falling_share over-of) (All-filter is_over (OverKnown ls) ls each-of))

  orders-known : (tables : Option Facts) (orders asked : List RowView) → All (λ (r : RowView). (column : ℕ) → v.Known (cell_at r column)) orders → OrdersKnown v (work_view tables orders asked)
  orders-known None orders asked all = tt
  orders-known (Some facts) orders asked all = all

  pub centres : (scene : SceneView) → SceneKnown v scene → (ls : List RowView) (missed : ℕ) → WorksKnown v.Known (work_in scene ls) ls → All LoadKnown ls → Counted v (overloads_first ls) → v.Known (decimal missed) → Made v (load_section scene ls missed)
  unfolding load_section centres_back small_words
  centres scene seen ls missed of-works all counts known =
      let over-of : List ℕ = over_or_none scene (work_in scene ls) missed (overloads_first ls) in
      let each-of : List ℕ = each_centre scene.tables ls (leaders [] ls) in
      let past : List ℕ = more_html missed (codes "week of a work centre is") (codes "weeks of work centres are") in
      join v centres_open (over-of ++ (each-of ++ (past ++ section_end))) (mark v centres_open own-centres_open)
      (join v over-of (each-of ++ (past ++ section_end))
      (over-or-none scene seen (work_in scene ls) ls (orders-known scene.tables scene.orders (take MOST_EXPLAINED (overloads_first ls)) seen.of-orders) of-works missed (overloads_first ls) (over-known ls all) counts)
      (join v each-of (past ++ section_end) (each-centre scene.tables seen.of-tables ls (leaders [] ls) all (all-leaders LoadKnown [] ls all))
      (join v past section_end (further v missed (codes "week of a work centre is") (codes "weeks of work centres are") known (small v (codes "week of a work centre is") 5 (omega arith) refl) (small v (codes "weeks of work centres are") 6 (omega arith) refl)) (mark v section_end own-section_end))))
