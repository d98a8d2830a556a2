-- What stands at a glance, and the promises at risk.
use Rattle.std.proofs.Common.{◌-◌, ℕ, suc, Bool, true, false, Option, None, Some, List, [], ◌∷◌, ◌++◌, codes, decimal, get_or, length, map, refl, take, arith, not}
use Rattle.mrp_facts.specs.Facts.{Facts}
use Rattle.mrp_page.specs.ItemFacts.{safety_cell_html}
use Rattle.std.specs.Prelude.{if◌then◌else◌, ◌==◌, ◌&&◌, nat_le}
use Rattle.std.proofs.lemmas.List.Elements.{All-cons, All-contains, All-contains_itself, All-filter, All-map, All-nil, All-take, Contains-append_left, Contains-append_right}
use Rattle.std.specs.List.{All, Contains, filter, find, flat_map}
use Rattle.mrp_page.specs.Amounts.{amount}
use Rattle.mrp_page.specs.Draw.{has_none, item_name_html, more_html}
use Rattle.mrp_page.specs.Folded.{capped_html}
use Rattle.mrp_page.specs.Frame.{count_row}
use Rattle.mrp_page.specs.ItemRows.{item_lists}
use Rattle.std.proofs.lemmas.List.Sorted.{All-permutation}
use Rattle.mrp_page.specs.Sorted.{sorted_by}
use Rattle.mrp_page.proofs.ByKey.{sorted-permutes}
use Rattle.mrp_page.specs.Known.{centre_texts, count_texts, index_texts, item_texts, list_counts, listed_texts, load_texts, open_texts, out_texts, outs_texts, overloaded_texts, own_counts, row_lists, small_words, own_scene, risk_texts}
use Rattle.mrp_page.specs.layout.Glance.{glance_open, none_out, out_cells, out_first_open, out_late, outs_front, outs_head_end, outs_note, outs_safety}
use Rattle.mrp_page.specs.layout.Lists.{row_open, section_end, table_end}
use Rattle.mrp_page.specs.layout.Risk.{none_at_risk, risk_booking, risk_middle, risk_note, risk_open, risk_order, risks_unknown}
use Rattle.mrp_page.specs.layout.Todo.{weeks_late}
use Rattle.mrp_page.specs.Notes.{Noted}
use Rattle.mrp_page.specs.Outs.{falling_late, first_planned, is_planned, lateness, left_in, out_line, out_row, outs_back, outs_first, outs_html, outs_section, outs_table, safety_head, short_weeks, sign}
use Rattle.mrp_page.specs.Page.{glance_html, scene_in, shown_items}
use Rattle.mrp_page.specs.Orders.{linked_html, ordered}
use Rattle.mrp_page.specs.Overloaded.{most_overloaded, overloaded, overloaded_first}
use Rattle.mrp_page.specs.AtRisk.{RisksView}
use Rattle.mrp_page.specs.Promises.{risk_end, risk_line, risk_listing, risks_first, risks_html, risks_or_none}
use Rattle.mrp_page.specs.Refused.{entry_name_html}
use Rattle.mrp_page.specs.Row.{RowView, cell_at}
use Rattle.mrp_page.specs.Rows.{rows_in, rows_named}
use Rattle.mrp_page.specs.Scene.{SceneView}
use Rattle.mrp_page.specs.Shares.{week_rank}
use Rattle.mrp_page.specs.Template.{dated_html, has_word, row_html}
use Rattle.mrp_page.specs.declared.limits.TheConstants.{FEW_ROWS, SOME_ROWS}
use Rattle.mrp_day.specs.declared.section.Section.TheVariants as s
use Rattle.mrp_page.proofs.made.Centres.{LoadKnown, most-known, most-of}
use Rattle.mrp_page.proofs.made.Facts.{Made, Vocabulary}
use Rattle.mrp_page.proofs.made.Laid.{laid-out_cells, laid-out_late, laid-outs_note, laid-risk_middle, laid-risk_order, laid-weeks_late}
use Rattle.mrp_page.proofs.made.Plain.{own-cell-end, own-glance_open, own-none_at_risk, own-none_out, own-out_first_open, own-outs_front, own-outs_head_end, own-outs_safety, own-row_open, own-risk_booking, own-risk_front, own-risk_note, own-risk_open, own-risks_unknown, own-section_end, own-table_end}
use Rattle.mrp_page.proofs.made.Pieces.{Counted, capped, counted, dated-row, each, either, entry-name, further, item-name, join, knows, mark, none, nothing, row, small}
use Rattle.mrp_page.proofs.made.Records.{safety-cell}
use Rattle.mrp_page.proofs.made.Rows.{all-leaders, all-named, contains-flat}
use Rattle.mrp_page.proofs.made.Scene.{SceneKnown, linked-order}

module _ (v : Vocabulary) where
  -- the texts of items are known
  pub item-text : (notes : Noted) → All v.Known (count_texts notes) → (t : List ℕ) → Contains (item_texts notes) t → v.Known t
  item-text notes counts t has =
      let loaded : List (List ℕ) = flat_map load_texts (rows_in s.Loads notes.report) in
      All-contains v.Known (count_texts notes) t counts (Contains-append_right (own_counts notes) (listed_texts notes) t (Contains-append_right (flat_map list_counts (row_lists notes)) (loaded ++ item_texts notes) t (Contains-append_right loaded (item_texts notes) t has)))

  -- the texts of items that run out are known
  outs-text : (notes : Noted) → All v.Known (count_texts notes) → All v.Known (outs_texts notes)
  outs-text notes counts = λ k d within.
      let ms : List RowView = rows_in s.Messages notes.report in
      let rs : List RowView = shown_items (item_lists notes.report) in
      let t : List ℕ = get_or (outs_texts notes) k d in
      item-text notes counts t
      (Contains-append_right (flat_map (open_texts (own_scene notes)) ms) (flat_map (index_texts ms) rs ++ (outs_texts notes ++ overloaded_texts notes)) t
      (Contains-append_right (flat_map (index_texts ms) rs) (outs_texts notes ++ overloaded_texts notes) t (Contains-append_left (outs_texts notes) (overloaded_texts notes) t (All-contains_itself (outs_texts notes) k d within))))

  -- the texts of overloaded work centres are known
  overloaded-texts : (notes : Noted) → All v.Known (count_texts notes) → All (λ (rs : List RowView). All v.Known (centre_texts rs)) (overloaded (rows_in s.Loads notes.report))
  overloaded-texts notes counts = λ k d within i e inside.
      let ms : List RowView = rows_in s.Messages notes.report in
      let rs : List RowView = shown_items (item_lists notes.report) in
      let cs : List (List RowView) = overloaded (rows_in s.Loads notes.report) in
      let c : List RowView = get_or cs k d in
      let t : List ℕ = get_or (centre_texts c) i e in
      let has : Contains cs c = All-contains_itself cs k d within in
      item-text notes counts t
      (Contains-append_right (flat_map (open_texts (own_scene notes)) ms) (flat_map (index_texts ms) rs ++ (outs_texts notes ++ overloaded_texts notes)) t
      (Contains-append_right (flat_map (index_texts ms) rs) (outs_texts notes ++ overloaded_texts notes) t (Contains-append_right (outs_texts notes) (overloaded_texts notes) t
      (contains-flat centre_texts cs c t has.0 has.1 has.2 (All-contains_itself (centre_texts c) i e inside)))))

  -- what stands of an item that runs out is known
  out-known : (scene : SceneView) → SceneKnown v scene → (r : RowView) → ((column : ℕ) → v.Known (cell_at r column)) → v.Known (decimal (left_in r)) → (column : ℕ) → v.Known (cell_at (out_row scene r) column)
  unfolding small_words
  out-known scene seen r known of-left =
      let minus : List ℕ = sign (amount (cell_at r 7)) (amount (cell_at r 5)) in
      let late-of : List ℕ = lateness (first_planned scene r) in
      knows v s.Run (cell_at r 0 ∷ cell_at r 1 ∷ minus ∷ decimal (left_in r) ∷ late-of ∷ [])
      (All-cons v.Known (cell_at r 0) (cell_at r 1 ∷ minus ∷ decimal (left_in r) ∷ late-of ∷ []) (known 0)
      (All-cons v.Known (cell_at r 1) (minus ∷ decimal (left_in r) ∷ late-of ∷ []) (known 1)
      (All-cons v.Known minus (decimal (left_in r) ∷ late-of ∷ []) (minus-is (nat_le (amount (cell_at r 5)) (amount (cell_at r 7))))
      (All-cons v.Known (decimal (left_in r)) (late-of ∷ []) of-left
      (All-cons v.Known late-of [] (late-in (rows_named (cell_at r 0) scene.orders) (all-named (λ (r : RowView). (column : ℕ) → v.Known (cell_at r column)) (cell_at r 0) scene.orders seen.of-orders)) (All-nil v.Known))))))
    where
      minus-is : (b : Bool) → v.Known (if b then [] else codes "-")
      minus-is true = nothing v
      minus-is false = small v (codes "-") 39 (omega arith) refl

      late-in : (rs : List RowView) → All (λ (r : RowView). (column : ℕ) → v.Known (cell_at r column)) rs → v.Known (lateness (find (has_word 2 (codes "planned")) rs))
      late-in [] all = nothing v
      late-in (o ∷ rs) all = by (has_word 2 (codes "planned") o) (all 0 o (omega arith)) (late-in rs (λ k d within. all (suc k) d (omega arith)))
        where
          by : (b : Bool) → ((column : ℕ) → v.Known (cell_at o column)) → v.Known (lateness (find (has_word 2 (codes "planned")) rs)) → v.Known (lateness (if b then Some o else find (has_word 2 (codes "planned")) rs))
          by true here rest = here 7
          by false here rest = rest

  outs-known : (tables : Option Facts) (notes : Noted) → SceneKnown v (scene_in tables notes) → All (λ (r : RowView). (column : ℕ) → v.Known (cell_at r column)) (rows_in s.Plan notes.report) → All v.Known (count_texts notes) → All (λ (r : RowView). (column : ℕ) → v.Known (cell_at r column)) (outs_first (scene_in tables notes) (rows_in s.Plan notes.report))
  outs-known tables notes seen all counts =
      let scene : SceneView = scene_in tables notes in
      let plan : List RowView = rows_in s.Plan notes.report in
      let weeks-of : List RowView = short_weeks plan in
      let of-weeks : All (λ (r : RowView). (column : ℕ) → v.Known (cell_at r column)) weeks-of = all-leaders (λ (r : RowView). (column : ℕ) → v.Known (cell_at r column)) [] (filter is_planned plan) (All-filter is_planned (λ (r : RowView). (column : ℕ) → v.Known (cell_at r column)) plan all) in
      let outs : List RowView = map (out_row scene) weeks-of in
      let first : List RowView = sorted_by falling_late outs in
      let of-outs : All (λ (r : RowView). (column : ℕ) → v.Known (cell_at r column)) outs = All-map (λ (r : RowView). (column : ℕ) → v.Known (cell_at r column)) (out_row scene) weeks-of
      (λ k d within.
      let r : RowView = get_or weeks-of k d in
      let has : Contains weeks-of r = All-contains_itself weeks-of k d within in
      let t : List ℕ = decimal (left_in r) in
      let texts : List (List ℕ) = flat_map out_texts weeks-of in
      out-known scene seen r (of-weeks k d within) (All-contains v.Known (outs_texts notes) t (outs-text notes counts) (Contains-append_right (decimal notes.counts.plan ∷ decimal (length (outs_first scene plan)) ∷ []) texts t (contains-flat out_texts weeks-of r t has.0 has.1 has.2 (0, omega arith, refl))))) in
      All-permutation (λ (r : RowView). (column : ℕ) → v.Known (cell_at r column)) first (sorted_by week_rank first) (sorted-permutes week_rank first) (All-permutation (λ (r : RowView). (column : ℕ) → v.Known (cell_at r column)) outs first (sorted-permutes falling_late outs) of-outs)

  an-out : (scene : SceneView) → SceneKnown v scene → (r : RowView) → ((column : ℕ) → v.Known (cell_at r column)) → Made v (out_line scene r)
  unfolding out_line
  an-out scene seen r known =
      let name : List ℕ = item_name_html scene.shown (cell_at r 0) in
      let cells : List ℕ = dated_html scene.tables out_cells r in
      let stock : List ℕ = safety_cell_html scene.tables (cell_at r 0) in
      let last : List ℕ = row_html out_late r in
      join v row_open (name ++ (cells ++ (stock ++ last))) (mark v row_open own-row_open)
      (join v name (cells ++ (stock ++ last)) (item-name v scene.shown (cell_at r 0) seen.led (known 0))
      (join v cells (stock ++ last) (dated-row v scene.tables seen.of-tables out_cells r laid-out_cells known)
      (join v stock last (safety-cell v scene.tables seen.of-tables (cell_at r 0)) (row v out_late r laid-out_late known))))

  outs-table : (scene : SceneView) → SceneKnown v scene → (rs : List RowView) → All (λ (r : RowView). (column : ℕ) → v.Known (cell_at r column)) rs → Made v (outs_table scene rs)
  unfolding outs_table
  outs-table scene seen rs all =
      let lines : List ℕ = flat_map (out_line scene) rs in
      let stock : List ℕ = safety_head scene.tables in
      join v outs_front (stock ++ (outs_head_end ++ (lines ++ table_end))) (mark v outs_front own-outs_front)
      (join v stock (outs_head_end ++ (lines ++ table_end)) (head-of scene.tables)
      (join v outs_head_end (lines ++ table_end) (mark v outs_head_end own-outs_head_end)
      (join v lines table_end (each v (λ (r : RowView). (column : ℕ) → v.Known (cell_at r column)) (out_line scene) (λ r known. an-out scene seen r known) rs all) (mark v table_end own-table_end))))
    where
      head-of : (tables : Option Facts) → Made v (safety_head tables)
      head-of None = none v
      head-of (Some facts) = mark v outs_safety own-outs_safety

  outs-of : (scene : SceneView) → SceneKnown v scene → (missed : ℕ) (rs : List RowView) → All (λ (r : RowView). (column : ℕ) → v.Known (cell_at r column)) rs → v.Known (decimal (length rs)) → Made v (outs_html scene missed rs)
  unfolding outs_html
  outs-of scene seen missed rs all known =
      let note : List ℕ = row_html outs_note (count_row (length rs) [] []) in
      let lines : List ℕ = outs_table scene (take FEW_ROWS rs) in
      either v (has_none rs && (missed == 0)) none_out (note ++ lines) (mark v none_out own-none_out)
      (join v note lines (row v outs_note (count_row (length rs) [] []) laid-outs_note (counted v (length rs) [] [] known (nothing v) (nothing v)))
      (outs-table scene seen (take FEW_ROWS rs) (All-take (λ (r : RowView). (column : ℕ) → v.Known (cell_at r column)) FEW_ROWS rs all)))

  run-out : (tables : Option Facts) (notes : Noted) → SceneKnown v (scene_in tables notes) → All (λ (r : RowView). (column : ℕ) → v.Known (cell_at r column)) (rows_in s.Plan notes.report) → All v.Known (count_texts notes) → (missed : ℕ) → v.Known (decimal missed) → Made v (outs_section (scene_in tables notes) (rows_in s.Plan notes.report) missed)
  unfolding outs_section outs_back small_words
  run-out tables notes seen all counts missed known =
      let scene : SceneView = scene_in tables notes in
      let outs : List RowView = outs_first scene (rows_in s.Plan notes.report) in
      let lines : List ℕ = outs_html scene missed outs in
      let past : List ℕ = more_html missed (codes "week of a record is") (codes "weeks of records are") in
      join v out_first_open (lines ++ (past ++ section_end)) (mark v out_first_open own-out_first_open)
      (join v lines (past ++ section_end) (outs-of scene seen missed outs (outs-known tables notes seen all counts) (outs-text notes counts 1 [] (omega arith)))
      (join v past section_end (further v missed (codes "week of a record is") (codes "weeks of records are") known (small v (codes "week of a record is") 9 (omega arith) refl) (small v (codes "weeks of records are") 10 (omega arith) refl)) (mark v section_end own-section_end)))

  -- what stands at a glance
  pub glance : (tables : Option Facts) (notes : Noted) → SceneKnown v (scene_in tables notes) → All (λ (r : RowView). (column : ℕ) → v.Known (cell_at r column)) (rows_in s.Plan notes.report) → All (LoadKnown v) (rows_in s.Loads notes.report) → All v.Known (count_texts notes) → Made v (glance_html (scene_in tables notes) notes.report notes.counts.plan)
  unfolding glance_html
  glance tables notes seen of-plan of-loads counts =
      let outs : List ℕ = outs_section (scene_in tables notes) (rows_in s.Plan notes.report) notes.counts.plan in
      let centres-of : List (List RowView) = overloaded_first (rows_in s.Loads notes.report) in
      join v glance_open (outs ++ (most_overloaded tables centres-of ++ section_end)) (mark v glance_open own-glance_open)
      (join v outs (most_overloaded tables centres-of ++ section_end) (run-out tables notes seen of-plan counts notes.counts.plan (outs-text notes counts 0 [] (omega arith)))
      (join v (most_overloaded tables centres-of) section_end (most-of v tables seen.of-tables centres-of (most-known v (rows_in s.Loads notes.report) of-loads (overloaded-texts notes counts))) (mark v section_end own-section_end)))

  -- The bookings at risk.

  a-risk : (scene : SceneView) → SceneKnown v scene → (r : RowView) → ((column : ℕ) → v.Known (cell_at r column)) → Made v (risk_line scene r)
  unfolding risk_line risk_end
  a-risk scene seen r known =
      let name : List ℕ = item_name_html scene.shown (cell_at r 0) in
      let booking : List ℕ = entry_name_html scene.history (cell_at r 2) in
      let cells : List ℕ = dated_html scene.tables risk_middle r in
      let says : List ℕ = row_html risk_order r in
      let waits-for : List ℕ = linked_html scene (ordered scene (cell_at r 5) (cell_at r 7) (cell_at r 6)) says in
      let weeks-of : List ℕ = row_html weeks_late r in
      join v row_open (name ++ (risk_booking ++ (booking ++ (cells ++ (waits-for ++ (codes "</td>" ++ weeks-of)))))) (mark v row_open own-row_open)
      (join v name (risk_booking ++ (booking ++ (cells ++ (waits-for ++ (codes "</td>" ++ weeks-of))))) (item-name v scene.shown (cell_at r 0) seen.led (known 0))
      (join v risk_booking (booking ++ (cells ++ (waits-for ++ (codes "</td>" ++ weeks-of)))) (mark v risk_booking own-risk_booking)
      (join v booking (cells ++ (waits-for ++ (codes "</td>" ++ weeks-of))) (entry-name v scene.history (cell_at r 2) seen.kept (known 2))
      (join v cells (waits-for ++ (codes "</td>" ++ weeks-of)) (dated-row v scene.tables seen.of-tables risk_middle r laid-risk_middle known)
      (join v waits-for (codes "</td>" ++ weeks-of) (linked-order v scene seen (cell_at r 5) (cell_at r 7) (cell_at r 6) says (row v risk_order r laid-risk_order known))
      (join v (codes "</td>") weeks-of (mark v (codes "</td>") own-cell-end) (row v weeks_late r laid-weeks_late known)))))))

  -- what stands of them is known
  risks-known : (risks : RisksView) → All v.Known (risk_texts risks) → All (λ (r : RowView). (column : ℕ) → v.Known (cell_at r column)) (risks_first risks.rows)
  risks-known risks texts =
      let rs : List RowView = risks.rows in
      let each-known : All (λ (r : RowView). (column : ℕ) → v.Known (cell_at r column)) rs = λ k d within.
      let r : RowView = get_or rs k d in
      let has : Contains rs r = All-contains_itself rs k d within in
      knows v r.section r.cells (λ i t inside. All-contains v.Known (risk_texts risks) (get_or r.cells i t) texts
      (Contains-append_right (decimal (length rs) ∷ list_counts (risks_first rs)) (flat_map (λ (risk : RowView). risk.cells) rs) (get_or r.cells i t)
      (contains-flat (λ (risk : RowView). risk.cells) rs r (get_or r.cells i t) has.0 has.1 has.2 (All-contains_itself r.cells i t inside)))) in
      All-permutation (λ (r : RowView). (column : ℕ) → v.Known (cell_at r column)) (sorted_by week_rank rs) (risks_first rs) (sorted-permutes falling_late (sorted_by week_rank rs))
      (All-permutation (λ (r : RowView). (column : ℕ) → v.Known (cell_at r column)) rs (sorted_by week_rank rs) (sorted-permutes week_rank rs) each-known)

  pub at-risk : (scene : SceneView) → SceneKnown v scene → (risks : RisksView) → All v.Known (risk_texts risks) → Made v (risks_html scene risks)
  unfolding risks_html risks_or_none
  at-risk scene seen risks texts =
      let rs : List RowView = risks_first risks.rows in
      let listed-of : List ℕ = risk_note ++ capped_html (risk_listing scene) SOME_ROWS rs in
      let counts : Counted v rs = record { all-of = texts 1 [] (omega arith); rest-of = texts 2 [] (omega arith); past-of = texts 3 [] (omega arith) } in
      join v risk_open (risks_or_none scene risks.known rs ++ section_end) (mark v risk_open own-risk_open)
      (join v (risks_or_none scene risks.known rs) section_end
      (either v (not risks.known) risks_unknown (if has_none rs then none_at_risk else listed-of) (mark v risks_unknown own-risks_unknown)
      (either v (has_none rs) none_at_risk listed-of (mark v none_at_risk own-none_at_risk)
      (join v risk_note (capped_html (risk_listing scene) SOME_ROWS rs) (mark v risk_note own-risk_note)
      (capped v (λ (r : RowView). (column : ℕ) → v.Known (cell_at r column)) (risk_listing scene) rs own-risk_front own-table_end (λ r known. a-risk scene seen r known) (risks-known risks texts) counts))))
      (mark v section_end own-section_end))
