-- The links of a page lead to parts that it has.
use Rattle.std.proofs.Common.{◌≡◌, ◌∙◌, ◌-◌, ◌<◌, ℕ, zero, suc, Bool, true, false, Option, List, [], ◌∷◌, ◌++◌, codes, drop, get_or, length, map, refl, sym, ap, subst, take, arith, append_assoc}
use Rattle.std.specs.Prelude.{◌≢◌, ◌||◌}
use Rattle.std.specs.List.{All, Contains, flat_map, list_any}
use Rattle.std.proofs.lemmas.Bool.{false_from_ne_true, ne_eqb}
use Rattle.std.proofs.lemmas.List.{append-nil, get_or-map, length-map}
use Rattle.std.proofs.lemmas.List.Elements.{All-contains, All-from_recursion, Contains-get_or}
use Rattle.std.proofs.lemmas.List.Folds.{list_any_at}
use Rattle.mrp_facts.specs.Facts.{Facts}
use Rattle.mrp_page.specs.AtRisk.{RisksView}
use Rattle.mrp_page.specs.Centres.{all_loads, centre_html, centres_back, each_centre, framed_centre, load_section, over_or_none, work_in}
use Rattle.mrp_page.specs.Draw.{dated_table, history_html, more_html}
use Rattle.mrp_page.specs.Escaped.{escaped}
use Rattle.mrp_page.specs.Frame.{count_row}
use Rattle.mrp_page.specs.Ids.{IsPartOf, centre_id, centres_shown, entry_id, item_id, order_id, order_numbers, section_ids}
use Rattle.mrp_page.specs.ItemFacts.{item_facts_html}
use Rattle.mrp_page.specs.ItemRows.{item_lists}
use Rattle.mrp_page.specs.Items.{index_html, item_html, item_lists_html, items_html}
use Rattle.mrp_page.specs.Kinds.{Kind, cancel, earlier, kind_html, kind_part, kinds, kinds_html, late, later, messages_of, other_part, release, state_of, task_line, todo_html}
use Rattle.mrp_page.specs.Known.{entries_kept, names_shown}
use Rattle.mrp_page.specs.layout.Centres.{centre_open, centres_open}
use Rattle.mrp_page.specs.layout.Glance.{glance_open, out_first_open}
use Rattle.mrp_page.specs.layout.Head.{page_end}
use Rattle.mrp_page.specs.layout.History.{entry, history_end, history_open}
use Rattle.mrp_page.specs.layout.Items.{item_head, items_open, lists_open, order, orders_open}
use Rattle.mrp_page.specs.layout.Lists.{grid_end, section_end}
use Rattle.mrp_page.specs.layout.Refused.{refused_open}
use Rattle.mrp_page.specs.layout.Risk.{risk_open}
use Rattle.mrp_page.specs.layout.Todo.{cancel_open, in_open, late_open, out_open, release_open, todo_open}
use Rattle.mrp_page.specs.Notes.{Noted}
use Rattle.mrp_page.specs.Outs.{outs_section}
use Rattle.mrp_page.specs.Overloaded.{most_overloaded, overloaded_first}
use Rattle.mrp_page.specs.Page.{glance_html, items_of, page_html, page_of, rest_html, scene_in, shown_items, top_html}
use Rattle.mrp_page.specs.Pictured.{centre_frame, picture_html}
use Rattle.mrp_page.specs.Promises.{risks_html}
use Rattle.mrp_page.specs.Refused.{refused_section}
use Rattle.mrp_page.specs.Row.{RowView, cell_at, is_of, same_text}
use Rattle.mrp_page.specs.Rows.{leaders, rows_in, rows_named}
use Rattle.mrp_page.specs.Said.{item_messages}
use Rattle.mrp_page.specs.Scene.{SceneView}
use Rattle.mrp_page.specs.Shares.{overloads_first, share_row}
use Rattle.mrp_page.specs.Summary.{place_or, summary_html}
use Rattle.mrp_page.specs.Template.{dated_html, dated_rows, row_html}
use Rattle.mrp_page.specs.Draw.{named_note, named_record}
use Rattle.mrp_page.specs.declared.limits.TheConstants.{MOST_LINES, SOME_ROWS}
use Rattle.mrp_day.specs.declared.section.Section.TheVariants as s
use Rattle.mrp_page.specs.Shown.{has_name}
use Rattle.mrp_page.proofs.Links.{item-begins, items-stand, lists-have-orders, order-begins, orders-are}
use Rattle.mrp_page.proofs.NamesOnce.{place-of, same-text, text-same}
use Rattle.mrp_page.proofs.Placed.{rows-named-are}
use Rattle.mrp_page.proofs.ShownItems.{lead-any}
use Rattle.mrp_page.proofs.TodoKinds.{kind-lines, kinds-are, page-kinds}

-- parts of texts

itself : (p : List ℕ) → IsPartOf p p
itself p = ([], [], sym (append-nil p))

begins : (p r whole : List ℕ) → whole ≡ p ++ r → IsPartOf p whole
begins p r whole is = ([], r, is)

in-front : (p a b : List ℕ) → IsPartOf p a → IsPartOf p (a ++ b)
in-front p a b (front, back, is) = (front, back ++ b, ap (λ (t : List ℕ). t ++ b) is ∙ append_assoc front (p ++ back) b ∙ ap (λ (t : List ℕ). front ++ t) (append_assoc p back b))

behind : (p a b : List ℕ) → IsPartOf p b → IsPartOf p (a ++ b)
behind p a b (front, back, is) = (a ++ front, back, ap (λ (t : List ℕ). a ++ t) is ∙ sym (append_assoc a front (p ++ back)))

through : (p q r : List ℕ) → IsPartOf p q → IsPartOf q r → IsPartOf p r
through p q r inner (front, back, is) = subst (λ (t : List ℕ). IsPartOf p t) (sym is) (behind p front (q ++ back) (in-front p q back inner))

among : {X : Type 0} (f : X → List ℕ) (xs : List X) (x : X) (k : ℕ) → k < length xs → get_or xs k x ≡ x → IsPartOf (f x) (flat_map f xs)
among f [] x k within at = absurd (omega (arith, within))
among {X} f (y ∷ ys) x zero within at = subst (λ (t : X). IsPartOf (f t) (f y ++ flat_map f ys)) at (in-front (f y) (f y) (flat_map f ys) (itself (f y)))
among f (y ∷ ys) x (suc k) within at = behind (f x) (f y) (flat_map f ys) (among f ys x k (omega (arith, within)) at)

-- the row with a name or a number
row-with : (f : RowView → List ℕ) (rows : List RowView) (t : List ℕ) → Contains (map f rows) t → (r : RowView) × Contains rows r × (f r ≡ t)
row-with f rows t (k, within, at) =
    let none : RowView = record { section = s.Run; cells = [] } in
    let inside : k < length rows = subst (λ (n : ℕ). k < n) (length-map rows f) within in
    (get_or rows k none, Contains-get_or rows k none inside, sym (get_or-map f rows k none t inside) ∙ at)

-- the sections of a page
module _ (title : List ℕ) (tables : Option Facts) (notes : Noted) (risks : RisksView) where
  abbrev scene : SceneView
  scene = scene_in tables notes

  abbrev loads : List RowView
  loads = rows_in s.Loads notes.report

  abbrev top : List ℕ
  top = top_html title tables notes.report notes.counts.items (length (shown_items (item_lists notes.report)))

  abbrev sums : List ℕ
  sums = summary_html notes.history (rows_in s.Messages notes.report) loads risks

  abbrev seen : List ℕ
  seen = glance_html scene notes.report notes.counts.plan

  abbrev calls : List ℕ
  calls = refused_section scene notes.counts.history

  abbrev promises : List ℕ
  promises = risks_html scene risks

  abbrev todo : List ℕ
  todo = todo_html scene (rows_in s.Messages notes.report) notes.counts.messages

  abbrev centres : List ℕ
  centres = load_section scene loads notes.counts.loads

  abbrev items : List ℕ
  items = items_of scene (item_lists notes.report) notes.counts

  abbrev past : List ℕ
  past = history_html tables notes.history notes.counts.history

  abbrev whole : List ℕ
  whole = page_html title tables notes risks

  page-is : whole ≡ top ++ (sums ++ (seen ++ (calls ++ (promises ++ (todo ++ (centres ++ (items ++ (past ++ page_end))))))))
  unfolding page_html page_of rest_html
  page-is = refl

  in-page : (p : List ℕ) → IsPartOf p (top ++ (sums ++ (seen ++ (calls ++ (promises ++ (todo ++ (centres ++ (items ++ (past ++ page_end))))))))) → IsPartOf p whole
  in-page p part = subst (λ (t : List ℕ). IsPartOf p t) (sym page-is) part

  of-past : (p : List ℕ) → IsPartOf p past → IsPartOf p whole
  of-past p part =
      in-page p (behind p top (sums ++ (seen ++ (calls ++ (promises ++ (todo ++ (centres ++ (items ++ (past ++ page_end)))))))) (behind p sums (seen ++ (calls ++ (promises ++ (todo ++ (centres ++ (items ++ (past ++ page_end)))))))
      (behind p seen (calls ++ (promises ++ (todo ++ (centres ++ (items ++ (past ++ page_end)))))) (behind p calls (promises ++ (todo ++ (centres ++ (items ++ (past ++ page_end)))))
      (behind p promises (todo ++ (centres ++ (items ++ (past ++ page_end)))) (behind p todo (centres ++ (items ++ (past ++ page_end))) (behind p centres (items ++ (past ++ page_end)) (behind p items (past ++ page_end) (in-front p past page_end part)))))))))

  of-items : (p : List ℕ) → IsPartOf p items → IsPartOf p whole
  of-items p part =
      in-page p (behind p top (sums ++ (seen ++ (calls ++ (promises ++ (todo ++ (centres ++ (items ++ (past ++ page_end)))))))) (behind p sums (seen ++ (calls ++ (promises ++ (todo ++ (centres ++ (items ++ (past ++ page_end)))))))
      (behind p seen (calls ++ (promises ++ (todo ++ (centres ++ (items ++ (past ++ page_end)))))) (behind p calls (promises ++ (todo ++ (centres ++ (items ++ (past ++ page_end)))))
      (behind p promises (todo ++ (centres ++ (items ++ (past ++ page_end)))) (behind p todo (centres ++ (items ++ (past ++ page_end))) (behind p centres (items ++ (past ++ page_end)) (in-front p items (past ++ page_end) part))))))))

  of-centres : (p : List ℕ) → IsPartOf p centres → IsPartOf p whole
  of-centres p part =
      in-page p (behind p top (sums ++ (seen ++ (calls ++ (promises ++ (todo ++ (centres ++ (items ++ (past ++ page_end)))))))) (behind p sums (seen ++ (calls ++ (promises ++ (todo ++ (centres ++ (items ++ (past ++ page_end)))))))
      (behind p seen (calls ++ (promises ++ (todo ++ (centres ++ (items ++ (past ++ page_end)))))) (behind p calls (promises ++ (todo ++ (centres ++ (items ++ (past ++ page_end)))))
      (behind p promises (todo ++ (centres ++ (items ++ (past ++ page_end)))) (behind p todo (centres ++ (items ++ (past ++ page_end))) (in-front p centres (items ++ (past ++ page_end)) part)))))))

  of-todo : (p : List ℕ) → IsPartOf p todo → IsPartOf p whole
  of-todo p part =
      in-page p (behind p top (sums ++ (seen ++ (calls ++ (promises ++ (todo ++ (centres ++ (items ++ (past ++ page_end)))))))) (behind p sums (seen ++ (calls ++ (promises ++ (todo ++ (centres ++ (items ++ (past ++ page_end)))))))
      (behind p seen (calls ++ (promises ++ (todo ++ (centres ++ (items ++ (past ++ page_end)))))) (behind p calls (promises ++ (todo ++ (centres ++ (items ++ (past ++ page_end)))))
      (behind p promises (todo ++ (centres ++ (items ++ (past ++ page_end)))) (in-front p todo (centres ++ (items ++ (past ++ page_end))) part))))))

  of-promises : (p : List ℕ) → IsPartOf p promises → IsPartOf p whole
  of-promises p part =
      in-page p (behind p top (sums ++ (seen ++ (calls ++ (promises ++ (todo ++ (centres ++ (items ++ (past ++ page_end)))))))) (behind p sums (seen ++ (calls ++ (promises ++ (todo ++ (centres ++ (items ++ (past ++ page_end)))))))
      (behind p seen (calls ++ (promises ++ (todo ++ (centres ++ (items ++ (past ++ page_end)))))) (behind p calls (promises ++ (todo ++ (centres ++ (items ++ (past ++ page_end)))))
      (in-front p promises (todo ++ (centres ++ (items ++ (past ++ page_end)))) part)))))

  of-calls : (p : List ℕ) → IsPartOf p calls → IsPartOf p whole
  of-calls p part =
      in-page p (behind p top (sums ++ (seen ++ (calls ++ (promises ++ (todo ++ (centres ++ (items ++ (past ++ page_end)))))))) (behind p sums (seen ++ (calls ++ (promises ++ (todo ++ (centres ++ (items ++ (past ++ page_end)))))))
      (behind p seen (calls ++ (promises ++ (todo ++ (centres ++ (items ++ (past ++ page_end)))))) (in-front p calls (promises ++ (todo ++ (centres ++ (items ++ (past ++ page_end))))) part))))

  of-seen : (p : List ℕ) → IsPartOf p seen → IsPartOf p whole
  of-seen p part =
      in-page p (behind p top (sums ++ (seen ++ (calls ++ (promises ++ (todo ++ (centres ++ (items ++ (past ++ page_end)))))))) (behind p sums (seen ++ (calls ++ (promises ++ (todo ++ (centres ++ (items ++ (past ++ page_end)))))))
      (in-front p seen (calls ++ (promises ++ (todo ++ (centres ++ (items ++ (past ++ page_end)))))) part)))

  seen-begins : IsPartOf (codes "<section id=glance>") seen
  unfolding glance_html glance_open
  seen-begins = ([], drop 19 seen, refl)

  outs-begin : IsPartOf (codes "<section id=out-first>") seen
  unfolding glance_html outs_section out_first_open
  outs-begin =
      let outs : List ℕ = outs_section scene (rows_in s.Plan notes.report) notes.counts.plan in
      let rest : List ℕ = most_overloaded tables (overloaded_first loads) ++ section_end in
      behind (codes "<section id=out-first>") glance_open (outs ++ rest) (in-front (codes "<section id=out-first>") outs rest ([], drop 22 outs, refl))

  calls-begin : IsPartOf (codes "<section id=unkept>") calls
  unfolding refused_section refused_open
  calls-begin = ([], drop 19 calls, refl)

  promises-begin : IsPartOf (codes "<section id=risk>") promises
  unfolding risks_html risk_open
  promises-begin = ([], drop 17 promises, refl)

  todo-begins : IsPartOf (codes "<section id=todo>") todo
  unfolding todo_html todo_open
  todo-begins = ([], drop 17 todo, refl)

  centres-begin : IsPartOf (codes "<section id=centres>") centres
  unfolding load_section centres_open
  centres-begin = ([], drop 20 centres, refl)

  items-begin : IsPartOf (codes "<section id=items>") items
  unfolding items_of index_html items_open
  items-begin = ([], drop 18 items, refl)

  past-begins : IsPartOf (codes "<section id=history>") past
  unfolding history_html dated_table history_open
  past-begins = ([], drop 20 past, refl)

  abbrev Begins : List ℕ → Type 0
  Begins id = IsPartOf (codes "<section id=" ++ (id ++ codes ">")) whole

  pub sections-stand : All (λ id. IsPartOf (codes "<section id=" ++ (id ++ codes ">")) (page_html title tables notes risks)) section_ids
  unfolding section_ids
  sections-stand =
      All-from_recursion Begins section_ids (
        of-seen (codes "<section id=glance>") seen-begins,
        (
          of-seen (codes "<section id=out-first>") outs-begin,
          (
            of-calls (codes "<section id=unkept>") calls-begin,
            (
              of-promises (codes "<section id=risk>") promises-begin,
              (
                of-todo (codes "<section id=todo>") todo-begins,
                (
                  of-centres (codes "<section id=centres>") centres-begin,
                  (
                    of-items (codes "<section id=items>") items-begin,
                    (of-past (codes "<section id=history>") past-begins, tt),
                  ),
                ),
              ),
            ),
          ),
        ),
      )

  -- an item
  item-stands : (name : List ℕ) → Contains (names_shown notes) name → (leader : RowView) × (cell_at leader 0 ≡ name) × IsPartOf (item_html scene (item_lists notes.report) notes.counts.promises leader) whole
  unfolding items_html
  item-stands name has =
      let (leader, at, is) = row-with (λ (r : RowView). cell_at r 0) (shown_items (item_lists notes.report)) name has in
      let (front, back, page) = items-stand title tables notes risks in
      let one : RowView → List ℕ = item_html scene (item_lists notes.report) notes.counts.promises in (
        leader,
        is,
        through (one leader) (items_html scene (item_lists notes.report) notes.counts.promises (shown_items (item_lists notes.report))) whole (among one (shown_items (item_lists notes.report)) leader at.0 at.1 at.2) (front, more_html (notes.counts.items - length (shown_items (item_lists notes.report))) (codes "item is") (codes "items are") ++ back, page),
      )

  item-mark : (leader : RowView) → IsPartOf (codes "<section class=item id=\"" ++ (item_id (cell_at leader 0) ++ codes "\">")) (item_html scene (item_lists notes.report) notes.counts.promises leader)
  item-mark leader =
      let (rest, is) = item-begins scene (item_lists notes.report) notes.counts.promises leader in
      ([], rest, is ∙ ap (λ (t : List ℕ). codes "<section class=item id=\"i-" ++ t) (sym (append_assoc (escaped (cell_at leader 0)) (codes "\">") rest)))

  pub item-leads : (name : List ℕ) → Contains (names_shown notes) name → IsPartOf (codes "<section class=item id=\"" ++ (item_id name ++ codes "\">")) (page_html title tables notes risks)
  item-leads name has =
      let (leader, is, part) = item-stands name has in
      subst (λ (t : List ℕ). IsPartOf (codes "<section class=item id=\"" ++ (item_id t ++ codes "\">")) whole) is (through (codes "<section class=item id=\"" ++ (item_id (cell_at leader 0) ++ codes "\">")) (item_html scene (item_lists notes.report) notes.counts.promises leader) whole (item-mark leader) part)

  -- an order
  order-mark : (row : RowView) → IsPartOf (codes "<tr id=\"" ++ (order_id (cell_at row 1) (cell_at row 0) ++ codes "\">")) (dated_html tables order row)
  order-mark row =
      let (rest, is) = order-begins tables row in
      ([], rest, is ∙ placed (codes "<tr id=\"o-") (escaped (cell_at row 1)) (codes "-") (escaped (cell_at row 0)) (codes "\">") rest)
    where
      placed : (o m d a q r : List ℕ) → o ++ (m ++ (d ++ (a ++ (q ++ r)))) ≡ (o ++ ((m ++ (d ++ a)) ++ q)) ++ r
      placed o m d a q r = sym (simp append_assoc)

  orders-part : (leader : RowView) → IsPartOf (flat_map (dated_html tables order) (rows_named (cell_at leader 0) scene.orders)) (item_html scene (item_lists notes.report) notes.counts.promises leader)
  unfolding item_html
  orders-part leader =
      let name : List ℕ = cell_at leader 0 in
      let rows : List RowView = rows_named name scene.orders in
      let lines : List ℕ = flat_map (dated_html tables order) rows in
      let (rest, is) = lists-have-orders scene name in
      let lists : List ℕ = item_lists_html scene name in
      let head : List ℕ = row_html item_head leader in
      let facts : List ℕ = item_facts_html scene.tables name in
      let messages : List ℕ = item_messages scene (item_lists notes.report) leader in
      let planned : List ℕ = named_record scene.tables (item_lists notes.report) name in
      let note : List ℕ = named_note (item_lists notes.report) notes.counts.promises name in
      let inner : IsPartOf lines lists = subst (λ (t : List ℕ). IsPartOf lines t) (sym (is ∙ ap (λ (t : List ℕ). lists_open ++ (t ++ rest)) (orders-are tables rows))) (behind lines lists_open ((orders_open ++ (lines ++ grid_end)) ++ rest) (in-front lines (orders_open ++ (lines ++ grid_end)) rest (behind lines orders_open (lines ++ grid_end) (in-front lines lines grid_end (itself lines))))) in
      behind lines head (facts ++ (messages ++ (planned ++ (note ++ lists)))) (behind lines facts (messages ++ (planned ++ (note ++ lists))) (behind lines messages (planned ++ (note ++ lists)) (behind lines planned (note ++ lists) (behind lines note lists inner))))

  pub order-leads : (number name : List ℕ) → Contains (names_shown notes) name → Contains (order_numbers notes name) number → IsPartOf (codes "<tr id=\"" ++ (order_id number name ++ codes "\">")) (page_html title tables notes risks)
  order-leads number name has numbered =
      let (leader, is, part) = item-stands name has in
      let (row, at, of-number) = row-with (λ (r : RowView). cell_at r 1) (rows_named name scene.orders) number numbered in
      let of-name : cell_at row 0 ≡ name = text-same (cell_at row 0) name (All-contains (λ (r : RowView). is_of name r ≡ true) (rows_named name scene.orders) row (rows-named-are name scene.orders) at) in
      let lines : List ℕ = flat_map (dated_html tables order) (rows_named name scene.orders) in
      let one : List ℕ = codes "<tr id=\"" ++ (order_id (cell_at row 1) (cell_at row 0) ++ codes "\">") in
      let in-lines : IsPartOf one lines = through one (dated_html tables order row) lines (order-mark row) (among (dated_html tables order) (rows_named name scene.orders) row at.0 at.1 at.2) in
      let in-item : IsPartOf lines (item_html scene (item_lists notes.report) notes.counts.promises leader) = subst (λ (t : List ℕ). IsPartOf (flat_map (dated_html tables order) (rows_named t scene.orders)) (item_html scene (item_lists notes.report) notes.counts.promises leader)) is (orders-part leader) in
      let all : IsPartOf one whole = through one lines whole in-lines (through lines (item_html scene (item_lists notes.report) notes.counts.promises leader) whole in-item part) in
      subst (λ (t : List ℕ). IsPartOf (codes "<tr id=\"" ++ (order_id number t ++ codes "\">")) whole) of-name (subst (λ (t : List ℕ). IsPartOf (codes "<tr id=\"" ++ (order_id t (cell_at row 0) ++ codes "\">")) whole) of-number all)

  -- an entry of the history
  entry-mark : (row : RowView) → IsPartOf (codes "<tr id=\"" ++ (entry_id (cell_at row 0) ++ codes "\">")) (dated_html tables entry row)
  unfolding dated_html entry
  entry-mark row =
      let rest : List ℕ = codes "<th scope=row>" ++ dated_html tables (drop 3 entry) row in
      ([], rest, ap (λ (t : List ℕ). codes "<tr id=\"e" ++ t) (sym (append_assoc (escaped (cell_at row 0)) (codes "\">") rest)))

  pub entry-leads : (number : List ℕ) → Contains (entries_kept notes) number → IsPartOf (codes "<tr id=\"" ++ (entry_id number ++ codes "\">")) (page_html title tables notes risks)
  unfolding history_html dated_table dated_rows
  entry-leads number has =
      let (row, at, is) = row-with (λ (r : RowView). cell_at r 0) notes.history number has in
      let one : List ℕ = codes "<tr id=\"" ++ (entry_id (cell_at row 0) ++ codes "\">") in
      let lines : List ℕ = flat_map (dated_html tables entry) notes.history in
      let in-lines : IsPartOf one lines = through one (dated_html tables entry row) lines (entry-mark row) (among (dated_html tables entry) notes.history row at.0 at.1 at.2) in
      let in-past : IsPartOf one past = in-front one (history_open ++ (lines ++ grid_end)) past-end (behind one history_open (lines ++ grid_end) (in-front one lines grid_end in-lines)) in
      subst (λ (t : List ℕ). IsPartOf (codes "<tr id=\"" ++ (entry_id t ++ codes "\">")) whole) is (of-past one in-past)
    where
      past-end : List ℕ
      past-end = more_html notes.counts.history (codes "entry is") (codes "entries are") ++ history_end

  -- a work centre
  centre-mark : (leader : RowView) → IsPartOf (codes "<section class=centre id=\"" ++ (centre_id (cell_at leader 0) ++ codes "\">")) (centre_html tables loads leader)
  unfolding centre_html framed_centre row_html centre_open
  centre-mark leader =
      let rows : List RowView = rows_named (cell_at leader 0) loads in
      let f : RowView = centre_frame (cell_at leader 0) rows in
      let inner : List ℕ = codes "\n<h3>" ++ row_html (drop 3 centre_open) f in
      let rest : List ℕ = picture_html f (map share_row rows) ++ (all_loads tables f rows ++ section_end) in
      ([], inner ++ rest, ap (λ (t : List ℕ). codes "<section class=centre id=\"c-" ++ t) (placed (escaped (cell_at leader 0)) (codes "\">") inner rest))
    where
      placed : (e c y z : List ℕ) → (e ++ (c ++ y)) ++ z ≡ (e ++ c) ++ (y ++ z)
      placed e c y z = simp append_assoc

  pub centre-leads : (name : List ℕ) → Contains (centres_shown notes) name → IsPartOf (codes "<section class=centre id=\"" ++ (centre_id name ++ codes "\">")) (page_html title tables notes risks)
  unfolding load_section each_centre
  centre-leads name has =
      let (leader, at, is) = row-with (λ (r : RowView). cell_at r 0) (leaders [] loads) name has in
      let one : List ℕ = codes "<section class=centre id=\"" ++ (centre_id (cell_at leader 0) ++ codes "\">") in
      let lines : List ℕ = flat_map (centre_html tables loads) (leaders [] loads) in
      let over : List ℕ = over_or_none scene (work_in scene loads) notes.counts.loads (overloads_first loads) in
      let last : List ℕ = centres_back notes.counts.loads in
      let in-lines : IsPartOf one lines = through one (centre_html tables loads leader) lines (centre-mark leader) (among (centre_html tables loads) (leaders [] loads) leader at.0 at.1 at.2) in
      let in-centres : IsPartOf one centres = behind one centres_open (over ++ (lines ++ last)) (behind one over (lines ++ last) (in-front one lines last in-lines)) in
      subst (λ (t : List ℕ). IsPartOf (codes "<section class=centre id=\"" ++ (centre_id t ++ codes "\">")) whole) is (of-centres one in-centres)

  -- a kind of messages that has some
  pub kind-leads : (kind : Kind) (r : RowView) (rows : List RowView) → Contains kinds kind → messages_of (rows_in s.Messages notes.report) kind ≡ r ∷ rows
      → IsPartOf (row_html kind.head (count_row (length (r ∷ rows)) (state_of (rows_in s.Messages notes.report)) (state_of (rows_in s.Messages notes.report)))) (page_html title tables notes risks)
  unfolding kind_part
  kind-leads kind r rows has some =
      let messages : List RowView = rows_in s.Messages notes.report in
      let state : List ℕ = state_of messages in
      let head : List ℕ = row_html kind.head (count_row (length (r ∷ rows)) state state) in
      let (front, between, back, is) = kind-lines kind scene state r rows in
      let kept : List RowView = take MOST_LINES (r ∷ rows) in
      let rest : List ℕ = front ++ (flat_map (task_line kind scene) (take SOME_ROWS kept) ++ (between ++ (flat_map (task_line kind scene) (drop SOME_ROWS kept) ++ back))) in
      let in-kind : IsPartOf head (kind_part scene messages kind) = ([], rest, ap (kind_html kind scene state) some ∙ is) in
      let in-kinds : IsPartOf head (kinds_html scene messages) = subst (λ (t : List ℕ). IsPartOf head t) (sym (kinds-are scene messages)) (in-front head (flat_map (kind_part scene messages) kinds) (other_part scene messages) (through head (kind_part scene messages kind) (flat_map (kind_part scene messages) kinds) in-kind (among (kind_part scene messages) kinds kind has.0 has.1 has.2))) in
      let (before, after, page) = page-kinds title tables notes risks in
      through head (kinds_html scene messages) whole in-kinds (before, after, page)

-- the folds of messages have their ids
module _ (n : ℕ) (state : List ℕ) where
  pub late-id : (rest : List ℕ) × (row_html late.head (count_row n state state) ≡ codes "<details class=\"kind late\" id=late" ++ rest)
  unfolding row_html late_open
  late-id = (drop 34 (row_html late.head (count_row n state state)), refl)

  pub release-id : (rest : List ℕ) × (row_html release.head (count_row n state state) ≡ codes "<details class=\"kind release\" id=release" ++ rest)
  unfolding row_html release_open
  release-id = (drop 40 (row_html release.head (count_row n state state)), refl)

  pub in-id : (rest : List ℕ) × (row_html earlier.head (count_row n state state) ≡ codes "<details class=\"kind in\" id=in" ++ rest)
  unfolding row_html in_open
  in-id = (drop 30 (row_html earlier.head (count_row n state state)), refl)

  pub out-id : (rest : List ℕ) × (row_html later.head (count_row n state state) ≡ codes "<details class=\"kind out\" id=out" ++ rest)
  unfolding row_html out_open
  out-id = (drop 32 (row_html later.head (count_row n state state)), refl)

  pub cancel-id : (rest : List ℕ) × (row_html cancel.head (count_row n state state) ≡ codes "<details class=\"kind cancel\" id=cancel" ++ rest)
  unfolding row_html cancel_open
  cancel-id = (drop 38 (row_html cancel.head (count_row n state state)), refl)

-- a count leads to its kind if that has messages, and else to all
pub none-leads : (place : List ℕ) → place_or 0 place ≡ codes "todo"
none-leads place = refl

pub some-lead : (count : ℕ) (place : List ℕ) → 0 < count → place_or count place ≡ place
some-lead count place some = rw (ne_eqb count 0 (λ e. omega (arith, some, e))) refl

-- the work centre of a load is on the page
pub load-leads : (notes : Noted) (load : RowView) → Contains (rows_in s.Loads notes.report) load → cell_at load 0 ≢ [] → Contains (centres_shown notes) (cell_at load 0)
load-leads notes load (k, within, at) named =
    let rows : List RowView = rows_in s.Loads notes.report in
    let name : List ℕ = cell_at load 0 in
    let other : same_text name [] ≡ false = false_from_ne_true (same_text name []) (λ e. named (text-same name [] e)) in
    let of-load : is_of name (get_or rows k load) ≡ true = same-text (cell_at (get_or rows k load) 0) name (ap (λ (r : RowView). cell_at r 0) at) in
    let has : list_any (is_of name) rows ≡ true = list_any_at (is_of name) rows k load within of-load in
    let led : (list_any (is_of name) rows || same_text name []) ≡ (has_name (centres_shown notes) name || same_text name []) = lead-any name [] rows in
    let shown : has_name (centres_shown notes) name ≡ true = or-none (has_name (centres_shown notes) name) (sym (ap (λ (b : Bool). has_name (centres_shown notes) name || b) other) ∙ sym led ∙ ap (λ (b : Bool). b || same_text name []) has) in
    place-of (centres_shown notes) name shown
  where
    or-none : (b : Bool) → (b || false) ≡ true → b ≡ true
    or-none true e = refl
    or-none false e = e
