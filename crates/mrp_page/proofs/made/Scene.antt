-- What a page is drawn from, and its links.
use Rattle.std.proofs.Common.{◌≡◌, ◌-◌, ℕ, Bool, true, false, Option, None, Some, List, [], ◌∷◌, ◌++◌, codes, decimal, drop, length, refl, sym, subst, unwrap_or, arith}
use Rattle.std.specs.Prelude.{if◌then◌else◌, ◌==◌, ◌&&◌}
use Rattle.std.proofs.lemmas.List.{append-nil}
use Rattle.std.proofs.lemmas.List.Elements.{All-cons, All-nil}
use Rattle.std.specs.List.{All, find, slice_get}
use Rattle.mrp_page.specs.Draw.{has_item, has_none, item_name_html, more_html}
use Rattle.mrp_page.specs.Folded.{folded_html}
use Rattle.mrp_page.specs.Known.{IsPieceOf, small_words}
use Rattle.mrp_page.specs.Laws.{Order}
use Rattle.mrp_page.specs.layout.Lists.{link_end, row_open, section_end}
use Rattle.mrp_page.specs.layout.Refused.{none_refused, refused_answer, refused_asked, refused_desk, refused_end, refused_open}
use Rattle.mrp_page.specs.Orders.{is_numbered, is_order, linked_html, numbered, order_link, order_words, ordered, passing, place_of}
use Rattle.mrp_page.specs.Refused.{answer_html, asked_of, call_html, caller_html, entry_name_html, is_booking, refusals, refused_back, refused_lines, refused_listing, refused_or_none, refused_rows, refused_section}
use Rattle.mrp_page.specs.Row.{RowView, cell_at}
use Rattle.mrp_page.specs.Rows.{rows_named}
use Rattle.mrp_page.specs.Scene.{SceneView}
use Rattle.mrp_page.specs.Template.{dated_html, has_word, row_html}
use Rattle.mrp_page.specs.declared.limits.TheConstants.{FEW_ROWS}
use Rattle.mrp_page.specs.Work.{WorkView}
use Rattle.mrp_page.proofs.made.Facts.{Made, TablesKnown, Vocabulary}
use Rattle.mrp_page.proofs.made.Laid.{laid-refused_answer, laid-refused_asked, laid-refused_desk}
use Rattle.mrp_page.proofs.made.Plain.{own-link_end, own-none_refused, own-refused_end, own-refused_front, own-refused_open, own-row_open, own-section_end, own-table_end}
use Rattle.mrp_page.proofs.made.Pieces.{dated-row, either, entry-name, folded, further, item-name, join, mark, row, small}
use Rattle.mrp_page.proofs.made.Rows.{all-by-word, all-named, at-place, found-or, numbered-name, ordered-name}

module _ (v : Vocabulary) where
  -- what a page is drawn from is known, and its links lead to what is shown
  pub record SceneKnown (scene : SceneView) : Type 0 where
    pub led : All (λ (r : RowView). v.Shown (cell_at r 0)) scene.shown
    pub of-shown : All (λ (r : RowView). (column : ℕ) → v.Known (cell_at r column)) scene.shown
    pub of-orders : All (λ (r : RowView). (column : ℕ) → v.Known (cell_at r column)) scene.orders
    pub of-pegs : All (λ (r : RowView). (column : ℕ) → v.Known (cell_at r column)) scene.pegs
    pub of-entries : All (λ (r : RowView). (column : ℕ) → v.Known (cell_at r column)) scene.history
    pub kept : All (λ (r : RowView). v.Kept (cell_at r 0)) scene.history
    pub leads-to : (name : List ℕ) → has_item scene.shown name ≡ true → All (λ (r : RowView). v.Ordered (cell_at r 1) name) (rows_named name scene.orders)
    pub of-tables : TablesKnown v.Known scene.tables

  -- the calls that were not answered as they asked
  asked-known : (history : List RowView) (r : RowView) → All (λ (r : RowView). (column : ℕ) → v.Known (cell_at r column)) history → ((column : ℕ) → v.Known (cell_at r column)) → (column : ℕ) → v.Known (cell_at (asked_of history r) column)
  unfolding asked_of
  asked-known history r all known = by (has_word 2 (codes "cancel") r)
    where
      by : (b : Bool) → (column : ℕ) → v.Known (cell_at (if b then unwrap_or (find (is_booking (cell_at r 6)) history) r else r) column)
      by true = found-or (λ (r : RowView). (column : ℕ) → v.Known (cell_at r column)) (is_booking (cell_at r 6)) history r all known
      by false = known

  call : (scene : SceneView) → SceneKnown scene → (of r : RowView) → ((column : ℕ) → v.Known (cell_at of column)) → ((column : ℕ) → v.Known (cell_at r column)) → Made v (call_html scene of r)
  unfolding call_html answer_html caller_html
  call scene seen of r of-known known =
      let name : List ℕ = item_name_html scene.shown (cell_at of 3) in
      let answer : List ℕ = row_html refused_answer r in
      let named : List ℕ = entry_name_html scene.history (cell_at r 6) in
      let pieces : List ℕ = dated_html scene.tables refused_asked of in
      let desk : List ℕ = row_html refused_desk r in
      let own-entry : List ℕ = entry_name_html scene.history (cell_at r 0) in
      join v row_open (name ++ ((answer ++ named) ++ (pieces ++ (desk ++ (own-entry ++ refused_end))))) (mark v row_open own-row_open)
      (join v name ((answer ++ named) ++ (pieces ++ (desk ++ (own-entry ++ refused_end)))) (item-name v scene.shown (cell_at of 3) seen.led (of-known 3))
      (join v (answer ++ named) (pieces ++ (desk ++ (own-entry ++ refused_end))) (join v answer named (row v refused_answer r laid-refused_answer known) (entry-name v scene.history (cell_at r 6) seen.kept (known 6)))
      (join v pieces (desk ++ (own-entry ++ refused_end)) (dated-row v scene.tables seen.of-tables refused_asked of laid-refused_asked of-known)
      (join v desk (own-entry ++ refused_end) (row v refused_desk r laid-refused_desk known)
      (join v own-entry refused_end (entry-name v scene.history (cell_at r 0) seen.kept (known 0)) (mark v refused_end own-refused_end))))))

  pub unkept : (scene : SceneView) → SceneKnown scene → (missed : ℕ) → v.Known (decimal missed) → v.Known (decimal (length (drop FEW_ROWS (refused_rows scene.history)))) → Made v (refused_section scene missed)
  unfolding refused_section refused_back refused_lines refused_or_none small_words
  unkept scene seen missed of-missed of-rest =
      let calls : List RowView = refused_rows scene.history in
      let lines : List ℕ = refused_or_none scene missed calls in
      let more-of : List ℕ = more_html missed (codes "entry of the history is") (codes "entries of the history are") in
      join v refused_open (lines ++ (more-of ++ section_end)) (mark v refused_open own-refused_open)
      (join v lines (more-of ++ section_end)
      (either v (has_none calls && (missed == 0)) none_refused (folded_html (refused_listing scene) FEW_ROWS calls) (mark v none_refused own-none_refused)
      (folded v (λ (r : RowView). (column : ℕ) → v.Known (cell_at r column)) (refused_listing scene) FEW_ROWS calls own-refused_front own-table_end (λ r known. call scene seen (asked_of scene.history r) r (asked-known scene.history r seen.of-entries known) known) (all-by-word (λ (r : RowView). (column : ℕ) → v.Known (cell_at r column)) 7 refusals scene.history seen.of-entries) of-rest))
      (join v more-of section_end (further v missed (codes "entry of the history is") (codes "entries of the history are") of-missed (small v (codes "entry of the history is") 20 (omega arith) refl) (small v (codes "entries of the history are") 21 (omega arith) refl)) (mark v section_end own-section_end)))

  -- the orders that overloads are explained by
  abbrev pub OrdersKnown : Option WorkView → Type 0
  OrdersKnown None = Unit {0}
  OrdersKnown (Some work) = All (λ (r : RowView). (column : ℕ) → v.Known (cell_at r column)) work.orders

  order-link : (number name : List ℕ) → v.Ordered number name → Made v (order_link number name)
  order-link number name leads = (Order number name ∷ [], All-cons (IsPieceOf v.Known v.Shown v.Kept v.Ordered) (Order number name) [] leads (All-nil (IsPieceOf v.Known v.Shown v.Kept v.Ordered)), sym (append-nil (order_link number name)))

  -- an order that passes leads to it if it is shown
  linked-at : (scene : SceneView) (p : RowView → Bool) (o : Option RowView) (says : List ℕ) → Made v says
      → ((r : RowView) → o ≡ Some r → p r ≡ true → has_item scene.shown (cell_at r 0) ≡ true → v.Ordered (cell_at r 1) (cell_at r 0)) → Made v (linked_html scene (passing p o) says)
  unfolding order_words
  linked-at scene p None says made leads = made
  linked-at scene p (Some r) says made leads = by (p r) refl
    where
      here : (b : Bool) → has_item scene.shown (cell_at r 0) ≡ b → (has_item scene.shown (cell_at r 0) ≡ true → v.Ordered (cell_at r 1) (cell_at r 0)) → Made v (if b then order_link (cell_at r 1) (cell_at r 0) ++ (says ++ link_end) else says)
      here true has leads =
          join v (order_link (cell_at r 1) (cell_at r 0)) (says ++ link_end) (order-link (cell_at r 1) (cell_at r 0) (leads has)) (join v says link_end made (mark v link_end own-link_end))
      here false has leads = made

      by : (b : Bool) → p r ≡ b → Made v (linked_html scene (if b then Some r else None) says)
      by true passes = here (has_item scene.shown (cell_at r 0)) refl (leads r refl passes)
      by false passes = made

  linked : (scene : SceneView) → SceneKnown scene → (name : List ℕ) (p : RowView → Bool) → ((r : RowView) → p r ≡ true → cell_at r 0 ≡ name) → (k : ℕ) (says : List ℕ) → Made v says
      → Made v (linked_html scene (passing p (slice_get (rows_named name scene.orders) k)) says)
  linked scene of name p named k says made =
      linked-at scene p (slice_get (rows_named name scene.orders) k) says made
      (λ r at passes has.
      let is : cell_at r 0 ≡ name = named r passes in
      subst (λ (t : List ℕ). v.Ordered (cell_at r 1) t) (sym is) (at-place (λ (r : RowView). v.Ordered (cell_at r 1) name) (rows_named name scene.orders) k (of.leads-to name (subst (λ (t : List ℕ). has_item scene.shown t ≡ true) is has)) r at))

  pub order-known : (scene : SceneView) → SceneKnown scene → (name : List ℕ) (k : ℕ) (r : RowView) → slice_get (rows_named name scene.orders) k ≡ Some r → (column : ℕ) → v.Known (cell_at r column)
  order-known scene of name k r at = at-place (λ (r : RowView). (column : ℕ) → v.Known (cell_at r column)) (rows_named name scene.orders) k (all-named (λ (r : RowView). (column : ℕ) → v.Known (cell_at r column)) name scene.orders of.of-orders) r at

  pub linked-number : (scene : SceneView) → SceneKnown scene → (name number says : List ℕ) → Made v says → Made v (linked_html scene (numbered scene name number) says)
  linked-number scene of name number says made = linked scene of name (is_numbered name number) (λ r passes. numbered-name name number r passes) (place_of number) says made

  pub linked-order : (scene : SceneView) → SceneKnown scene → (name kind number says : List ℕ) → Made v says → Made v (linked_html scene (ordered scene name kind number) says)
  linked-order scene of name kind number says made = linked scene of name (is_order name kind number) (λ r passes. ordered-name name kind number r passes) (place_of number) says made
