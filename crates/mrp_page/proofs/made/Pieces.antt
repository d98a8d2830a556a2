-- Rows, links and lists consist of what is known.
use Rattle.std.proofs.Common.{◌≡◌, ◌∙◌, ◌⊎◌, ◌-◌, ◌<◌, ◌≤◌, ℕ, suc, Bool, true, false, Option, None, Some, List, [], ◌∷◌, ◌++◌, codes, decimal, drop, get_or, length, refl, sym, ap, subst, take, arith, inl, inr}
use Rattle.mrp_facts.specs.Facts.{Facts}
use Rattle.mrp_page.specs.Dates.{cell_date, date_in, said_date}
use Rattle.std.specs.Prelude.{if◌then◌else◌, ◌==◌}
use Rattle.std.proofs.lemmas.Bool.{cases_lt}
use Rattle.std.proofs.lemmas.List.{append-nil, get_or_past}
use Rattle.std.proofs.lemmas.List.Concat.{flat_map-append}
use Rattle.std.proofs.lemmas.List.Elements.{All-append, All-cons, All-contains, All-drop, All-nil, All-take}
use Rattle.std.specs.List.{All, Contains, flat_map}
use Rattle.mrp_page.specs.Amounts.{amount}
use Rattle.mrp_page.specs.Draw.{amounts_html, dated_table, has_item, has_none, item_name_html, link_html, measure_html, more_html, table_html}
use Rattle.mrp_page.specs.Escaped.{escaped}
use Rattle.mrp_page.specs.Folded.{Listing, capped_html, folded_html, hidden_html, listed_html}
use Rattle.mrp_page.specs.Frame.{count_row}
use Rattle.mrp_page.specs.Html.{flow_html, is_zero, number_html, number_tag}
use Rattle.mrp_page.specs.Known.{IsPieceOf, layouts, own_words, small_words, tables_layouts}
use Rattle.mrp_page.specs.Laws.{Entry, Escaped, Link, Markup, piece_html}
use Rattle.mrp_page.specs.layout.Lists.{more, rest_end, rest_open}
use Rattle.mrp_page.specs.layout.Records.{week}
use Rattle.mrp_page.specs.Refused.{entry_link_html, entry_name_html}
use Rattle.mrp_page.specs.Row.{Cells, RowView, cell_at}
use Rattle.mrp_page.specs.Template.{Date, DateWhere, Drawn, Mark, Number, Text, Week, Where, date_at, dated_html, dated_rows, flow_at, flows_html, has_word, number_at, numbers_html, part_html, row_html, rows_html, week_at}
use Rattle.mrp_page.specs.declared.limits.TheConstants.{MOST_LINES, SOME_ROWS}
use Rattle.mrp_day.specs.declared.section.Section.{Section}
use Rattle.mrp_day.specs.declared.section.Section.TheVariants as s
use Rattle.mrp_page.proofs.made.Facts.{Made, TablesKnown, Vocabulary}
use Rattle.mrp_page.proofs.made.Laid.{laid-more, laid-rest_open}
use Rattle.mrp_page.proofs.made.Own.{IsOwn, own-parts, own-table-parts}
use Rattle.mrp_page.proofs.made.Plain.{own-cell, own-cell-end, own-date-back, own-date-front, own-empty, own-rest_end, own-row-end, own-said-back, own-said-front, own-zero}
use Rattle.mrp_page.proofs.made.Rows.{named-item}

module _ (v : Vocabulary) where
  pub none : Made v []
  none = ([], All-nil (IsPieceOf v.Known v.Shown v.Kept v.Ordered), refl)

  pub mark : (m : List ℕ) → Contains own_words m → Made v m
  mark m is = (Markup m ∷ [], All-cons (IsPieceOf v.Known v.Shown v.Kept v.Ordered) (Markup m) [] is (All-nil (IsPieceOf v.Known v.Shown v.Kept v.Ordered)), sym (append-nil m))

  pub text : (t : List ℕ) → v.Known t → Made v (escaped t)
  text t known = (Escaped t ∷ [], All-cons (IsPieceOf v.Known v.Shown v.Kept v.Ordered) (Escaped t) [] known (All-nil (IsPieceOf v.Known v.Shown v.Kept v.Ordered)), sym (append-nil (escaped t)))

  pub join : (a b : List ℕ) → Made v a → Made v b → Made v (a ++ b)
  join a b x y = (
    x.0 ++ y.0,
    All-append (IsPieceOf v.Known v.Shown v.Kept v.Ordered) x.0 y.0 x.1 y.1,
    ap (λ (t : List ℕ). t ++ b) x.2 ∙ ap (λ (t : List ℕ). flat_map piece_html x.0 ++ t) y.2 ∙ sym (flat_map-append piece_html x.0 y.0),
  )

  pub each : {X : Type 0} (P : X → Type 0) (f : X → List ℕ) → ((x : X) → P x → Made v (f x)) → (xs : List X) → All P xs → Made v (flat_map f xs)
  each P f made [] all = none
  each P f made (x ∷ xs) all = join (f x) (flat_map f xs) (made x (all 0 x (omega arith))) (each P f made xs (λ k d within. all (suc k) d (omega arith)))

  pub either : (b : Bool) (x y : List ℕ) → Made v x → Made v y → Made v (if b then x else y)
  either true x y of-x of-y = of-x
  either false x y of-x of-y = of-y

  pub small : (w : List ℕ) (k : ℕ) → k < length small_words → get_or small_words k w ≡ w → v.Known w
  small w k within is = v.words w (k, within, is)

  pub nothing : v.Known []
  unfolding small_words
  nothing = small [] 0 (omega arith) refl

  pub nought : v.Known (codes "0")
  unfolding small_words
  nought = small (codes "0") 1 (omega arith) refl

  pub unit : v.Known (codes "1")
  unfolding small_words
  unit = small (codes "1") 2 (omega arith) refl

  unit-minute : v.Known (codes "1.000")
  unfolding small_words
  unit-minute = small (codes "1.000") 19 (omega arith) refl

  pub knows : (section : Section) (cells : Cells) → All v.Known cells → (column : ℕ) → v.Known (cell_at (record { section = section; cells = cells }) column)
  knows section cells all column = by (cases_lt column (length cells))
    where
      by : (column < length cells) ⊎ (length cells ≤ column) → v.Known (cell_at (record { section = section; cells = cells }) column)
      by (inl within) = all column [] within
      by (inr past) = subst v.Known (sym (get_or_past cells column [] past)) nothing

  number-tag : (b : Bool) → Made v (if b then codes "<td class=z>" else codes "<td>")
  number-tag b = either b (codes "<td class=z>") (codes "<td>") (mark (codes "<td class=z>") own-zero) (mark (codes "<td>") own-cell)

  pub a-number : (t : List ℕ) → v.Known t → Made v (number_html t)
  a-number t known = join (number_tag t) (escaped t ++ codes "</td>") (number-tag (is_zero t)) (join (escaped t) (codes "</td>") (text t known) (mark (codes "</td>") own-cell-end))

  -- the date of a week
  pub date-known : (tables : Option Facts) → TablesKnown v.Known tables → (number : List ℕ) → v.Known (date_in tables number)
  date-known None of number = nothing
  date-known (Some facts) of number = of.dated (amount number)

  date-of-cell : (date : List ℕ) → v.Known date → Made v (cell_date date)
  date-of-cell date known =
      either (length date == 0) [] (codes " <i>" ++ (escaped date ++ codes "</i>")) none
      (join (codes " <i>") (escaped date ++ codes "</i>") (mark (codes " <i>") own-date-front) (join (escaped date) (codes "</i>") (text date known) (mark (codes "</i>") own-date-back)))

  date-said : (date : List ℕ) → v.Known date → Made v (said_date date)
  date-said date known =
      either (length date == 0) [] (codes " (" ++ (escaped date ++ codes ")")) none
      (join (codes " (") (escaped date ++ codes ")") (mark (codes " (") own-said-front) (join (escaped date) (codes ")") (text date known) (mark (codes ")") own-said-back)))

  week-cell : (tables : Option Facts) → TablesKnown v.Known tables → (r : RowView) (column : ℕ) → v.Known (cell_at r column) → Made v (week_at tables column r)
  week-cell tables of r column known =
      let number-of : List ℕ = cell_at r column in
      let dated-of : List ℕ = cell_date (date_in tables number-of) in
      join (codes "<td>") (escaped number-of ++ (dated-of ++ codes "</td>")) (mark (codes "<td>") own-cell)
      (join (escaped number-of) (dated-of ++ codes "</td>") (text number-of known)
      (join dated-of (codes "</td>") (date-of-cell (date_in tables number-of) (date-known tables of number-of)) (mark (codes "</td>") own-cell-end)))

  part : (tables : Option Facts) → TablesKnown v.Known tables → (r : RowView) (p : Drawn) → ((column : ℕ) → v.Known (cell_at r column)) → IsOwn p → Made v (part_html tables r p)
  part tables of r (Mark m) known is = mark m (is 0 m (omega arith))
  part tables of r (Where column word m) known is = either (has_word column word r) m [] (mark m (is 0 m (omega arith))) none
  part tables of r (Text column) known is = text (cell_at r column) (known column)
  part tables of r (Number column) known is = a-number (cell_at r column) (known column)
  part tables of r (Week column) known is = week-cell tables of r column (known column)
  part tables of r (Date column) known is = date-said (date_in tables (cell_at r column)) (date-known tables of (cell_at r column))
  part tables of r (DateWhere column word at) known is =
      either (has_word column word r) (date_at tables at r) [] (date-said (date_in tables (cell_at r at)) (date-known tables of (cell_at r at))) none

  pub row : (parts : List Drawn) (r : RowView) → Contains layouts parts → ((column : ℕ) → v.Known (cell_at r column)) → Made v (row_html parts r)
  unfolding row_html
  row parts r laid known = each IsOwn (part_html None r) (λ p is. part None tt r p known is) parts (own-parts parts laid)

  pub table-row : (parts : List Drawn) (r : RowView) → Contains tables_layouts parts → ((column : ℕ) → v.Known (cell_at r column)) → Made v (row_html parts r)
  unfolding row_html
  table-row parts r laid known = each IsOwn (part_html None r) (λ p is. part None tt r p known is) parts (own-table-parts parts laid)

  -- the same with the dates of weeks
  pub dated-row : (tables : Option Facts) → TablesKnown v.Known tables → (parts : List Drawn) (r : RowView) → Contains layouts parts → ((column : ℕ) → v.Known (cell_at r column)) → Made v (dated_html tables parts r)
  unfolding dated_html
  dated-row tables of parts r laid known = each IsOwn (part_html tables r) (λ p is. part tables of r p known is) parts (own-parts parts laid)

  pub table-dated : (tables : Option Facts) → TablesKnown v.Known tables → (parts : List Drawn) (r : RowView) → Contains tables_layouts parts → ((column : ℕ) → v.Known (cell_at r column)) → Made v (dated_html tables parts r)
  unfolding dated_html
  table-dated tables of parts r laid known = each IsOwn (part_html tables r) (λ p is. part tables of r p known is) parts (own-table-parts parts laid)

  pub rows-of : (parts : List Drawn) (rs : List RowView) → Contains layouts parts → All (λ (r : RowView). (column : ℕ) → v.Known (cell_at r column)) rs → Made v (rows_html parts rs)
  unfolding rows_html
  rows-of parts rs laid all = each (λ (r : RowView). (column : ℕ) → v.Known (cell_at r column)) (row_html parts) (λ r known. row parts r laid known) rs all

  numbers : (column : ℕ) (rs : List RowView) → All (λ (r : RowView). (column : ℕ) → v.Known (cell_at r column)) rs → Made v (numbers_html column rs)
  unfolding numbers_html
  numbers column rs all = each (λ (r : RowView). (column : ℕ) → v.Known (cell_at r column)) (number_at column) (λ r known. a-number (cell_at r column) (known column)) rs all

  flow : (t : List ℕ) → v.Known t → Made v (flow_html t)
  flow t known =
      either (is_zero t) (codes "<td></td>") (codes "<td>" ++ (escaped t ++ codes "</td>")) (mark (codes "<td></td>") own-empty)
      (join (codes "<td>") (escaped t ++ codes "</td>") (mark (codes "<td>") own-cell) (join (escaped t) (codes "</td>") (text t known) (mark (codes "</td>") own-cell-end)))

  flows : (column : ℕ) (rs : List RowView) → All (λ (r : RowView). (column : ℕ) → v.Known (cell_at r column)) rs → Made v (flows_html column rs)
  unfolding flows_html
  flows column rs all = each (λ (r : RowView). (column : ℕ) → v.Known (cell_at r column)) (flow_at column) (λ r known. flow (cell_at r column) (known column)) rs all

  pub table : (front : List ℕ) (parts : List Drawn) (rs : List RowView) (back : List ℕ) → Contains own_words front → Contains layouts parts → All (λ (r : RowView). (column : ℕ) → v.Known (cell_at r column)) rs → Contains own_words back → Made v (table_html front parts rs back)
  unfolding table_html
  table front parts rs back of-front laid all of-back = join front (rows_html parts rs ++ back) (mark front of-front) (join (rows_html parts rs) back (rows-of parts rs laid all) (mark back of-back))

  pub dated-table : (tables : Option Facts) → TablesKnown v.Known tables → (front : List ℕ) (parts : List Drawn) (rs : List RowView) (back : List ℕ) → Contains own_words front → Contains layouts parts → All (λ (r : RowView). (column : ℕ) → v.Known (cell_at r column)) rs → Contains own_words back
      → Made v (dated_table tables front parts rs back)
  unfolding dated_table dated_rows
  dated-table tables of front parts rs back of-front laid all of-back =
      let lines : List ℕ = flat_map (dated_html tables parts) rs in
      join front (lines ++ back) (mark front of-front)
      (join lines back (each (λ (r : RowView). (column : ℕ) → v.Known (cell_at r column)) (dated_html tables parts) (λ r known. dated-row tables of parts r laid known) rs all) (mark back of-back))

  pub measure : (label : List ℕ) (column : ℕ) (rs : List RowView) → Contains own_words label → All (λ (r : RowView). (column : ℕ) → v.Known (cell_at r column)) rs → Made v (measure_html label column rs)
  unfolding measure_html
  measure label column rs is all = join label (numbers_html column rs ++ codes "</tr>\n") (mark label is) (join (numbers_html column rs) (codes "</tr>\n") (numbers column rs all) (mark (codes "</tr>\n") own-row-end))

  pub amounts : (label : List ℕ) (column : ℕ) (rs : List RowView) → Contains own_words label → All (λ (r : RowView). (column : ℕ) → v.Known (cell_at r column)) rs → Made v (amounts_html label column rs)
  unfolding amounts_html
  amounts label column rs is all = join label (flows_html column rs ++ codes "</tr>\n") (mark label is) (join (flows_html column rs) (codes "</tr>\n") (flows column rs all) (mark (codes "</tr>\n") own-row-end))

  pub link : (name : List ℕ) → v.Shown name → Made v (link_html name)
  link name leads = (Link name ∷ [], All-cons (IsPieceOf v.Known v.Shown v.Kept v.Ordered) (Link name) [] leads (All-nil (IsPieceOf v.Known v.Shown v.Kept v.Ordered)), sym (append-nil (link_html name)))

  pub item-name : (shown : List RowView) (name : List ℕ) → All (λ (r : RowView). v.Shown (cell_at r 0)) shown → v.Known name → Made v (item_name_html shown name)
  unfolding item_name_html
  item-name shown name led known = by (has_item shown name) refl
    where
      by : (b : Bool) → has_item shown name ≡ b → Made v (if b then link_html name else escaped name)
      by true has = link name (subst v.Shown (named-item shown name has).2 (All-contains (λ (r : RowView). v.Shown (cell_at r 0)) shown (named-item shown name has).0 led (named-item shown name has).1))
      by false has = text name known

  pub counted : (count : ℕ) (one many : List ℕ) → v.Known (decimal count) → v.Known one → v.Known many → (column : ℕ) → v.Known (cell_at (count_row count one many) column)
  counted count one many of-count of-one of-many = knows s.Run (decimal count ∷ (if count == 1 then one else many) ∷ [])
      (All-cons v.Known (decimal count) ((if count == 1 then one else many) ∷ []) of-count (All-cons v.Known (if count == 1 then one else many) [] (by (count == 1)) (All-nil v.Known)))
    where
      by : (b : Bool) → v.Known (if b then one else many)
      by true = of-one
      by false = of-many

  pub further : (count : ℕ) (one many : List ℕ) → v.Known (decimal count) → v.Known one → v.Known many → Made v (more_html count one many)
  unfolding more_html
  further count one many of-count of-one of-many = either (count == 0) [] (row_html more (count_row count one many)) none (row more (count_row count one many) laid-more (counted count one many of-count of-one of-many))

  entry-link : (number : List ℕ) → v.Kept number → Made v (entry_link_html number)
  entry-link number kept = (Entry number ∷ [], All-cons (IsPieceOf v.Known v.Shown v.Kept v.Ordered) (Entry number) [] kept (All-nil (IsPieceOf v.Known v.Shown v.Kept v.Ordered)), sym (append-nil (entry_link_html number)))

  pub entry-name : (history : List RowView) (number : List ℕ) → All (λ (r : RowView). v.Kept (cell_at r 0)) history → v.Known number → Made v (entry_name_html history number)
  unfolding entry_name_html
  entry-name history number kept known = by (has_item history number) refl
    where
      by : (b : Bool) → has_item history number ≡ b → Made v (if b then entry_link_html number else escaped number)
      by true has = entry-link number (subst v.Kept (named-item history number has).2 (All-contains (λ (r : RowView). v.Kept (cell_at r 0)) history (named-item history number has).0 kept (named-item history number has).1))
      by false has = text number known

  listed : (P : RowView → Type 0) (listing : Listing) (rs : List RowView) → Contains own_words listing.front → Contains own_words listing.back → ((r : RowView) → P r → Made v (listing.line r)) → All P rs → Made v (listed_html listing rs)
  unfolding listed_html
  listed P listing rs of-front of-back line all =
      either (has_none rs) [] (listing.front ++ (flat_map listing.line rs ++ listing.back)) none
      (join listing.front (flat_map listing.line rs ++ listing.back) (mark listing.front of-front)
      (join (flat_map listing.line rs) listing.back (each P listing.line line rs all) (mark listing.back of-back)))

  pub folded : (P : RowView → Type 0) (listing : Listing) (most : ℕ) (rs : List RowView) → Contains own_words listing.front → Contains own_words listing.back → ((r : RowView) → P r → Made v (listing.line r))
      → All P rs → v.Known (decimal (length (drop most rs))) → Made v (folded_html listing most rs)
  unfolding folded_html hidden_html
  folded P listing most rs of-front of-back line all count =
      let rest : List RowView = drop most rs in
      join (listed_html listing (take most rs)) (hidden_html listing rest)
      (listed P listing (take most rs) of-front of-back line (All-take P most rs all))
      (either (has_none rest) [] (row_html rest_open (count_row (length rest) [] []) ++ (listed_html listing rest ++ rest_end)) none
      (join (row_html rest_open (count_row (length rest) [] [])) (listed_html listing rest ++ rest_end) (row rest_open (count_row (length rest) [] []) laid-rest_open (counted (length rest) [] [] count nothing nothing))
      (join (listed_html listing rest) rest_end (listed P listing rest of-front of-back line (All-drop P most rs all)) (mark rest_end own-rest_end))))

  -- the counts of a list are known
  pub record Counted (rs : List RowView) : Type 0 where
    pub all-of : v.Known (decimal (length rs))
    pub rest-of : v.Known (decimal (length (drop SOME_ROWS (take MOST_LINES rs))))
    pub past-of : v.Known (decimal (length (drop MOST_LINES rs)))

  pub capped : (P : RowView → Type 0) (listing : Listing) (rs : List RowView) → Contains own_words listing.front → Contains own_words listing.back → ((r : RowView) → P r → Made v (listing.line r)) → All P rs → Counted rs → Made v (capped_html listing SOME_ROWS rs)
  unfolding capped_html small_words
  capped P listing rs of-front of-back line all counts =
      let kept : List RowView = take MOST_LINES rs in
      join (folded_html listing SOME_ROWS kept) (more_html (length (drop MOST_LINES rs)) (codes "is") (codes "are"))
      (folded P listing SOME_ROWS kept of-front of-back line (All-take P MOST_LINES rs all) counts.rest-of)
      (further (length (drop MOST_LINES rs)) (codes "is") (codes "are") counts.past-of (small (codes "is") 22 (omega arith) refl) (small (codes "are") 23 (omega arith) refl))
