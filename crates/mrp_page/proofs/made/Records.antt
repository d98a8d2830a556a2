-- Time-phased records.
use Rattle.std.proofs.Common.{◌≡◌, ◌-◌, ℕ, suc, Bool, true, false, Option, None, Some, List, [], ◌∷◌, ◌++◌, codes, decimal, drop, length, refl, take, arith}
use Rattle.mrp_facts.specs.Facts.{Facts, item_facts}
use Rattle.mrp_facts.specs.declared.facts.ItemFacts.{ItemFacts}
use Rattle.mrp_tables.specs.Versions.{lead_unit}
use Rattle.mrp_tables.specs.declared.item.Item.{Item}
use Rattle.mrp_tables.specs.declared.version.LeadUnit.{LeadUnit}
use Rattle.mrp_page.specs.ItemFacts.{facts_cells, facts_html, facts_or_none, facts_row, item_facts_html, safety_cell_html, safety_cell_or_none, safety_html, safety_line_html, safety_or_none, safety_scale_html, scale_html, scale_or_none, steps_html}
use Rattle.mrp_page.specs.Dates.{date_in}
use Rattle.mrp_page.specs.Weeks.{date_html, start_html, week_html, weeks_html}
use Rattle.std.specs.Prelude.{if◌then◌else◌, ◌==◌, ◌||◌, nat_lt}
use Rattle.std.proofs.lemmas.List.Elements.{All-cons, All-drop, All-nil, All-take}
use Rattle.std.specs.List.{All, flat_map}
use Rattle.mrp_page.specs.Draw.{all_weeks, amounts_html, balance_html, booked_html, framed_record, has_none, is_scheduled, later_record, measure_html, planned_html, points_html, promised_html, record_html, record_or_none, record_rows, record_table, supplies_html}
use Rattle.mrp_page.specs.Escaped.{escaped}
use Rattle.mrp_page.specs.Frame.{frame_of}
use Rattle.mrp_page.specs.layout.Head.{start_end, start_open}
use Rattle.mrp_page.specs.layout.Items.{facts_end, facts_open, facts_steps}
use Rattle.mrp_page.specs.layout.Lists.{grid_end, rest_end}
use Rattle.mrp_page.specs.layout.Records.{available_label, balance_chart, balance_label, balance_scale, booked_label, date_end, date_open, firm_label, gross_label, later_open, line_open, no_record, planned_label, point, points_end, record_head, safety_line, safety_scale, scheduled_label, starts_label, week, week_end, weeks_end}
use Rattle.mrp_page.specs.Row.{RowView, cell_at}
use Rattle.mrp_page.specs.Rows.{greatest, higher, rank}
use Rattle.mrp_page.specs.Template.{row_html}
use Rattle.mrp_page.specs.declared.limits.TheConstants.{TABLE_WEEKS}
use Rattle.mrp_day.specs.declared.section.Section.TheVariants as s
use Rattle.mrp_page.proofs.made.Facts.{Made, TablesKnown, Vocabulary}
use Rattle.mrp_page.proofs.made.Laid.{laid-balance_chart, laid-balance_scale, laid-facts_end, laid-facts_open, laid-facts_steps, laid-point, laid-record_head, laid-safety_line, laid-safety_scale, laid-week}
use Rattle.mrp_page.proofs.made.Plain.{own-available_label, own-balance_label, own-booked_label, own-date_end, own-date_open, own-empty, own-firm_label, own-grid_end, own-gross_label, own-later_open, own-line_open, own-no_record, own-none, own-planned_label, own-points_end, own-rest_end, own-scheduled_label, own-start_end, own-start_open, own-starts_label, own-week_end, own-weeks_end}
use Rattle.mrp_page.proofs.made.Pieces.{a-number, amounts, date-known, each, either, join, knows, mark, measure, none, row, table, table-row, text, unit}

module _ (v : Vocabulary) where
  a-date : (date : List ℕ) → v.Known date → Made v (date_html date)
  a-date date known =
      either v (length date == 0) [] (date_open ++ (escaped date ++ date_end)) (none v)
      (join v date_open (escaped date ++ date_end) (mark v date_open own-date_open) (join v (escaped date) date_end (text v date known) (mark v date_end own-date_end)))

  a-week : (tables : Option Facts) → TablesKnown v.Known tables → (r : RowView) → ((column : ℕ) → v.Known (cell_at r column)) → Made v (week_html tables r)
  a-week tables of r known =
      let dated : List ℕ = date_html (date_in tables (cell_at r 1)) in
      join v (row_html week r) (dated ++ week_end) (row v week r laid-week known)
      (join v dated week_end (a-date (date_in tables (cell_at r 1)) (date-known v tables of (cell_at r 1))) (mark v week_end own-week_end))

  pub weeks-of-rows : (tables : Option Facts) → TablesKnown v.Known tables → (rs : List RowView) → All (λ (r : RowView). (column : ℕ) → v.Known (cell_at r column)) rs → Made v (weeks_html tables rs)
  unfolding weeks_html
  weeks-of-rows tables of rs all =
      join v (flat_map (week_html tables) rs) weeks_end (each v (λ (r : RowView). (column : ℕ) → v.Known (cell_at r column)) (week_html tables) (λ r known. a-week tables of r known) rs all) (mark v weeks_end own-weeks_end)

  pub a-start : (date : List ℕ) → v.Known date → Made v (start_html date)
  a-start date known =
      either v (length date == 0) [] (start_open ++ (escaped date ++ start_end)) (none v)
      (join v start_open (escaped date ++ start_end) (mark v start_open own-start_open) (join v (escaped date) start_end (text v date known) (mark v start_end own-start_end)))

  -- what the tables say of an item
  steps : (item : Item) (r : RowView) → ((column : ℕ) → v.Known (cell_at r column)) → Made v (steps_html item r)
  steps item r known = either v (nat_lt 0 item.least || nat_lt 1 item.step) (row_html facts_steps r) [] (table-row v facts_steps r laid-facts_steps known) (none v)

  facts-of : (counted_in : LeadUnit) (own : ItemFacts) → All v.Known (facts_cells counted_in own) → Made v (facts_html counted_in own)
  unfolding facts_html facts_row
  facts-of counted_in own all =
      let r : RowView = facts_row counted_in own in
      let known : (column : ℕ) → v.Known (cell_at r column) = knows v s.Run (facts_cells counted_in own) all in
      join v (row_html facts_open r) (steps_html own.item r ++ row_html facts_end r) (table-row v facts_open r laid-facts_open known)
      (join v (steps_html own.item r) (row_html facts_end r) (steps own.item r known) (table-row v facts_end r laid-facts_end known))

  facts-or-none : (counted_in : LeadUnit) (o : Option ItemFacts) → ((own : ItemFacts) → o ≡ Some own → All v.Known (facts_cells counted_in own)) → Made v (facts_or_none counted_in o)
  facts-or-none counted_in None of = none v
  facts-or-none counted_in (Some own) of = facts-of counted_in own (of own refl)

  pub item-facts-of : (tables : Option Facts) → TablesKnown v.Known tables → (name : List ℕ) → Made v (item_facts_html tables name)
  item-facts-of None of name = none v
  item-facts-of (Some facts) of name = facts-or-none (lead_unit facts.tables.version) (item_facts facts.tables name) (λ own is. of.of-items name own is)

  safety-or-none : (counted_in : LeadUnit) (o : Option ItemFacts) (f : RowView) → ((own : ItemFacts) → o ≡ Some own → All v.Known (facts_cells counted_in own)) → ((column : ℕ) → v.Known (cell_at f column)) → Made v (safety_or_none o f)
  safety-or-none counted_in None f of known = none v
  safety-or-none counted_in (Some own) f of known =
      let pieces : List ℕ = decimal own.item.safety in
      let of-pieces : v.Known pieces = of own refl 9 [] (omega arith) in
      either v (nat_lt 0 own.item.safety) (safety_line_html own.item.safety f) []
      (table-row v safety_line (record { section = s.Run; cells = pieces ∷ cell_at f 1 ∷ [] }) laid-safety_line (knows v s.Run (pieces ∷ cell_at f 1 ∷ []) (All-cons v.Known pieces (cell_at f 1 ∷ []) of-pieces (All-cons v.Known (cell_at f 1) [] (known 1) (All-nil v.Known))))) (none v)

  safety : (tables : Option Facts) → TablesKnown v.Known tables → (f : RowView) → ((column : ℕ) → v.Known (cell_at f column)) → Made v (safety_html tables f)
  safety None of f known = none v
  safety (Some facts) of f known = safety-or-none (lead_unit facts.tables.version) (item_facts facts.tables (cell_at f 0)) f (λ own is. of.of-items (cell_at f 0) own is) known

  -- the same in the scale of a picture, and in a cell
  scale-or-none : (counted_in : LeadUnit) (o : Option ItemFacts) → ((own : ItemFacts) → o ≡ Some own → All v.Known (facts_cells counted_in own)) → Made v (scale_or_none o)
  scale-or-none counted_in None of = none v
  scale-or-none counted_in (Some own) of =
      let pieces : List ℕ = decimal own.item.safety in
      either v (nat_lt 0 own.item.safety) (safety_scale_html own.item.safety) []
      (table-row v safety_scale (record { section = s.Run; cells = pieces ∷ [] }) laid-safety_scale (knows v s.Run (pieces ∷ []) (All-cons v.Known pieces [] (of own refl 9 [] (omega arith)) (All-nil v.Known)))) (none v)

  scale : (tables : Option Facts) → TablesKnown v.Known tables → (f : RowView) → Made v (scale_html tables f)
  scale None of f = none v
  scale (Some facts) of f = scale-or-none (lead_unit facts.tables.version) (item_facts facts.tables (cell_at f 0)) (λ own is. of.of-items (cell_at f 0) own is)

  safety-cell-or-none : (counted_in : LeadUnit) (o : Option ItemFacts) → ((own : ItemFacts) → o ≡ Some own → All v.Known (facts_cells counted_in own)) → Made v (safety_cell_or_none o)
  safety-cell-or-none counted_in None of = mark v (codes "<td></td>") own-empty
  safety-cell-or-none counted_in (Some own) of = a-number v (decimal own.item.safety) (of own refl 9 [] (omega arith))

  pub safety-cell : (tables : Option Facts) → TablesKnown v.Known tables → (name : List ℕ) → Made v (safety_cell_html tables name)
  safety-cell None of name = none v
  safety-cell (Some facts) of name = safety-cell-or-none (lead_unit facts.tables.version) (item_facts facts.tables name) (λ own is. of.of-items name own is)

  pub top-known : (column : ℕ) (least : List ℕ) (rs : List RowView) → v.Known least → All (λ (r : RowView). (column : ℕ) → v.Known (cell_at r column)) rs → v.Known (greatest column least rs)
  unfolding greatest
  top-known column least [] known all = known
  top-known column least (r ∷ rs) known all = top-known column (higher least (cell_at r column)) rs (by (nat_lt (rank least) (rank (cell_at r column)))) (λ k d within. all (suc k) d (omega arith))
    where
      by : (b : Bool) → v.Known (if b then cell_at r column else least)
      by true = all 0 r (omega arith) column
      by false = known

  framed : (name : List ℕ) (rs : List RowView) (a b : ℕ) (least : List ℕ) → v.Known name → v.Known least → All (λ (r : RowView). (column : ℕ) → v.Known (cell_at r column)) rs → (column : ℕ) → v.Known (cell_at (frame_of name rs a b least) column)
  framed name rs a b least known of-least all =
      let weeks : List ℕ = greatest 1 (codes "1") rs in
      let top : List ℕ = greatest b (greatest a least rs) rs in
      knows v s.Run (name ∷ weeks ∷ top ∷ []) (All-cons v.Known name (weeks ∷ top ∷ []) known (All-cons v.Known weeks (top ∷ []) (top-known 1 (codes "1") rs (unit v) all)
      (All-cons v.Known top [] (top-known b (greatest a least rs) rs (top-known a least rs of-least all) all) (All-nil v.Known))))

  supplies : (scheduled : Bool) (plan : List RowView) → All (λ (r : RowView). (column : ℕ) → v.Known (cell_at r column)) plan → Made v (supplies_html scheduled plan)
  unfolding supplies_html
  supplies scheduled plan all = either v scheduled (amounts_html scheduled_label 3 plan) (amounts_html firm_label 4 plan) (amounts v scheduled_label 3 plan own-scheduled_label all) (amounts v firm_label 4 plan own-firm_label all)

  booked : (rs : List RowView) → All (λ (r : RowView). (column : ℕ) → v.Known (cell_at r column)) rs → Made v (booked_html rs)
  unfolding booked_html
  booked rs all = (join v (amounts_html booked_label 3 rs) (measure_html available_label 5 rs) (amounts v booked_label 3 rs own-booked_label all) (measure v available_label 5 rs own-available_label all))

  promised : (rs : List RowView) → All (λ (r : RowView). (column : ℕ) → v.Known (cell_at r column)) rs → Made v (promised_html rs)
  unfolding promised_html
  promised rs all = either v (has_none rs) [] (booked_html rs) (none v) (booked rs all)

  points : (rs : List RowView) → All (λ (r : RowView). (column : ℕ) → v.Known (cell_at r column)) rs → Made v (points_html rs)
  unfolding points_html
  points rs all = table v [] point rs points_end own-none laid-point all own-points_end

  balance : (tables : Option Facts) → TablesKnown v.Known tables → (f : RowView) (rs : List RowView) → ((column : ℕ) → v.Known (cell_at f column)) → All (λ (r : RowView). (column : ℕ) → v.Known (cell_at r column)) rs → Made v (balance_html tables f rs)
  unfolding balance_html
  balance tables of f rs known all =
      let line-of : List ℕ = safety_html tables f in
      let rest : List ℕ = row_html balance_chart f ++ (line-of ++ (line_open ++ points_html rs)) in
      join v (row_html balance_scale f) (scale_html tables f ++ rest) (row v balance_scale f laid-balance_scale known)
      (join v (scale_html tables f) rest (scale tables of f)
      (join v (row_html balance_chart f) (line-of ++ (line_open ++ points_html rs)) (row v balance_chart f laid-balance_chart known)
      (join v line-of (line_open ++ points_html rs) (safety tables of f known) (join v line_open (points_html rs) (mark v line_open own-line_open) (points rs all)))))

  planned : (rs : List RowView) → All (λ (r : RowView). (column : ℕ) → v.Known (cell_at r column)) rs → Made v (planned_html rs)
  unfolding planned_html
  planned rs all = (join v (amounts_html planned_label 5 rs) ((amounts_html starts_label 6 rs) ++ (measure_html balance_label 7 rs)) (amounts v planned_label 5 rs own-planned_label all) (join v (amounts_html starts_label 6 rs) (measure_html balance_label 7 rs) (amounts v starts_label 6 rs own-starts_label all) (measure v balance_label 7 rs own-balance_label all)))

  record-rows : (scheduled : Bool) (plan promises : List RowView) → All (λ (r : RowView). (column : ℕ) → v.Known (cell_at r column)) plan → All (λ (r : RowView). (column : ℕ) → v.Known (cell_at r column)) promises → Made v (record_rows scheduled plan promises)
  unfolding record_rows
  record-rows scheduled plan promises of-plan of-promises = (join v (amounts_html gross_label 2 plan) ((supplies_html scheduled plan) ++ ((planned_html plan) ++ (promised_html promises))) (amounts v gross_label 2 plan own-gross_label of-plan) (join v (supplies_html scheduled plan) ((planned_html plan) ++ (promised_html promises)) (supplies scheduled plan of-plan) (join v (planned_html plan) (promised_html promises) (planned plan of-plan) (promised promises of-promises))))

  record-of : (tables : Option Facts) → TablesKnown v.Known tables → (f : RowView) (scheduled : Bool) (plan promises : List RowView) → ((column : ℕ) → v.Known (cell_at f column)) → All (λ (r : RowView). (column : ℕ) → v.Known (cell_at r column)) plan → All (λ (r : RowView). (column : ℕ) → v.Known (cell_at r column)) promises → Made v (record_table tables f scheduled plan promises)
  unfolding record_table
  record-of tables of f scheduled plan promises known of-plan of-promises =
      join v (row_html record_head f) (weeks_html tables plan ++ (record_rows scheduled plan promises ++ grid_end)) (row v record_head f laid-record_head known)
      (join v (weeks_html tables plan) (record_rows scheduled plan promises ++ grid_end) (weeks-of-rows tables of plan of-plan) (join v (record_rows scheduled plan promises) grid_end (record-rows scheduled plan promises of-plan of-promises) (mark v grid_end own-grid_end)))

  record-later : (tables : Option Facts) → TablesKnown v.Known tables → (f : RowView) (scheduled : Bool) (plan promises : List RowView) → ((column : ℕ) → v.Known (cell_at f column)) → All (λ (r : RowView). (column : ℕ) → v.Known (cell_at r column)) plan → All (λ (r : RowView). (column : ℕ) → v.Known (cell_at r column)) promises → Made v (later_record tables f scheduled plan promises)
  unfolding later_record
  record-later tables of f scheduled plan promises known of-plan of-promises =
      let recorded : List ℕ = record_table tables f scheduled plan promises in
      either v (has_none plan) [] (later_open ++ (recorded ++ rest_end)) (none v) (join v later_open (recorded ++ rest_end) (mark v later_open own-later_open) (join v recorded rest_end (record-of tables of f scheduled plan promises known of-plan of-promises) (mark v rest_end own-rest_end)))

  record-weeks : (tables : Option Facts) → TablesKnown v.Known tables → (f : RowView) (scheduled : Bool) (plan promises : List RowView) → ((column : ℕ) → v.Known (cell_at f column)) → All (λ (r : RowView). (column : ℕ) → v.Known (cell_at r column)) plan → All (λ (r : RowView). (column : ℕ) → v.Known (cell_at r column)) promises → Made v (all_weeks tables f scheduled plan promises)
  unfolding all_weeks
  record-weeks tables of f scheduled plan promises known of-plan of-promises =
      join v (record_table tables f scheduled (take TABLE_WEEKS plan) (take TABLE_WEEKS promises)) (later_record tables f scheduled (drop TABLE_WEEKS plan) (drop TABLE_WEEKS promises))
      (record-of tables of f scheduled (take TABLE_WEEKS plan) (take TABLE_WEEKS promises) known (All-take (λ (r : RowView). (column : ℕ) → v.Known (cell_at r column)) TABLE_WEEKS plan of-plan) (All-take (λ (r : RowView). (column : ℕ) → v.Known (cell_at r column)) TABLE_WEEKS promises of-promises))
      (record-later tables of f scheduled (drop TABLE_WEEKS plan) (drop TABLE_WEEKS promises) known (All-drop (λ (r : RowView). (column : ℕ) → v.Known (cell_at r column)) TABLE_WEEKS plan of-plan) (All-drop (λ (r : RowView). (column : ℕ) → v.Known (cell_at r column)) TABLE_WEEKS promises of-promises))

  phased : (tables : Option Facts) → TablesKnown v.Known tables → (name : List ℕ) (plan promises : List RowView) → v.Known name → All (λ (r : RowView). (column : ℕ) → v.Known (cell_at r column)) plan → All (λ (r : RowView). (column : ℕ) → v.Known (cell_at r column)) promises → Made v (record_html tables name plan promises)
  unfolding record_html framed_record
  phased tables of name plan promises known of-plan of-promises =
      let f : RowView = frame_of name plan 7 7 (codes "1") in
      let of-frame : (column : ℕ) → v.Known (cell_at f column) = framed name plan 7 7 (codes "1") known (unit v) of-plan in
      join v (balance_html tables f plan) (all_weeks tables f (is_scheduled plan promises) plan promises) (balance tables of f plan of-frame of-plan) (record-weeks tables of f (is_scheduled plan promises) plan promises of-frame of-plan of-promises)

  pub record-or-none : (tables : Option Facts) → TablesKnown v.Known tables → (name : List ℕ) (plan promises : List RowView) → v.Known name → All (λ (r : RowView). (column : ℕ) → v.Known (cell_at r column)) plan → All (λ (r : RowView). (column : ℕ) → v.Known (cell_at r column)) promises → Made v (record_or_none tables name plan promises)
  unfolding record_or_none
  record-or-none tables of name plan promises known of-plan of-promises = either v (has_none plan) no_record (record_html tables name plan promises) (mark v no_record own-no_record) (phased tables of name plan promises known of-plan of-promises)
