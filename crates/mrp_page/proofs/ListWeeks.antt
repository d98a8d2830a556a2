-- The weeks of lists, and their dates.
use Rattle.std.proofs.Common.{◌≡◌, ◌∙◌, List, [], ◌∷◌, ◌++◌, ℕ, Option, Some, None, append_assoc, codes, decimal, drop, length, refl, ap, sym, take}
use Rattle.std.specs.Int.{IsInRange}
use Rattle.std.specs.List.{flat_map}
use Rattle.std.proofs.lemmas.List.Concat.{flat_map-append}
use Rattle.jiff.specs.Types.{Date}
use Rattle.mrp_cal.specs.Calendar.{IsShopCalendar, week_of}
use Rattle.mrp_facts.specs.Dates.{AreDates, date_text, has_years}
use Rattle.mrp_facts.specs.Facts.{Facts}
use Rattle.mrp_page.specs.Columns.{column}
use Rattle.mrp_page.specs.Dates.{cell_date, date_in, said_date}
use Rattle.mrp_page.specs.Draw.{dated_table, history_html, item_name_html, more_html}
use Rattle.mrp_page.specs.Escaped.{escaped}
use Rattle.mrp_page.specs.Html.{number_html}
use Rattle.mrp_page.specs.ItemFacts.{safety_cell_html}
use Rattle.mrp_page.specs.Items.{need_html, peg_html, supply_html}
use Rattle.mrp_page.specs.layout.Centres.{over_words}
use Rattle.mrp_page.specs.layout.Glance.{out_cells, out_late, overloaded_line}
use Rattle.mrp_page.specs.layout.History.{entry, history_end, history_open}
use Rattle.mrp_page.specs.layout.Items.{order, peg_back, peg_middle}
use Rattle.mrp_page.specs.layout.Refused.{refused_asked}
use Rattle.mrp_page.specs.layout.Risk.{risk_booking, risk_middle}
use Rattle.mrp_page.specs.layout.Todo.{to_week}
use Rattle.mrp_page.specs.layout.Lists.{bullet_end, bullet_open, grid_end, row_open}
use Rattle.mrp_page.specs.layout.Work.{work_back, work_count, work_end, work_open}
use Rattle.mrp_page.specs.Explained.{explained_html, plain_html, works_or_none}
use Rattle.mrp_page.specs.Frame.{count_row}
use Rattle.mrp_page.specs.Shares.{share_row}
use Rattle.mrp_work.specs.declared.order.Work.{Work}
use Rattle.mrp_page.specs.Outs.{out_line, out_row}
use Rattle.mrp_page.specs.Overloaded.{overloaded_row, worst_week}
use Rattle.mrp_page.specs.Promises.{drawn_risk, risk_end, risk_line}
use Rattle.mrp_page.specs.Refused.{answer_html, asked_of, call_html, caller_html, entry_name_html, refused_html}
use Rattle.mrp_page.specs.Row.{RowView, cell_at}
use Rattle.mrp_page.specs.Scene.{SceneView}
use Rattle.mrp_page.specs.Template.{Drawn, date_at, dated_html, dated_rows, number_at, part_html, row_html, week_at}
use Rattle.mrp_day.specs.declared.section.Section.TheVariants as s
use Rattle.mrp_page.proofs.Dated.{date-is, has-text}

pub undated-are : (parts : List Drawn) (row : RowView) → dated_html None parts row ≡ row_html parts row
unfolding dated_html row_html
undated-are parts row = refl

pub alone-is : (column : ℕ) (row : RowView) → week_at None column row ≡ codes "<td>" ++ (escaped (cell_at row column) ++ codes "</td>")
alone-is column row = refl

pub unsaid-is : (column : ℕ) (row : RowView) → date_at None column row ≡ []
unsaid-is column row = refl

-- the date in a cell, and in a sentence, is the calendar's
module _ (facts : Facts) (column : ℕ) (row : RowView) (number : ℕ) (week : IsShopCalendar facts.tables.calendar) (are : AreDates facts.tables.calendar facts.dates) (within : IsInRange 1 facts.tables.calendar.weeks number) (is : cell_at row column ≡ decimal number) where
  pub cell-is : (date : Date) × (week_of facts.tables.calendar date ≡ Some number) × (week_at (Some facts) column row ≡ codes "<td>" ++ (escaped (decimal number) ++ ((codes " <i>" ++ (escaped (date_text (has_years facts.tables.calendar) date) ++ codes "</i>")) ++ codes "</td>")))
  cell-is =
      let (date, falls, shown) = date-is facts (cell_at row column) number are within week.weeks_in.1 is in
      let text : List ℕ = date_text (has_years facts.tables.calendar) date in
      let behind : cell_date text ≡ codes " <i>" ++ (escaped text ++ codes "</i>") = rw (has-text (has_years facts.tables.calendar) date) refl in
      (date, falls, ap (λ (t : List ℕ). codes "<td>" ++ (escaped t ++ (cell_date (date_in (Some facts) (cell_at row column)) ++ codes "</td>"))) is ∙ (ap (λ (t : List ℕ). codes "<td>" ++ (escaped (decimal number) ++ (cell_date t ++ codes "</td>"))) shown ∙ ap (λ (t : List ℕ). codes "<td>" ++ (escaped (decimal number) ++ (t ++ codes "</td>"))) behind))

  pub said-is : (date : Date) × (week_of facts.tables.calendar date ≡ Some number) × (date_at (Some facts) column row ≡ codes " (" ++ (escaped (date_text (has_years facts.tables.calendar) date) ++ codes ")"))
  said-is =
      let (date, falls, shown) = date-is facts (cell_at row column) number are within week.weeks_in.1 is in
      let text : List ℕ = date_text (has_years facts.tables.calendar) date in
      let behind : said_date text ≡ codes " (" ++ (escaped text ++ codes ")") = rw (has-text (has_years facts.tables.calendar) date) refl in
      (date, falls, ap said_date shown ∙ behind)

-- the weeks of each list are those of the day's columns
module _ (tables : Option Facts) (row : RowView) where
  abbrev drawn : List Drawn → List ℕ
  drawn parts = flat_map (part_html tables row) parts

  pub order-is : (front : List ℕ) × (dated_html tables order row
      ≡ front ++ (week_at tables (column s.Orders (codes "due")) row ++ (number_at (column s.Orders (codes "quantity")) row ++ (number_at (column s.Orders (codes "start")) row ++ (week_at tables (column s.Orders (codes "release")) row ++ (number_at (column s.Orders (codes "late")) row ++ (codes "</tr>\n" ++ [])))))))
  unfolding dated_html order
  order-is = (drawn (take 10 order), flat_map-append (part_html tables row) (take 10 order) (drop 10 order))

  pub to-week-is : dated_html tables to_week row ≡ week_at tables (column s.Messages (codes "value")) row ++ (codes "</tr>\n" ++ [])
  unfolding dated_html to_week
  to-week-is = refl

  pub entry-is : (front : List ℕ) × (back : List ℕ) × (dated_html tables entry row ≡ front ++ (week_at tables (column s.History (codes "week")) row ++ (number_at (column s.History (codes "quantity")) row ++ back)))
  unfolding dated_html entry
  entry-is = (drawn (take 11 entry), drawn (drop 13 entry), flat_map-append (part_html tables row) (take 11 entry) (drop 11 entry))

  pub operation-is : dated_html tables work_back row ≡ number_at (column s.Orders (codes "start")) row ++ (week_at tables (column s.Orders (codes "due")) row ++ (number_at (column s.Orders (codes "late")) row ++ (codes "</tr>\n" ++ [])))
  unfolding dated_html work_back
  operation-is = refl

  pub overload-is : (front : List ℕ) × (back : List ℕ) × (dated_html tables over_words row ≡ front ++ (codes "</a>, week " ++ (escaped (cell_at row (column s.Loads (codes "week"))) ++ (date_at tables (column s.Loads (codes "week")) row ++ back))))
  unfolding dated_html over_words
  overload-is = (drawn (take 7 over_words), drawn (drop 10 over_words), flat_map-append (part_html tables row) (take 7 over_words) (drop 7 over_words))

pub plain-is : (tables : Option Facts) (load : RowView) → plain_html tables load ≡ bullet_open ++ (dated_html tables over_words (share_row load) ++ bullet_end)
unfolding plain_html
plain-is tables load = refl

pub explained-is : (scene : SceneView) (orders : List RowView) (load : RowView) (works : List Work) → (back : List ℕ) × (explained_html scene orders load works ≡ work_open ++ (dated_html scene.tables over_words (share_row load) ++ back))
unfolding explained_html
explained-is scene orders load works = (row_html work_count (count_row (length works) (codes "operation") (codes "operations")) ++ (works_or_none scene orders load works ++ work_end), refl)

-- each line of a list has its week
beside : (a b c d f w : List ℕ) → a ++ (b ++ (c ++ (d ++ (f ++ w)))) ≡ (a ++ (b ++ (c ++ (d ++ f)))) ++ w
beside a b c d f w = sym (simp append_assoc)

within-four : (a n k e t p w z x : List ℕ) → a ++ (n ++ (k ++ (e ++ ((t ++ (p ++ (w ++ z))) ++ x)))) ≡ (a ++ (n ++ (k ++ (e ++ t)))) ++ (p ++ (w ++ (z ++ x)))
within-four a n k e t p w z x = simp append_assoc

within-three : (a n e t p w z x : List ℕ) → a ++ (n ++ (e ++ ((t ++ (p ++ (w ++ z))) ++ x))) ≡ (a ++ (n ++ (e ++ t))) ++ (p ++ (w ++ (z ++ x)))
within-three a n e t p w z x = simp append_assoc

within-two : (a n t w z x : List ℕ) → a ++ (n ++ ((t ++ (w ++ z)) ++ x)) ≡ (a ++ (n ++ t)) ++ (w ++ (z ++ x))
within-two a n t w z x = simp append_assoc

pub peg-is : (scene : SceneView) (peg : RowView) → (front : List ℕ) × (peg_html scene peg ≡ front ++ (week_at scene.tables (column s.Pegs (codes "week")) peg ++ (codes "</tr>\n" ++ [])))
unfolding peg_html dated_html peg_back
peg-is scene peg =
    let drawn-part : Drawn → List ℕ = part_html scene.tables peg in
    let supply : List ℕ = supply_html scene peg in
    let middle : List ℕ = row_html peg_middle peg in
    let need : List ℕ = need_html scene peg in
    let before : List ℕ = flat_map drawn-part (take 3 peg_back) in (
      row_open ++ (supply ++ (middle ++ (need ++ before))),
      ap (λ (t : List ℕ). row_open ++ (supply ++ (middle ++ (need ++ t)))) (flat_map-append drawn-part (take 3 peg_back) (drop 3 peg_back)) ∙ beside row_open supply middle need before (flat_map drawn-part (drop 3 peg_back)),
    )

pub at-risk-is : (scene : SceneView) (peg latest : RowView) (pieces : List ℕ) → (front : List ℕ) × (back : List ℕ) × (risk_line scene (drawn_risk peg latest pieces) ≡ front ++ (number_html pieces ++ (week_at scene.tables (column s.Pegs (codes "week")) peg ++ back)))
unfolding risk_line dated_html risk_middle
at-risk-is scene peg latest pieces =
    let risk : RowView = drawn_risk peg latest pieces in
    let name : List ℕ = item_name_html scene.shown (cell_at risk 0) in
    let booking : List ℕ = entry_name_html scene.history (cell_at risk 2) in
    let week : List ℕ = week_at scene.tables 1 risk in
    let last : List ℕ = codes "<td class=t>" ++ [] in (
      row_open ++ (name ++ (risk_booking ++ (booking ++ codes "</td>"))),
      last ++ risk_end scene risk,
      within-four row_open name risk_booking booking (codes "</td>") (number_html pieces) week last (risk_end scene risk),
    )

pub runs-out-is : (scene : SceneView) (week : RowView) → (front : List ℕ) × (back : List ℕ) × (out_line scene (out_row scene week) ≡ front ++ (week_at scene.tables (column s.Plan (codes "week")) week ++ back))
unfolding out_line dated_html out_cells
runs-out-is scene week =
    let out : RowView = out_row scene week in
    let name : List ℕ = item_name_html scene.shown (cell_at out 0) in
    let left : List ℕ = flat_map (part_html scene.tables out) (drop 2 out_cells) in
    let rest : List ℕ = safety_cell_html scene.tables (cell_at out 0) ++ row_html out_late out in (
      row_open ++ (name ++ codes "</th>"),
      left ++ rest,
      within-two row_open name (codes "</th>") (week_at scene.tables 1 out) left rest,
    )

pub call-is : (scene : SceneView) (call : RowView) → (front : List ℕ) × (back : List ℕ) × (refused_html scene call ≡ front ++ (number_at (column s.History (codes "quantity")) (asked_of scene.history call) ++ (week_at scene.tables (column s.History (codes "week")) (asked_of scene.history call) ++ back)))
unfolding call_html dated_html refused_asked
call-is scene call =
    let asked : RowView = asked_of scene.history call in
    let name : List ℕ = item_name_html scene.shown (cell_at asked 3) in
    let answer : List ℕ = answer_html scene.history call in
    let caller : List ℕ = caller_html scene.history call in (
      row_open ++ (name ++ (answer ++ codes "</td>")),
      caller,
      within-three row_open name answer (codes "</td>") (number_at 5 asked) (week_at scene.tables 4 asked) [] caller,
    )

pub history-is : (tables : Option Facts) (history : List RowView) (missed : ℕ) → (front : List ℕ) × (back : List ℕ) × (history_html tables history missed ≡ front ++ (flat_map (dated_html tables entry) history ++ back))
unfolding history_html dated_table dated_rows
history-is tables history missed =
    let lines : List ℕ = flat_map (dated_html tables entry) history in
    let more : List ℕ = more_html missed (codes "entry is") (codes "entries are") ++ history_end in (
      history_open,
      grid_end ++ more,
      append_assoc history_open (lines ++ grid_end) more ∙ ap (λ (t : List ℕ). history_open ++ t) (append_assoc lines grid_end more),
    )

pub worst-is : (tables : Option Facts) (rows : List RowView) → (front : List ℕ) × (back : List ℕ) × (dated_html tables overloaded_line (overloaded_row rows)
    ≡ front ++ (codes "</b> in week " ++ (escaped (cell_at (worst_week rows) (column s.Loads (codes "week"))) ++ (date_at tables (column s.Loads (codes "week")) (worst_week rows) ++ back))))
unfolding dated_html overloaded_line
worst-is tables rows =
    let drawn-part : Drawn → List ℕ = part_html tables (overloaded_row rows) in
    (flat_map drawn-part (take 13 overloaded_line), flat_map drawn-part (drop 16 overloaded_line), flat_map-append drawn-part (take 13 overloaded_line) (drop 13 overloaded_line))
