-- The markup that rows are drawn with.
use Rattle.std.specs.Prelude.{ℕ, Bool, List, [], ◌++◌, Option, None, codes, if◌then◌else◌, flat_map}
use Rattle.mrp_facts.specs.Facts.{Facts}
use Rattle.mrp_page.specs.Dates.{cell_date, date_in, said_date}
use Rattle.mrp_page.specs.declared.template.Part.{Part}
use Rattle.mrp_page.specs.declared.template.Part.TheVariants as part
use Rattle.mrp_page.specs.Escaped.{escaped}
use Rattle.mrp_page.specs.Html.{flow_html, number_html}
use Rattle.mrp_page.specs.Row.{RowView, cell_at, same_text}

-- a part of the markup that a row is drawn with: markup, markup for the rows that have a word in a column, a cell's
-- text, and a cell's text as a number in a table; a week in a table, with its date if the tables of the day are given; the date
-- of a week in a sentence, for all rows or for those that have a word in a column
pub data Drawn : Type 0 where
  Mark : List ℕ → Drawn
  Where : ℕ → List ℕ → List ℕ → Drawn
  Text : ℕ → Drawn
  Number : ℕ → Drawn
  Week : ℕ → Drawn
  Date : ℕ → Drawn
  DateWhere : ℕ → List ℕ → ℕ → Drawn

abbrev pub drawn_of : Part → Drawn
drawn_of (part.Markup markup) = Mark markup.now
drawn_of (part.If column word markup) = Where column word.now markup.now
drawn_of (part.Cell column) = Text column
drawn_of (part.Number column) = Number column
drawn_of (part.Week column) = Week column
drawn_of (part.Date column) = Date column
drawn_of (part.DateIf column word at) = DateWhere column word.now at

abbrev pub markup_if : Bool → List ℕ → List ℕ
markup_if holds markup = if holds then markup else []

-- a row has this word in a column
abbrev pub has_word : ℕ → List ℕ → RowView → Bool
has_word column word row = same_text (cell_at row column) word

-- a week in a cell of a table, with its date if the tables are given
abbrev pub week_at : Option Facts → ℕ → RowView → List ℕ
week_at tables column row = codes "<td>" ++ (escaped (cell_at row column) ++ (cell_date (date_in tables (cell_at row column)) ++ codes "</td>"))

-- the date of a week in a sentence, if the tables are given
abbrev pub date_at : Option Facts → ℕ → RowView → List ℕ
date_at tables column row = said_date (date_in tables (cell_at row column))

-- a part, of a row: markup as it is, cells escaped
abbrev pub part_html : Option Facts → RowView → Drawn → List ℕ
part_html tables row (Mark markup) = markup
part_html tables row (Where column word markup) = markup_if (has_word column word row) markup
part_html tables row (Text column) = escaped (cell_at row column)
part_html tables row (Number column) = number_html (cell_at row column)
part_html tables row (Week column) = week_at tables column row
part_html tables row (Date column) = date_at tables column row
part_html tables row (DateWhere column word at) = markup_if (has_word column word row) (date_at tables at row)

-- a row, part by part, with the dates of its weeks if the tables are given
unfoldable pub dated_html : Option Facts → List Drawn → RowView → List ℕ
dated_html tables parts row = flat_map (part_html tables row) parts

-- a row without dates
unfoldable pub row_html : List Drawn → RowView → List ℕ
row_html parts row = flat_map (part_html None row) parts

-- rows, one after another
unfoldable pub rows_html : List Drawn → List RowView → List ℕ
rows_html parts rows = flat_map (row_html parts) rows

-- the same with the dates of their weeks
unfoldable pub dated_rows : Option Facts → List Drawn → List RowView → List ℕ
dated_rows tables parts rows = flat_map (dated_html tables parts) rows

-- the number in a column
abbrev pub number_at : ℕ → RowView → List ℕ
number_at column row = number_html (cell_at row column)

-- the numbers of a column
unfoldable pub numbers_html : ℕ → List RowView → List ℕ
numbers_html column rows = flat_map (number_at column) rows

-- the number in a column, left empty if it is 0
abbrev pub flow_at : ℕ → RowView → List ℕ
flow_at column row = flow_html (cell_at row column)

-- the numbers of a column, those that are 0 left empty
unfoldable pub flows_html : ℕ → List RowView → List ℕ
flows_html column rows = flat_map (flow_at column) rows
