-- What messages say.
use Rattle.std.specs.Prelude.{ℕ, List, codes}
use Rattle.mrp_page.specs.Columns.{column}
use Rattle.mrp_page.specs.Row.{RowView, cell_at}
use Rattle.mrp_day.specs.declared.section.Section.TheVariants as s

-- a message's word
abbrev pub word_of : RowView → List ℕ
word_of message = cell_at message (column s.Messages (codes "message"))

-- its value
abbrev pub value_of_message : RowView → List ℕ
value_of_message message = cell_at message (column s.Messages (codes "value"))
