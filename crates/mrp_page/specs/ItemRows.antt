-- The rows of a report that belong to items, section by section.
use Rattle.std.specs.Prelude.{List}
use Rattle.mrp_day.specs.declared.section.Section.TheVariants as s
use Rattle.mrp_page.specs.Row.{RowView}
use Rattle.mrp_page.specs.Rows.{rows_in}

pub record ItemLists : Type 0 where
  pub promises : List RowView
  pub plan : List RowView
  pub orders : List RowView
  pub pegs : List RowView
  pub messages : List RowView

abbrev pub item_lists : List RowView → ItemLists
item_lists report = record { promises = rows_in s.Promises report; plan = rows_in s.Plan report; orders = rows_in s.Orders report; pegs = rows_in s.Pegs report; messages = rows_in s.Messages report }
