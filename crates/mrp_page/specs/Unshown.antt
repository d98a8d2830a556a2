-- How many rows of items are not on a page.
use Rattle.std.specs.Prelude.{ℕ, ◌+◌, ◌-◌, ◌^◌, min, List, length, sum_by}
use Rattle.mrp_page.specs.declared.counts.Counts.{Counts}
use Rattle.mrp_page.specs.ItemRows.{ItemLists}
use Rattle.mrp_page.specs.Row.{RowView, cell_at}
use Rattle.mrp_page.specs.Rows.{rows_named}

-- how many rows of a section are not on a page: those that are not kept, and those of other items than the page shows,
-- each given by one of its rows; at most the greatest number of 64 bits
abbrev pub left_out : List RowView → List RowView → ℕ → ℕ
left_out rows shown missed = min (missed + (length rows - sum_by (λ leader. length (rows_named (cell_at leader 0) rows)) shown)) (2 ^ 64 - 1)

-- the same, section by section
abbrev pub unshown : ItemLists → List RowView → Counts → Counts
unshown rows shown counts = record {
  history = counts.history;
  promises = left_out rows.promises shown counts.promises;
  plan = left_out rows.plan shown counts.plan;
  orders = left_out rows.orders shown counts.orders;
  pegs = left_out rows.pegs shown counts.pegs;
  messages = counts.messages;
  loads = counts.loads;
  items = counts.items;
}
