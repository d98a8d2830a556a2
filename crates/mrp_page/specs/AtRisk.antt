-- The bookings that wait for a late order, as a page has them.
use Rattle.std.specs.Prelude.{Bool, List}
use Rattle.mrp_page.specs.Row.{RowView}

-- what stands of them, and whether they are known
pub record RisksView : Type 0 where
  pub known : Bool
  pub rows : List RowView
