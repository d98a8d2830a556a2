-- What messages, orders and pegs are drawn from.
use Rattle.std.specs.Prelude.{ℕ, Bool, ◌==◌, List, Option}
use Rattle.mrp_facts.specs.Facts.{Facts}
use Rattle.mrp_page.specs.ItemRows.{ItemLists}
use Rattle.mrp_page.specs.Row.{RowView}

-- the items that are shown, each by a row of it, the orders, the pegs and the entries of the history that are kept, and
-- whether all pegs are; and the tables of the day, if they are given
pub record SceneView : Type 0 where
  pub shown : List RowView
  pub orders : List RowView
  pub pegs : List RowView
  pub history : List RowView
  pub whole : Bool
  pub tables : Option Facts

abbrev pub scene_of : List RowView → ItemLists → List RowView → ℕ → Option Facts → SceneView
scene_of shown rows history missed tables = record { shown = shown; orders = rows.orders; pegs = rows.pegs; history = history; whole = missed == 0; tables = tables }
