-- What holds of the nodes of a row's tree (profile).
use Rattle.std.specs.Prelude.{ℕ, ◌≡◌, ◌≤◌, ◌<◌, ◌+◌, ◌-◌, ◌*◌, pos, ◌-ℤ◌, if◌then◌else◌, nat_lt, List, length}
use Rattle.std.specs.List.{slice_index_or}
use Rattle.mrp_phase.specs.Weeks.{in_week}
use Rattle.mrp_master.specs.declared.nodes.Node.{Node}
use Rattle.mrp_master.specs.declared.nodes.TheConstants.{PLACES}
use Rattle.mrp_master.specs.AtpRow.{AtpRow}
use Rattle.mrp_master.specs.Nodes.{IsPromiseRow, joined}

abbrev pub row_of : List ℕ → List ℕ → AtpRow
row_of supply booked = record { supply = supply; booked = booked }

abbrev pub node_at : List Node → ℕ → Node
node_at nodes n = slice_index_or nodes n (record { sum = pos 0; least = pos 0 })

-- the node of a week's place
abbrev pub place_node : AtpRow → ℕ → Node
place_node r week = record {
  sum = pos (in_week r.supply week) -ℤ pos (in_week r.booked week);
  least = pos (in_week r.supply week) -ℤ pos (in_week r.booked week);
}

-- a node from the two below it, or from its week
abbrev pub made : AtpRow → List Node → ℕ → Node
made r nodes n = if nat_lt n PLACES then joined (node_at nodes (2 * n)) (node_at nodes (2 * n + 1)) else place_node r (n - (PLACES - 1))

pub record IsMade (r : AtpRow) (nodes : List Node) (n : ℕ) : Type 0 where
  pub is : node_at nodes n ≡ made r nodes n

-- each node is made of those below it
pub record IsTree (r : AtpRow) (nodes : List Node) : Type 0 where
  pub size : length nodes ≡ 256
  pub made : (n : ℕ) → 1 ≤ n → n < 256 → IsMade r nodes n

-- what holds of a row's fields
pub record IsKept (supply booked : List ℕ) (nodes : List Node) : Type 0 where
  pub row : IsPromiseRow (row_of supply booked)
  pub tree : IsTree (row_of supply booked) nodes
