-- A tree of counts over the weeks of a row: what its nodes are, by the weeks below them (profile).
use Rattle.std.specs.Prelude.{ℕ, zero, suc, ◌≡◌, ◌≤◌, ◌+◌, ◌-◌, ◌*◌, ◌^◌, ℤ, pos, ◌+ℤ◌, ◌-ℤ◌, ◌≤ℤ◌, if◌then◌else◌, nat_lt, length, sum}
use Rattle.std.specs.Int.{int_min}
use Rattle.mrp_qty.specs.Quantity.{greatest_quantity}
use Rattle.mrp_phase.specs.Weeks.{sum_to}
use Rattle.mrp_master.specs.declared.nodes.Node.{Node}
use Rattle.mrp_master.specs.declared.nodes.TheConstants.{PLACES}
use Rattle.mrp_master.specs.AtpRow.{AtpRow, IsAtpRow}

-- a covered row of quantities, of some weeks
pub record IsPromiseRow (r : AtpRow) : Type 0 where
  pub row : IsAtpRow r
  pub some : 1 ≤ length r.supply
  pub little : sum r.supply ≤ greatest_quantity

-- supply up to a week, less bookings up to it; constant after the last week
abbrev pub uncommitted_to : AtpRow → ℕ → ℤ
uncommitted_to r week = pos (sum_to r.supply week) -ℤ pos (sum_to r.booked week)

-- the net change of the weeks after a week, up to a last one: in all, and the least from the first of them up to one of
-- those from a week on
pub record IsSpan (r : AtpRow) (before from last : ℕ) (node : Node) : Type 0 where
  pub sum : node.sum ≡ uncommitted_to r last -ℤ uncommitted_to r before
  pub below : (week : ℕ) → from ≤ week → week ≤ last → node.least ≤ℤ (uncommitted_to r week -ℤ uncommitted_to r before)
  pub reached : (week : ℕ) × (from ≤ week) × (week ≤ last) × (node.least ≡ uncommitted_to r week -ℤ uncommitted_to r before)

-- how often a node's number is doubled until it is a week's place
unfoldable pub height : ℕ → ℕ
height node =
    if nat_lt node 2 then 7
    else if nat_lt node 4 then 6
    else if nat_lt node 8 then 5
    else if nat_lt node 16 then 4
    else if nat_lt node 32 then 3
    else if nat_lt node 64 then 2
    else if nat_lt node PLACES then 1
    else 0

-- the week before those below a node, and the last of them: their places are PLACES, PLACES + 1 and so on
unfoldable pub before : ℕ → ℕ
before node = node * 2 ^ height node - PLACES

unfoldable pub last : ℕ → ℕ
last node = (node + 1) * 2 ^ height node - PLACES

-- a node of a row's tree: the net change of the weeks below it
abbrev pub IsNode : AtpRow → ℕ → Node → Type 0
IsNode r number node = IsSpan r (before number) (before number + 1) (last number) node

-- Sequences of node reads, given what one read does.
module _ {S : Type 0} (IsRead : S → S → Type 0) where
  -- so many reads lead from the old to the new
  abbrev pub AreReads : ℕ → S → S → Type 0
  AreReads zero old new = old ≡ new
  AreReads (suc more) old new = (between : S) × AreReads more old between × IsRead between new

  -- at most so many reads do
  abbrev pub ReadsAtMost : ℕ → S → S → Type 0
  ReadsAtMost most old new = (count : ℕ) × (count ≤ most) × AreReads count old new

-- The node over two others.

-- the weeks of the first, then those of the second
abbrev pub joined : Node → Node → Node
joined a b = record { sum = a.sum +ℤ b.sum; least = int_min a.least (a.sum +ℤ b.least) }

-- the same, with the least over the second's weeks alone
abbrev pub shifted : Node → Node → Node
shifted a b = record { sum = a.sum +ℤ b.sum; least = a.sum +ℤ b.least }
