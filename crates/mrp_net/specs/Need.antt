-- Netting in cumulative form: the net requirements of an item up to each week.
use Rattle.std.specs.Prelude.{ℕ, zero, suc, ◌+◌, ◌-◌, ◌≤◌, List}
use Rattle.mrp_phase.specs.Weeks.{sum_to, in_week, greatest_to}
use Rattle.mrp_net.specs.declared.stock.Stock.{Stock}

-- by how much gross requirements and safety stock up to a week exceed stock on hand and scheduled receipts, or 0
-- (Orlicky: netting, summed up to the week)
abbrev pub shortage : Stock → List ℕ → ℕ → ℕ
shortage stock gross week = (sum_to gross week + stock.safety) - (stock.on_hand + sum_to stock.scheduled week)

-- the net requirements up to a week: the greatest shortage so far (Orlicky: net requirements)
abbrev pub need : Stock → List ℕ → ℕ → ℕ
need stock gross week = greatest_to (shortage stock gross) week

-- cumulative net requirements that do not fall within the horizon
abbrev pub IsNeed : ℕ → (ℕ → ℕ) → Type 0
IsNeed horizon need = (s t : ℕ) → s ≤ t → t ≤ horizon → need s ≤ need t

-- stock on hand, scheduled receipts and planned receipts up to a week, given the planned receipts up to it
abbrev pub supply : Stock → ℕ → ℕ → ℕ
supply stock received week = stock.on_hand + sum_to stock.scheduled week + received

-- the balance at a week's end, given the planned receipts up to it (APICS Dictionary: projected available balance)
abbrev pub balance : Stock → List ℕ → ℕ → ℕ → ℕ
balance stock gross received week = supply stock received week - sum_to gross week

-- the net requirement of a week, given the balance before it (Orlicky: netting, week by week)
abbrev pub net : Stock → List ℕ → ℕ → ℕ → ℕ
net stock gross before week = (in_week gross week + stock.safety) - (in_week stock.scheduled week + before)

-- the balance if each week's net requirement is received, week after week
abbrev pub running_balance : Stock → List ℕ → ℕ → ℕ
running_balance stock gross zero = stock.on_hand
running_balance stock gross (suc t) =
    (running_balance stock gross t + in_week stock.scheduled (suc t) + net stock gross (running_balance stock gross t) (suc t)) - in_week gross (suc t)

-- the net requirements up to a week, added up week by week
abbrev pub net_to : Stock → List ℕ → ℕ → ℕ
net_to stock gross zero = 0
net_to stock gross (suc t) = net_to stock gross t + net stock gross (running_balance stock gross t) (suc t)
