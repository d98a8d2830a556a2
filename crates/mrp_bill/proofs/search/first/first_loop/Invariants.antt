use Rattle.std.proofs.Common.{◌<◌, ℕ}
use Rattle.mrp_bill.specs.Links.{Leads}
use Rattle.mrp_bill.specs.Grouped.{IsListed}
use Rattle.mrp_bill.proofs.search.first.first_loop.Given as goal

abbrev pub invariant-loop-item : goal.invariant-loop-item
invariant-loop-item l = (i : ℕ) → i < l.item → Leads (IsListed l.parents) i i → ⊥
