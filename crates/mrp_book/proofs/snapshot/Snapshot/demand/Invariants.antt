use Rattle.std.proofs.Common.{◌≡◌, length, take}
use Rattle.mrp_phase.specs.Weeks.{row}
use Rattle.mrp_book.proofs.Demands.{demand_of}
use Rattle.mrp_book.proofs.snapshot.Snapshot.demand.Given as goal

abbrev pub invariant-loop-booking : goal.invariant-loop-booking
invariant-loop-booking l = l.demand ≡ row l.weeks (demand_of (take (length l.yielded) l.self.standing) l.item)
