use Rattle.std.proofs.Common.{◌≡◌, length}
use Rattle.mrp_master.specs.Supply.{supply_of}
use Rattle.mrp_book.specs.History.{asked}
use Rattle.mrp_audit.proofs.replay.replayed.Given as goal

abbrev pub invariant-loop : goal.invariant-loop
invariant-loop l = (l.book.supply ≡ supply_of l.shop.tables) × (length (asked l.book.entries) ≡ l.counter)
