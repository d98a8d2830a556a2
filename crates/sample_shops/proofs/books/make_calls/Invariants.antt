use Rattle.std.proofs.Common.{◌≡◌}
use Rattle.mrp_master.specs.Supply.{supply_of}
use Rattle.sample_shops.proofs.books.make_calls.Given as goal

abbrev pub invariant-loop-desk : goal.invariant-loop-desk
invariant-loop-desk l = l.book.supply ≡ supply_of l.shop.tables
