use Rattle.std.proofs.Common.{◌≡◌, drop}
use Rattle.mrp_journal.specs.Table.{place_behind}
use Rattle.mrp_journal.specs.declared.table.Place.TheVariants.{Between}
use Rattle.mrp_journal.proofs.table.place_behind.Given as goal

abbrev pub invariant-loop-byte : goal.invariant-loop-byte
invariant-loop-byte l = place_behind Between l.text ≡ place_behind l.at (drop l.byte-index l.text)
