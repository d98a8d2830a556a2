use Rattle.std.proofs.Common.{◌≡◌, take}
use Rattle.std.specs.Prelude.{map}
use Rattle.mrp_master.specs.Supply.{supply_of}
use Rattle.mrp_book.specs.History.{asked}
use Rattle.mrp_script.specs.Script.{record_of}
use Rattle.mrp_script.proofs.script.answer_records.Given as goal

abbrev pub invariant-loop-row : goal.invariant-loop-row
invariant-loop-row l = (l.book.supply ≡ supply_of l.shop.tables) × (asked l.book.entries ≡ map record_of (take l.row-index l.script))
