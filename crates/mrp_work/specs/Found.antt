-- What a table of operations has.
use Rattle.std.specs.Prelude.{ℕ, List, Option}
use Rattle.mrp_work.specs.declared.order.Work.{Work}
use Rattle.mrp_work.specs.declared.table.WorkTable.{WorkTable}
use Rattle.mrp_work.specs.Table.{found_in}

-- the operations that are found of a week of a work centre
abbrev pub found_at : WorkTable → ℕ → ℕ → Option (List Work)
found_at table centre week = found_in table.found centre week
