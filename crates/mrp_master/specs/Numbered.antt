-- Rows of the master schedule, numbered by their items.
use Rattle.mrp_tables.specs.declared.rows.MasterRow.{MasterRow}
use Rattle.mrp_bill.specs.declared.groups.Numbered.{Numbered}
use Rattle.mrp_master.specs.declared.line.Line.{Line}
use Rattle.mrp_master.specs.Supply.{line}

-- a row as a line, numbered by its item
abbrev pub line_of : MasterRow → Numbered Line
line_of r = record { number = r.item; value = line r.item r.week r.quantity }
