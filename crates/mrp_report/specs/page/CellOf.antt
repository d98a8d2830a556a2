-- The text of a cell, as a program holds it.
use Rattle.std.specs.Prelude.{ℕ, List, [], decimal}
use Rattle.mrp_report.specs.declared.page.cells.Cell.{Cell}
use Rattle.mrp_report.specs.declared.page.cells.Cell.TheVariants.{Empty, Name, Number}

abbrev pub cell_of : Cell → List ℕ
cell_of Empty = []
cell_of (Number n) = decimal n
cell_of (Name name) = name.now
