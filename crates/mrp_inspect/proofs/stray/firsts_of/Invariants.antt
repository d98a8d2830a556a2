use Rattle.std.proofs.Common.{◌≡◌, map, take}
use Rattle.mrp_words.specs.Folder.{all_tables}
use Rattle.mrp_inspect.specs.Strays.{first_of}
use Rattle.mrp_inspect.proofs.stray.firsts_of.Given as goal

abbrev pub invariant-loop-table : goal.invariant-loop-table
invariant-loop-table l = l.firsts.items ≡ map (first_of l.pieces) (take l.table-index all_tables)
