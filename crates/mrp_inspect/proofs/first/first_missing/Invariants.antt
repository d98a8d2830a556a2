use Rattle.std.proofs.Common.{◌≡◌, List, Option, drop}
use Rattle.mrp_words.specs.Folder.{all_tables}
use Rattle.mrp_inspect.specs.declared.names.Naming.{Naming}
use Rattle.mrp_inspect.proofs.FirstLines.{first_missing}
use Rattle.mrp_inspect.proofs.first.first_missing.Given as goal

abbrev pub invariant-loop-table : goal.invariant-loop-table
invariant-loop-table l = (others : List (Option Naming)) → first_missing l.firsts others (drop l.table-index all_tables) ≡ first_missing l.firsts others all_tables
