use Rattle.std.proofs.Common.{take}
use Rattle.std.specs.List.{AllZip}
use Rattle.mrp_words.specs.Folder.{all_tables}
use Rattle.mrp_inspect.specs.Found.{IsOtherBeside}
use Rattle.mrp_inspect.proofs.found.find_others.Given as goal

abbrev pub invariant-loop-table : goal.invariant-loop-table
invariant-loop-table g l =
    AllZip (IsOtherBeside (g.F.FileStore.known l.files) l.folder l.tables) (take l.table-index all_tables) l.others.items
