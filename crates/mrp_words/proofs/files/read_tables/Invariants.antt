use Rattle.std.proofs.Common.{◌≡◌, ◌+◌, ℕ, length, map, take, Vec}
use Rattle.std.specs.declared.alloc.Global.{Global}
use Rattle.mrp_rows.specs.declared.fault.Table.{Table}
use Rattle.mrp_rows.specs.Joined.{Part, joined}
use Rattle.mrp_rows.specs.declared.streams.TheConstants.{GREATEST_BUNDLE}
use Rattle.mrp_words.specs.Folder.{all_tables}
use Rattle.mrp_words.proofs.Folders.{ArePartsOf}
use Rattle.mrp_words.proofs.files.read_tables.Given as goal

abbrev pub invariant-loop-table : goal.invariant-loop-table
invariant-loop-table g l =
    ArePartsOf (g.F.FileStore.known l.files) l.folder (take l.table-index all_tables) (map {B = Part} (λ (part : Table × Vec ℕ Global). (part.0, part.1.items)) l.tables.items)
    × (l.left + length (joined (map {B = Part} (λ (part : Table × Vec ℕ Global). (part.0, part.1.items)) l.tables.items)) ≡ GREATEST_BUNDLE)
