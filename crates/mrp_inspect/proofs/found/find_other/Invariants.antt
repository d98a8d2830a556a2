use Rattle.std.proofs.Common.{false, take}
use Rattle.std.specs.List.{All}
use Rattle.mrp_words.specs.Folder.{IsThere}
use Rattle.mrp_inspect.specs.Found.{other_path}
use Rattle.mrp_inspect.specs.Names.{all_namings}
use Rattle.mrp_inspect.specs.declared.names.Naming.{Naming}
use Rattle.mrp_inspect.proofs.found.find_other.Given as goal

abbrev pub invariant-loop-naming : goal.invariant-loop-naming
invariant-loop-naming g l = All (λ (naming : Naming). IsThere (g.F.FileStore.known l.files) (other_path l.folder l.table naming) false) (take l.naming-index all_namings)
