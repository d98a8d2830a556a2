use Rattle.std.proofs.Common.{◌≡◌, map, take}
use Rattle.mrp_tables.specs.Items.{names_of}
use Rattle.mrp_warn.specs.Names.{folded}
use Rattle.mrp_warn.proofs.names.folded_names.Given as goal

abbrev pub invariant-loop-item : goal.invariant-loop-item
invariant-loop-item l = l.names.items ≡ map folded (names_of (take l.item-index l.items))
