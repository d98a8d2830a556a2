use Rattle.std.proofs.Common.{◌≡◌, ℕ, List, Bor, take}
use Rattle.std.specs.Prelude.{flat_map}
use Rattle.mrp_rows.specs.declared.fault.Table.{Table}
use Rattle.mrp_inspect.specs.Pieces.{pieces_in}
use Rattle.mrp_inspect.proofs.cut.cut_files.Given as goal

abbrev pub invariant-loop-content : goal.invariant-loop-content
invariant-loop-content l = l.pieces.items ≡ flat_map (λ (content : Table × Bor (List ℕ)). pieces_in content.0 content.1.now) (take l.content-index l.contents)
