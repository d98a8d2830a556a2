use Rattle.std.proofs.Common.{◌≡◌, ℕ, List, Bor, Vec, drop, map, take}
use Rattle.std.specs.declared.alloc.Global.{Global}
use Rattle.mrp_rows.specs.declared.fault.Table.{Table}
use Rattle.mrp_rows.specs.Joined.{Part, joined}
use Rattle.mrp_inspect.specs.Pieces.{content_of}
use Rattle.mrp_inspect.proofs.contents.contents_of.Given as goal

abbrev pub invariant-loop-table : goal.invariant-loop-table
invariant-loop-table l = record {
  contents : map {B = Part} (λ (content : Table × Bor (List ℕ)). (content.0, content.1.now)) l.contents.items ≡ map {B = Part} (λ (part : Table × Vec ℕ Global). (part.0, content_of part.1.items)) (take l.table-index l.tables);
  rest : l.rest ≡ joined (map {B = Part} (λ (part : Table × Vec ℕ Global). (part.0, part.1.items)) (drop l.table-index l.tables));
}
