use Rattle.std.proofs.Common.{◌∙◌, ◌+◌, ◌++◌, ℕ, List, Bor, Vec, ap, drop, map, sym}
use Rattle.std.specs.declared.alloc.Global.{Global}
use Rattle.mrp_rows.specs.declared.fault.Table.{Table}
use Rattle.mrp_rows.specs.Joined.{Part, joined, section_bytes, section_of}
use Rattle.mrp_inspect.specs.Pieces.{content_of}
use Rattle.mrp_inspect.proofs.FileTexts.{part_of, section-next}
use Rattle.mrp_inspect.proofs.Growing.{maps-more}
use Rattle.mrp_inspect.proofs.contents.contents_of.Goals as goal

abbrev lent_of : Table × Bor (List ℕ) → Part
lent_of content = (content.0, content.1.now)

abbrev held_of : Table × Vec ℕ Global → Part
held_of part = (part.0, content_of part.1.items)

pub next_content-requires : goal.next_content-requires
next_content-requires c =
    let read : Table × Vec ℕ Global = c.loop-table-item.result in
    let tables : List (Table × Vec ℕ Global) = c.args.tables.now in
    let more : List ℕ = joined (map part_of (drop (c.loop-table.table-index + 1) tables)) in
    let at = section-next tables c.loop-table.table-index read c.loop-table.rest.now c.loop-table-test.true c.loop-table-item.is c.loop-table.invariant.rest in
    (more, at ∙ ap (λ (b : List ℕ). section_bytes (section_of (read.0, b)) ++ more) (sym c.as_slice.ensures.value))

pub loop-table-preserved : goal.loop-table-preserved
loop-table-preserved c =
    let read : Table × Vec ℕ Global = c.loop-table-item.result in
    let tables : List (Table × Vec ℕ Global) = c.args.tables.now in
    let more : List ℕ = joined (map part_of (drop (c.loop-table.table-index + 1) tables)) in
    let at = section-next tables c.loop-table.table-index read c.loop-table.rest.now c.loop-table-test.true c.loop-table-item.is c.loop-table.invariant.rest in
    record {
      contents = maps-more lent_of held_of tables c.loop-table.table-index read c.loop-table.contents.items _ (read.0, c.next_content.result.0) c.loop-table-test.true c.in_ok-push.ensures.items
          (ap (λ (b : List ℕ). (read.0, b)) (c.next_content.ensures.text ∙ ap content_of c.as_slice.ensures.value) ∙ ap held_of c.loop-table-item.is) c.loop-table.invariant.contents;
      rest = c.next_content.ensures.rest more (at ∙ ap (λ (b : List ℕ). section_bytes (section_of (read.0, b)) ++ more) (sym c.as_slice.ensures.value));
    }
