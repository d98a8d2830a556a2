use Rattle.std.proofs.Common.{◌≡◌, length, map, nat_eq, drop}
use Rattle.std.specs.Cmp.Lexicographic.{pointwise}
use Rattle.mrp_page.proofs.cells.are_texts.Given as goal

abbrev pub invariant-loop-column : goal.invariant-loop-column
invariant-loop-column g l = record {
  long : length (g.C.Cells.cells l.cells) ≡ length l.texts;
  same_before : pointwise (pointwise nat_eq) (g.C.Cells.cells l.cells) (map (λ c. c.now) l.texts)
      ≡ pointwise (pointwise nat_eq) (drop l.column (g.C.Cells.cells l.cells)) (drop l.column (map (λ c. c.now) l.texts));
}
