use Rattle.std.proofs.Common.{◌≡◌, length, map, nat_eq, drop}
use Rattle.std.specs.Cmp.Lexicographic.{pointwise}
use Rattle.mrp_survey.proofs.header.are_columns.Given as goal

abbrev pub invariant-loop-column : goal.invariant-loop-column
invariant-loop-column l = record {
  long : length l.row.first ≡ length l.names;
  same_before : pointwise (pointwise nat_eq) l.row.first (map (λ c. c.now) l.names)
      ≡ pointwise (pointwise nat_eq) (drop l.column l.row.first) (drop l.column (map (λ c. c.now) l.names));
}
