use Rattle.std.proofs.Common.{◌≡◌, length, map, drop}
use Rattle.std.specs.Cmp.Lexicographic.{pointwise}
use Rattle.mrp_survey.specs.Headers.{is_like}
use Rattle.mrp_survey.proofs.header.are_like.Given as goal

abbrev pub invariant-loop-column : goal.invariant-loop-column
invariant-loop-column l = record {
  long : length l.row.first ≡ length l.names;
  same_before : pointwise is_like l.row.first (map (λ c. c.now) l.names)
      ≡ pointwise is_like (drop l.column l.row.first) (drop l.column (map (λ c. c.now) l.names));
}
