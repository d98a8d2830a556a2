use Rattle.std.proofs.Common.{◌≡◌, ◌≤◌, ◌⊎◌, take}
use Rattle.std.specs.Prelude.{All, Any}
use Rattle.mrp_tables.specs.declared.limits.TheConstants.{MOST_DESKS}
use Rattle.mrp_engine.proofs.live.desks.count_of.Given as goal

abbrev pub invariant-loop-row : goal.invariant-loop-row
invariant-loop-row l = record {
  some : 1 ≤ l.count;
  most : l.count ≤ MOST_DESKS;
  all : All (λ row. row.desk ≤ l.count) (take l.row-index l.script);
  least : (l.count ≡ 1) ⊎ Any (λ row. row.desk ≡ l.count) l.script;
}
