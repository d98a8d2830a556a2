use Rattle.std.proofs.Common.{◌≡◌}
use Rattle.mrp_turn.proofs.turn.Turn.looks_free.Given as goal

abbrev pub invariant-loop : goal.invariant-loop
invariant-loop g l = record {
  same : l.place.table_id ≡ l.initial.place.table_id;
  me : l.place.me ≡ l.initial.place.me;
}
