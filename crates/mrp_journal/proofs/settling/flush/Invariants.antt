use Rattle.std.proofs.Common.{◌≡◌}
use Rattle.std.specs.Io.KnownBytes.{Keeps}
use Rattle.mrp_rows.specs.Told.{HasRisenBy, calls_of, failures_of, inner_of, interrupted_of}
use Rattle.mrp_journal.proofs.settling.flush.Given as goal

abbrev pub invariant-loop : goal.invariant-loop
invariant-loop g l = record {
  same : Keeps (g.W.Write.contents (inner_of l.fn.out)) (g.W.Write.contents (inner_of l.out));
  called : HasRisenBy l.counter (calls_of l.fn.out) (calls_of l.out);
  failures : failures_of l.out ≡ failures_of l.fn.out;
  risen : HasRisenBy l.counter (interrupted_of l.fn.out) (interrupted_of l.out);
}
