use Rattle.std.proofs.Common.{◌≡◌, length, take, ◌+◌, ◌-◌, ◌≤◌}
use Rattle.std.specs.Io.KnownBytes.{Appends}
use Rattle.mrp_rows.specs.Told.{inner_of, failures_of, interrupted_of}
use Rattle.mrp_rows.specs.Streams.{RisesBy}
use Rattle.mrp_rows.proofs.streams.write_text.Given as goal

abbrev pub invariant-loop-at : goal.invariant-loop-at
invariant-loop-at g l = record {
  within : l.at ≤ length l.text;
  written : Appends (g.W.Write.contents (inner_of l.fn.writer)) (g.W.Write.contents (inner_of l.writer)) (take l.at l.text);
  failures : failures_of l.writer ≡ failures_of l.fn.writer;
  interrupted : RisesBy (l.fn.tries - l.tries) (interrupted_of l.fn.writer) (interrupted_of l.writer);
  tries : l.tries ≤ l.fn.tries;
}

abbrev pub decreases-loop-at : goal.decreases-loop-at
decreases-loop-at g l = length l.text - l.at + l.tries
