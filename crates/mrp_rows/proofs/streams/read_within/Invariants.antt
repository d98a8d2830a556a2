use Rattle.std.proofs.Common.{◌≡◌, ◌+◌, ◌≤◌, vec_len}
use Rattle.mrp_rows.specs.Told.{inner_of, calls_of, failures_of, moved_of, HasRisenBy}
use Rattle.mrp_rows.specs.Streams.{Takes}
use Rattle.mrp_rows.proofs.streams.read_within.Given as goal

abbrev pub invariant-loop : goal.invariant-loop
invariant-loop g l = record {
  taken : Takes (g.R.Read.remaining (inner_of l.fn.reader)) (g.R.Read.remaining (inner_of l.reader)) (moved_of l.fn.reader) (moved_of l.reader) l.bytes.items;
  within : vec_len l.bytes ≤ l.most_bytes;
  risen : HasRisenBy l.counter (calls_of l.fn.reader) (calls_of l.reader);
  calls : calls_of l.reader ≤ calls_of l.fn.reader + l.counter;
  failures : failures_of l.reader ≡ failures_of l.fn.reader;
}
