use Rattle.std.proofs.Common.{◌≡◌, ◌+◌, ◌≤◌, length}
use Rattle.std.specs.Io.KnownBytes.{Keeps}
use Rattle.mrp_rows.specs.Told.{HasRisenBy, calls_of, failures_of, inner_of}
use Rattle.mrp_page.proofs.steady.SteadyRead.read.Given as goal

abbrev pub invariant-loop : goal.invariant-loop
invariant-loop g l =
    (length l.buf ≡ length l.fn.buf) × Keeps (g.R.Read.remaining (inner_of l.fn.self.reader.now)) (g.R.Read.remaining (inner_of l.self.reader.now))
    × (l.self.calls_left + l.counter ≡ l.fn.self.calls_left) × (calls_of l.self.reader.now ≤ calls_of l.fn.self.reader.now + l.counter)
    × (failures_of l.self.reader.now ≡ failures_of l.fn.self.reader.now) × HasRisenBy l.counter (calls_of l.fn.self.reader.now) (calls_of l.self.reader.now)
