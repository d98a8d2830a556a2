use Rattle.std.proofs.Common.{◌≡◌, []}
use Rattle.mrp_rows.specs.Told.{HasRisenBy, calls_of, failures_of, inner_of}
use Rattle.mrp_intake.specs.Intake.{Gives, ReadsOn}
use Rattle.mrp_intake.proofs.ToldLines.{ToCome}
use Rattle.mrp_intake.proofs.intake.Intake.next_batch.Given as goal

abbrev pub invariant-loop : goal.invariant-loop
invariant-loop g l = record {
  batch : l.self.batch ≡ [];
  brings : ToCome l.fn.self.begun (g.R.Read.remaining (inner_of l.fn.reader)) l.self.begun (g.R.Read.remaining (inner_of l.reader));
  waits : ReadsOn (g.R.Read.remaining (inner_of l.fn.reader)) (g.R.Read.remaining (inner_of l.reader));
  gives : Gives g.R.Read.remaining l.fn.reader l.reader 0 [];
  failures : failures_of l.reader ≡ failures_of l.fn.reader;
  calls : HasRisenBy l.counter (calls_of l.fn.reader) (calls_of l.reader);
}
