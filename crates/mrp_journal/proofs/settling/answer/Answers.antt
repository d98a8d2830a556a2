use Rattle.std.proofs.Common.{ℕ, List, Option, Result, Ok, Err}
use Rattle.std.specs.Prelude.{OnOk}
use Rattle.std.specs.Io.KnownBytes.{Appends, Keeps}
use Rattle.mrp_rows.specs.Told.{HasRisenBy, calls_of, inner_of}
use Rattle.mrp_rows.specs.declared.streams.WriteFault.{WriteFault}
use Rattle.mrp_rows.specs.declared.told.Told.{Told}
use Rattle.mrp_journal.specs.Journal.{WritesThrough}
use Rattle.mrp_journal.proofs.settling.answer.Goals as goal

-- a text was written, and then the stream was flushed
written-through : {W : Type 0} (contents : W → Option (List ℕ)) (old mid new : Told W) (text : List ℕ) (r : Result (Unit {0}) WriteFault) → Appends (contents (inner_of old)) (contents (inner_of mid)) text
    → Keeps (contents (inner_of mid)) (contents (inner_of new)) → OnOk r (HasRisenBy 1 (calls_of mid) (calls_of new)) → OnOk r (WritesThrough contents old new text)
written-through contents old mid new text (Ok done) written kept called = record {
  written = mid;
  appends = written;
  keeps = kept;
  called = called;
}
written-through contents old mid new text (Err e) written kept called = tt

pub returns-clause-flushed : goal.returns-clause-flushed
returns-clause-flushed g c =
    written-through {W = g.row.W.Denot} g.W.Write.contents c.args.out.now c.write_text.new.writer c.flush.new.out c.args.answers.now c.flush.result c.in_ok-write_text.ensures.whole c.flush.ensures.same c.flush.ensures.called
