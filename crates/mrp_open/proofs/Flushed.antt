-- What is flushed.
use Rattle.std.proofs.Common.{◌≡◌, ℕ, List, Option, Result, Ok, Err, arith}
use Rattle.std.specs.Prelude.{OnOk}
use Rattle.std.specs.Io.KnownBytes.{Appends, Keeps}
use Rattle.mrp_rows.specs.Told.{calls_of, counted, inner_of}
use Rattle.mrp_rows.specs.declared.told.Told.{Told}
use Rattle.mrp_journal.specs.Journal.{WritesThrough}

-- a text was written, and the call that followed was a flush
pub flushed : {W T X : Type 0} (contents : W → Option (List ℕ)) (old written new : Told W) (text : List ℕ) (r : Result T X)
    → Appends (contents (inner_of old)) (contents (inner_of written)) text → Keeps (contents (inner_of written)) (contents (inner_of new)) → calls_of new ≡ counted 1 (calls_of written) → OnOk r (WritesThrough contents old new text)
flushed contents old written new text (Ok x) appends keeps called = record { written = written; appends = appends; keeps = keeps; called = omega (arith, called) }
flushed contents old written new text (Err x) appends keeps called = tt
