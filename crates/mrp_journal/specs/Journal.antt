-- A journal: what beginning it and settling a batch make of its file, and what a crash leaves meanwhile (profile).
use Rattle.std.specs.Prelude.{ℕ, ◌≡◌, ◌⊎◌, ◌++◌, List, Option}
use Rattle.std.specs.Io.KnownBytes.{Appends, Keeps}
use Rattle.mrp_rows.specs.Told.{HasRisenBy, calls_of, inner_of}
use Rattle.mrp_rows.specs.declared.told.Told.{Told}
use Rattle.mrp_journal.specs.Held.{CanBeLeft, Held, IsFront, settled}
use Rattle.mrp_journal.specs.Lines.{whole_lines}

-- a file is found with these bytes, of which a front is durable
pub record IsFound (bytes : List ℕ) (held : Held) : Type 0 where
  pub bytes_are : held.bytes ≡ bytes
  pub durable : IsFront held.durable bytes

-- a begun journal: the whole lines of what was found, and this behind them
abbrev pub begun : List ℕ → List ℕ → List ℕ
begun bytes head = whole_lines bytes ++ head

-- while half a line is cut off, a crash leaves the whole lines that are durable, and nothing that was not found
pub record CutsSafely (bytes : List ℕ) (old new : Held) : Type 0 where
  pub keeps : (left : List ℕ) → CanBeLeft new left → IsFront (whole_lines old.durable) left
  pub no_more : (left : List ℕ) → CanBeLeft new left → IsFront left bytes

-- while a journal begins, a crash leaves the whole lines that are durable, and nothing that was neither found nor begun
pub record BeginsSafely (bytes head : List ℕ) (old new : Held) : Type 0 where
  pub keeps : (left : List ℕ) → CanBeLeft new left → IsFront (whole_lines old.durable) left
  pub no_more : (left : List ℕ) → CanBeLeft new left → IsFront left bytes ⊎ IsFront left (begun bytes head)

-- a journal with more bytes behind it, all durable
abbrev pub with_more : List ℕ → Held → Held
with_more more held = settled (held.bytes ++ more)

-- while bytes are made durable behind a journal, a crash leaves the journal and a front of them
pub record KeepsSafely (more : List ℕ) (old new : Held) : Type 0 where
  pub keeps : (left : List ℕ) → CanBeLeft new left → IsFront old.bytes left
  pub no_more : (left : List ℕ) → CanBeLeft new left → IsFront left (old.bytes ++ more)

-- a text was written to a stream, and then it was called once more and kept what was written, as a flush does
pub record WritesThrough {W : Type 0} (contents : W → Option (List ℕ)) (old new : Told W) (text : List ℕ) : Type 0 where
  pub written : Told W
  pub appends : Appends (contents (inner_of old)) (contents (inner_of written)) text
  pub keeps : Keeps (contents (inner_of written)) (contents (inner_of new))
  pub called : HasRisenBy 1 (calls_of written) (calls_of new)
