-- The bytes of a file, of which a front is durable: what a crash may leave of them, and what appending, syncing and cutting
-- make of them (profile).
use Rattle.std.specs.Prelude.{ℕ, ◌≡◌, ◌/◌, ◌++◌, List, length, take, Option, Some, None, Result, Ok, Err, ⊤}
use Rattle.mrp_rows.specs.declared.streams.WriteFault.{WriteFault}
use Rattle.mrp_rows.specs.Told.{HasRisenBy}

-- a text begins with this
pub record IsFront (front text : List ℕ) : Type 0 where
  pub behind : List ℕ
  pub is : text ≡ front ++ behind

-- the first half of a text
abbrev pub half_of : List ℕ → List ℕ
half_of text = take (length text / 2) text

-- the bytes of a file, and those at its front that are durable
pub record Held : Type 0 where
  pub bytes : List ℕ
  pub durable : List ℕ

-- a crash may leave this: what is durable, and any of the rest from its front on
pub record CanBeLeft (held : Held) (left : List ℕ) : Type 0 where
  pub keeps : IsFront held.durable left
  pub no_more : IsFront left held.bytes

-- all bytes are durable
abbrev pub settled : List ℕ → Held
settled bytes = record { bytes = bytes; durable = bytes }

-- a file of which all bytes are durable
abbrev pub IsSettled : Held → Type 0
IsSettled held = held ≡ settled held.bytes

-- after more bytes were appended
abbrev pub appended : List ℕ → Held → Held
appended more held = record held { bytes = held.bytes ++ more }

-- after a sync
abbrev pub synced : Held → Held
synced held = settled held.bytes

-- after a cut
abbrev pub cut_to : ℕ → Held → Held
cut_to count held = settled (take count held.bytes)

-- after a cut that failed: a crash may leave what was to be cut off, or not
abbrev pub half_cut : ℕ → Held → Held
half_cut count held = record held { durable = take count held.durable }

-- a front of bytes was appended, as far as that is known
abbrev pub AppendsFront : List ℕ → Option Held → Option Held → Type 0
AppendsFront bytes None new = ⊤
AppendsFront bytes (Some old) new = (front : List ℕ) × IsFront front bytes × (new ≡ Some (appended front old))

-- what is known of a file before and after a call is so related
abbrev pub Becomes : (Held → Held → Type 0) → Option Held → Option Held → Type 0
Becomes R None new = ⊤
Becomes R (Some old) None = ⊥
Becomes R (Some old) (Some new) = R old new

-- a call failed exactly where the count of failures rose
abbrev pub TellsFailure : ℕ → ℕ → Result (Unit {0}) WriteFault → Type 0
TellsFailure old new (Ok done) = new ≡ old
TellsFailure old new (Err fault) = HasRisenBy 1 old new
