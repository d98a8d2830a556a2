-- Streams for tests: what they are told to do in each call, and what contracts see of a reader and a writer that do it (profile).
use Rattle.std.specs.Prelude.{ℕ, ◌≡◌, ◌-◌, if◌then◌else◌, nat_lt, List, [], ◌∷◌, Option, Some, None, Result, Ok, Err, vec_len, vec_capacity}
use Rattle.std.specs.IoError.{error_kind}
use Rattle.std.specs.declared.io.Error.{Error}
use Rattle.std.specs.declared.io.ErrorKind.{ErrorKind}
use Rattle.std.specs.declared.io.ErrorKind.TheVariants as kind
use Rattle.mrp_rows.specs.declared.devices.Act.{Act}
use Rattle.mrp_rows.specs.declared.devices.Act.TheVariants.{Moves, Interrupts, Fails}
use Rattle.mrp_rows.specs.declared.devices.Fussy.{Fussy}
use Rattle.mrp_rows.specs.declared.devices.Pieces.{Pieces}
use Rattle.mrp_rows.specs.declared.devices.Acts.{Acts}
use Rattle.mrp_rows.specs.declared.devices.Stretch.{Stretch}

-- what the call after so many does: as its stretch says, and past all stretches this
abbrev pub act_at : List Stretch → Act → ℕ → Act
act_at [] after call = after
act_at (stretch ∷ more) after call = if nat_lt call stretch.0 then stretch.1 else act_at more after (call - stretch.0)

-- the same of acts
abbrev pub act_in : Acts → ℕ → Act
act_in acts call = act_at acts.stretches.now acts.after call

-- the call after so many does this, and each other one that
abbrev pub one_else : ℕ → Act → Act → ℕ → Act
one_else before act usual call = if nat_lt call before then usual else if nat_lt before call then usual else act

-- the error that a call ends in, if it moves nothing
abbrev pub error_in : Act → Option ErrorKind
error_in (Moves most) = None
error_in Interrupts = Some kind.Interrupted
error_in (Fails why) = Some why

-- how many bytes a call moves at most, if it ends in no error
abbrev pub most_in : Act → ℕ
most_in (Moves most) = most
most_in Interrupts = 0
most_in (Fails why) = 0

-- a call moved this many bytes, or ended in this error
abbrev pub Ends : Option ErrorKind → ℕ → Result ℕ Error → Type 0
Ends None count (Ok n) = n ≡ count
Ends None count (Err e) = ⊥
Ends (Some why) count (Ok n) = ⊥
Ends (Some why) count (Err e) = error_kind e ≡ why

-- a call that moves nothing succeeded, or ended in this error
abbrev pub EndsEmpty : Option ErrorKind → Result (Unit {0}) Error → Type 0
EndsEmpty None (Ok done) = Unit {0}
EndsEmpty None (Err e) = ⊥
EndsEmpty (Some why) (Ok done) = ⊥
EndsEmpty (Some why) (Err e) = error_kind e ≡ why

-- a call ended out of memory
abbrev pub HasNoRoom : Result ℕ Error → Type 0
HasNoRoom (Ok n) = ⊥
HasNoRoom (Err e) = error_kind e ≡ kind.OutOfMemory

-- how many bytes a call moved: none, if it ended in an error
abbrev pub moved_by : Result ℕ Error → ℕ
moved_by (Ok n) = n
moved_by (Err e) = 0

-- the bytes that a reader has left
abbrev pub left_in : Pieces → List ℕ
left_in pieces = pieces.bytes.now

-- the calls of a reader
abbrev pub reads_of : Pieces → ℕ
reads_of pieces = pieces.calls

-- what its next call does
abbrev pub next_read : Pieces → Act
next_read pieces = act_in pieces.acts pieces.calls

-- what it is told to do
abbrev pub read_acts : Pieces → Acts
read_acts pieces = pieces.acts

-- the bytes that a writer took
abbrev pub taken_in : Fussy → List ℕ
taken_in fussy = fussy.taken.items

-- how many more it has room for
abbrev pub room_in : Fussy → ℕ
room_in fussy = vec_capacity fussy.taken - vec_len fussy.taken

-- its calls of `write` and `flush`
abbrev pub writes_of : Fussy → ℕ
writes_of fussy = fussy.calls

-- what its next call does
abbrev pub next_write : Fussy → Act
next_write fussy = act_in fussy.acts fussy.calls

-- what it is told to do
abbrev pub write_acts : Fussy → Acts
write_acts fussy = fussy.acts
