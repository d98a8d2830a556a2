-- What contracts see of a reader or writer that counts its calls: its inner value and four counts, each up to the
-- greatest `u64` (profile).
use Rattle.std.specs.Prelude.{ℕ, ◌+◌, ◌-◌, ◌^◌, ◌≤◌, ◌&&◌, ◌==◌, min, nat_lt, not, Bool, true, false, Result, Ok, Err}
use Rattle.std.specs.IoError.{error_kind}
use Rattle.std.specs.declared.io.Error.{Error}
use Rattle.std.specs.declared.io.ErrorKind.{ErrorKind}
use Rattle.std.specs.declared.io.ErrorKind.TheVariants.{Interrupted}
use Rattle.mrp_rows.specs.declared.told.Told.{Told}

-- the reader or writer itself
abbrev pub inner_of : {T : Type 0} → Told T → T
inner_of told = told.inner

-- the calls of the inner value
abbrev pub calls_of : {T : Type 0} → Told T → ℕ
calls_of told = told.counts.calls

-- those that were interrupted
abbrev pub interrupted_of : {T : Type 0} → Told T → ℕ
interrupted_of told = told.counts.interrupted

-- those that failed
abbrev pub failures_of : {T : Type 0} → Told T → ℕ
failures_of told = told.counts.failures

-- the bytes that they gave or took
abbrev pub moved_of : {T : Type 0} → Told T → ℕ
moved_of told = told.counts.moved

-- where a count saturates
abbrev pub greatest_count : ℕ
greatest_count = 2 ^ 64 - 1

-- a count, n later
abbrev pub counted : ℕ → ℕ → ℕ
counted n before = min (before + n) greatest_count

-- a count has risen by n or more; at its greatest value it counts as risen by any amount
abbrev pub HasRisenBy : ℕ → ℕ → ℕ → Type 0
HasRisenBy n old new = counted n old ≤ new

-- a count of the calls that pass a test, one call later
abbrev pub counted_if : Bool → ℕ → ℕ
counted_if true before = counted 1 before
counted_if false before = before

-- the kind of error of a call that was interrupted
abbrev pub is_interruption : ErrorKind → Bool
is_interruption Interrupted = true
is_interruption _ = false

-- whether a call was interrupted
abbrev pub was_interrupted : {X : Type 0} → Result X Error → Bool
was_interrupted (Ok x) = false
was_interrupted (Err e) = is_interruption (error_kind e)

-- whether a call failed: with an error other than an interruption
abbrev pub has_failed : {X : Type 0} → Result X Error → Bool
has_failed (Ok x) = false
has_failed (Err e) = not (is_interruption (error_kind e))

-- whether a write of so many bytes failed: with such an error, or non-empty with no byte taken
abbrev pub write_has_failed : ℕ → Result ℕ Error → Bool
write_has_failed len (Ok n) = (n == 0) && nat_lt 0 len
write_has_failed len (Err e) = not (is_interruption (error_kind e))

-- how many bytes a read gave or a write took
abbrev pub moved_in : Result ℕ Error → ℕ
moved_in (Ok n) = n
moved_in (Err e) = 0
