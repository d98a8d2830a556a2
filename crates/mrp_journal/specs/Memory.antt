-- What contracts see of a file in memory (profile).
use Rattle.std.specs.Prelude.{ℕ, ◌≡◌, ◌⊎◌, ◌+◌, ◌-◌, ◌/◌, ◌<◌, List, Result, OnErr, OnOk, length, take, vec_capacity}
use Rattle.mrp_journal.specs.Held.{Held, appended, half_of}
use Rattle.mrp_journal.specs.declared.memory.MemoryStore.{MemoryStore}

-- its bytes, and those that are durable
abbrev pub memory_held : MemoryStore → Held
memory_held file = record { bytes = file.bytes.items; durable = take file.durable file.bytes.items }

-- how many bytes there is memory for
abbrev pub memory_room : MemoryStore → ℕ
memory_room file = vec_capacity file.bytes

-- how many of its calls are left before they fail
abbrev pub calls_left : MemoryStore → ℕ
calls_left file = file.calls

-- how many of its calls failed
abbrev pub memory_failures : MemoryStore → ℕ
memory_failures file = file.failures

-- a call is one of those that are left, and fails exactly where none is
pub record TakesCall {X E : Type 0} (old new : ℕ) (result : Result X E) : Type 0 where
  pub fewer : new ≡ old - 1
  pub taken : OnOk result (0 < old)
  pub fails : OnErr result (old ≡ 0)

-- a file took the first half of a text, or nothing, where there is no memory for that
abbrev pub TakesHalf : List ℕ → ℕ → Held → Held → Type 0
TakesHalf text room old new = (new ≡ appended (half_of text) old) ⊎ ((new ≡ old) × (room < length old.bytes + length text / 2))
