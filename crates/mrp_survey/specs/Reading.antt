-- What taking the next record of a text gives and leaves.
use Rattle.std.specs.Prelude.{ℕ, ◌≡◌, [], Option, Some, None, Result, Ok, Err, ⊤}
use Rattle.mrp_qty.specs.declared.memory.NoMemory.{NoMemory}
use Rattle.mrp_rows.specs.Shown.{Shown}
use Rattle.mrp_rows.specs.Unread.{IsRead, Unread}

abbrev pub TakesNext : Unread → ℕ → Result (Option Shown) NoMemory → Unread → Type 0
TakesNext old most (Ok (Some row)) new = IsRead old most row new
TakesNext old most (Ok None) new = old ≡ []
TakesNext old most (Err refused) new = ⊤
