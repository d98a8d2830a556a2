-- What reading the next record of a text gives and leaves.
use Rattle.std.specs.Prelude.{ℕ, ◌≡◌, Bool, true, false, List, [], ◌∷◌, Result, Ok, Err}
use Rattle.mrp_qty.specs.declared.memory.NoMemory.{NoMemory}
use Rattle.mrp_rows.specs.Shown.{Shown, shown_of}

-- the records that are not read yet
abbrev pub Unread : Type 0
Unread = List (List (List ℕ))

-- the first of them is read, so many of its cells at most
pub record IsRead (old : Unread) (most : ℕ) (shown : Shown) (new : Unread) : Type 0 where
  pub cells : List (List ℕ)
  pub first : old ≡ cells ∷ new
  pub kept : shown ≡ shown_of most cells

-- there is none, and what was read into stays
pub record IsAtEnd (old : Unread) (before after : Shown) (new : Unread) : Type 0 where
  pub none : old ≡ []
  pub left : new ≡ []
  pub same : after ≡ before

-- whether there was a record; or out of memory, and it is still there
abbrev pub ReadsInto : Unread → ℕ → Shown → Result Bool NoMemory → Shown → Unread → Type 0
ReadsInto old most before (Ok true) after new = IsRead old most after new
ReadsInto old most before (Ok false) after new = IsAtEnd old before after new
ReadsInto old most before (Err refused) after new = new ≡ old
