-- A writer that compares what is written with a text (profile).
use Rattle.std.specs.Prelude.{ℕ, ◌≡◌, ◌≢◌, ◌≤◌, ◌∷◌, ◌++◌, List, [], Option, None, Some, drop, length, slice_get, take}
use Rattle.mrp_audit.specs.declared.comparing.Comparing.TheInside.{Inside}

-- a text, how many bytes of it were written, and the byte that was written in place of its next one
pub record Compared : Type 0 where
  pub text : List ℕ
  pub equal : ℕ
  pub other : Option ℕ

abbrev pub comparison : Inside → Compared
comparison c = record { text = c.text.now; equal = c.equal; other = c.other }

abbrev pub listed : Option ℕ → List ℕ
listed None = []
listed (Some byte) = byte ∷ []

-- what was written
abbrev pub taken : Compared → List ℕ
taken c = take c.equal c.text ++ listed c.other

-- what a writer holds, as one list: the length of its text, its text, and what was written
abbrev pub held : Compared → List ℕ
held c = length c.text ∷ (c.text ++ taken c)

-- the bytes written are those of the text, and one more, if any, is not the text's next one
pub record IsComparing (c : Inside) : Type 0 where
  pub within : c.equal ≤ length c.text.now
  pub differs : (byte : ℕ) → c.other ≡ Some byte → slice_get c.text.now c.equal ≢ Some byte

-- the length of the common prefix of two texts
pub record IsAgreement (text other : List ℕ) (equal : ℕ) : Type 0 where
  pub in_text : equal ≤ length text
  pub in_other : equal ≤ length other
  pub same : take equal text ≡ take equal other
  pub differs : (byte : ℕ) → slice_get other equal ≡ Some byte → slice_get text equal ≢ Some byte

-- how many bytes of the text were written, if there were no others; none if the text does not begin with what was
-- written
abbrev pub TellsAgreement : Compared → Option ℕ → Type 0
TellsAgreement c (Some len) = (len ≤ length c.text) × (c.text ≡ taken c ++ drop len c.text)
TellsAgreement c None = (left : List ℕ) → c.text ≡ taken c ++ left → ⊥
