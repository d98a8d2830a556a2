-- What a `Told` writer has taken of texts that are written one after the other (profile).
use Rattle.std.specs.Prelude.{ℕ, List, Option}
use Rattle.mrp_rows.specs.declared.told.Told.{Told}
use Rattle.mrp_report.specs.Written.{HasTaken}

-- a writer took a text whole, however many interrupted writes were tried again
abbrev pub HasTakenAll : {W : Type 0} → (W → Option (List ℕ)) → Told W → Told W → List ℕ → Type 0
HasTakenAll contents old new text = (retried : ℕ) × HasTaken contents old new text retried
