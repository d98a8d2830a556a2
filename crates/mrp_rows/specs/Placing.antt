-- What the steps of splitting a bundle do, seen through references.
use Rattle.std.specs.Prelude.{ℕ, suc, ◌<◌, ◌≡◌, List, [], ◌∷◌, length, slice_index, Option, Some, None, option_map, Result, Ok, Err, map}
use Rattle.std.proofs.Common.{Bor}
use Rattle.mrp_rows.specs.declared.fault.Fault.{Fault}
use Rattle.mrp_rows.specs.declared.fault.Table.{Table}
use Rattle.mrp_rows.specs.Bundle.{Texts, Section, put_named, put_all, no_texts}

-- the texts behind references
abbrev pub texts_of : List (Option (Bor (List ℕ))) → Texts
texts_of texts = map (option_map (λ t. t.now)) texts

-- what placing a section's text does
abbrev pub Places : Texts → ℕ → List ℕ → Option Table → Result (Unit {0}) Fault → Texts → Type 0
Places old count text table (Ok u) new = put_named old count text table ≡ Ok new
Places old count text table (Err f) new = put_named old count text table ≡ Err f

-- what placing all sections' texts gives
abbrev pub PlacesAll : {T : Type 0} → List Section → (T → List (Option (Bor (List ℕ)))) → Result T Fault → Type 0
PlacesAll sections view (Ok texts) = put_all no_texts 0 sections ≡ Ok (texts_of (view texts))
PlacesAll sections view (Err f) = put_all no_texts 0 sections ≡ Err f

-- empty, or begins with a section line
abbrev pub IsAtSection : List ℕ → Type 0
IsAtSection bytes = 0 < length bytes → slice_index bytes 0 ≡ 91

-- what a function returned by reference is what a definition gives
abbrev pub GivesText : Result (Bor (List ℕ)) Fault → Result (List ℕ) Fault → Type 0
GivesText (Ok text) read = read ≡ Ok text.now
GivesText (Err f) read = read ≡ Err f

-- how many places are taken
abbrev pub taken : {X : Type 0} → List (Option X) → ℕ
taken [] = 0
taken (None ∷ places) = taken places
taken (Some x ∷ places) = suc (taken places)
