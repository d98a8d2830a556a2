-- Lists in chunks of one size.
use Rattle.std.specs.Prelude.{ℕ, ◌≡◌, ◌++◌, List, All, flat_map, length}

-- the chunks, one after another, and then the rest
abbrev pub joined : {A : Type 0} → List (List A) → List A → List A
joined chunks rest = flat_map (λ chunk. chunk) chunks ++ rest

-- each chunk has this size
abbrev pub AreChunks : {A : Type 0} → ℕ → List (List A) → Type 0
AreChunks size chunks = All (λ chunk. length chunk ≡ size) chunks
