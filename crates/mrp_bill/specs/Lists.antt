-- A list for each place of a list.
use Rattle.std.specs.Prelude.{ℕ, ◌≡◌, ◌≢◌, List, [], ◌∷◌, ◌++◌, length, map, slice_index_or}
use Rattle.std.specs.Prelude.{Vec}
use Rattle.std.specs.declared.alloc.Global.{Global}

-- the list at a place, and none past the end
abbrev pub listed : {X : Type 0} → List (Vec X Global) → ℕ → List X
listed lists i = slice_index_or (map (λ v. v.items) lists) i []

-- one more element in the list at a place, and the other lists unchanged
pub record Appends {X : Type 0} (old new : List (Vec X Global)) (at : ℕ) (x : X) : Type 0 where
  pub size : length new ≡ length old
  pub put : listed new at ≡ listed old at ++ (x ∷ [])
  pub others : (i : ℕ) → i ≢ at → listed new i ≡ listed old i
