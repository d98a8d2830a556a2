-- A record's cell by its place.
use Rattle.std.proofs.Common.{◌≡◌, ℕ, zero, suc, List, [], ◌∷◌, get_or, Option, Some, None, Bor, unwrap_or}
use Rattle.std.specs.Prelude.{option_map}
use Rattle.csv.specs.Records.{field_at}

-- the cell at a place, or none
pub cell-or : (o : Option (Bor (List ℕ))) (d : Bor (List ℕ)) (cells : List (List ℕ)) (i : ℕ) → option_map (λ s. s.now) o ≡ field_at cells i → d.now ≡ [] → (unwrap_or o d).now ≡ get_or cells i []
unfolding field_at
cell-or None d [] i e is = is
cell-or (Some s) d [] i e is = absurd cc
cell-or None d (c ∷ cells) zero e is = absurd cc
cell-or (Some s) d (c ∷ cells) zero e is = cc
cell-or None d (c ∷ cells) (suc i) e is = cell-or None d cells i e is
cell-or (Some s) d (c ∷ cells) (suc i) e is = cell-or (Some s) d cells i e is
