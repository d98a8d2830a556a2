-- The texts behind references, at a place.
use Rattle.std.proofs.Common.{◌≡◌, ℕ, zero, suc, ◌+◌, ◌<◌, ◌≤◌, length, arith, false, List, [], ◌∷◌, get_or, set, Option, Some, None, Ok, refl, sym, ap, ◌∙◌, Bor}
use Rattle.std.proofs.lemmas.Bool.{false≢true}
use Rattle.std.specs.Prelude.{option_map, is_some}
use Rattle.mrp_rows.specs.declared.fault.Table.{Table}
use Rattle.mrp_rows.specs.Tables.{table_index}
use Rattle.mrp_rows.specs.Bundle.{put_named}
use Rattle.mrp_rows.specs.Placing.{texts_of, taken}

get-texts : (xs : List (Option (Bor (List ℕ)))) (i : ℕ) → get_or (texts_of xs) i None ≡ option_map (λ t. t.now) (get_or xs i None)
get-texts [] i = refl
get-texts (x ∷ xs) zero = refl
get-texts (x ∷ xs) (suc i) = get-texts xs i

set-texts : (xs : List (Option (Bor (List ℕ)))) (i : ℕ) (t : Bor (List ℕ)) → texts_of (set xs i (Some t)) ≡ set (texts_of xs) i (Some t.now)
set-texts [] i t = refl
set-texts (x ∷ xs) zero t = refl
set-texts (x ∷ xs) (suc i) t = ap (λ l. option_map (λ t. t.now) x ∷ l) (set-texts xs i t)

some-text : (o : Option (Bor (List ℕ))) → is_some (option_map (λ t. t.now) o) ≡ is_some o
some-text None = refl
some-text (Some t) = refl

pub placed : (xs : List (Option (Bor (List ℕ)))) (i count : ℕ) (table : Table) (named : Option Table) (t : Bor (List ℕ)) → named ≡ Some table → i ≡ table_index table → is_some (get_or xs i None) ≡ false
    → put_named (texts_of xs) count t.now named ≡ Ok (texts_of (set xs i (Some t)))
placed xs i count table named t e place free =
    let open_here : is_some (get_or (texts_of xs) (table_index table) None) ≡ false = rw (← place) (ap is_some (get-texts xs i) ∙ some-text (get_or xs i None) ∙ free) in
    rw (e, open_here, set-texts xs i t, place) refl

-- one more place is taken
pub taken-set : {X : Type 0} (xs : List (Option X)) (i : ℕ) (x : X) → i < length xs → is_some (get_or xs i None) ≡ false → taken (set xs i (Some x)) ≡ taken xs + 1
taken-set [] i x lt free = absurd (omega arith)
taken-set (None ∷ xs) zero x lt free = omega arith
taken-set (Some y ∷ xs) zero x lt free = absurd (false≢true (sym free))
taken-set (None ∷ xs) (suc i) x lt free = taken-set xs i x (omega arith) free
taken-set (Some y ∷ xs) (suc i) x lt free =
    let more = taken-set xs i x (omega arith) free in
    omega arith

-- no more places are taken than there are
pub taken-le-length : {X : Type 0} (xs : List (Option X)) → taken xs ≤ length xs
taken-le-length [] = omega arith
taken-le-length (None ∷ xs) = omega (arith, taken-le-length xs)
taken-le-length (Some x ∷ xs) = omega (arith, taken-le-length xs)
