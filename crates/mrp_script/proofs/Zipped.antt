-- Two lists, one more of each.
use Rattle.std.proofs.Common.{List, [], ◌∷◌, ◌++◌}
use Rattle.std.specs.List.{AllZip}

-- one more of each
pub zip-push : {A B : Type 0} (R : A → B → Type 0) (xs : List A) (ys : List B) (x : A) (y : B) → AllZip R xs ys → R x y → AllZip R (xs ++ x ∷ []) (ys ++ y ∷ [])
zip-push R [] [] x y all one = (one, tt)
zip-push R [] (b ∷ ys) x y all one = absurd all
zip-push R (a ∷ xs) [] x y all one = absurd all
zip-push R (a ∷ xs) (b ∷ ys) x y all one = (all.0, zip-push R xs ys x y all.1 one)
