-- Results of a list's elements, all without error.
use Rattle.std.proofs.Common.{◌≡◌, ◌∙◌, List, [], ◌∷◌, Result, Ok, Err, map, ap, sym, refl}
use Rattle.std.specs.Prelude.{IfOk}
use Rattle.std.specs.List.{AllZip}

-- each is made from its element
pub results-are : {X Y V E : Type 0} (v : Y → V) (f : X → V) (xs : List X) (rs : List (Result Y E)) (ys : List Y) → AllZip (λ x r. IfOk r (λ y. v y ≡ f x)) xs rs → rs ≡ map Ok ys → map v ys ≡ map f xs
results-are v f [] [] [] h e = refl
results-are v f [] [] (y ∷ ys) h e = absurd (cc)
results-are v f [] (r ∷ rs) ys h e = absurd h
results-are v f (x ∷ xs) [] ys h e = absurd h
results-are v f (x ∷ xs) (Ok z ∷ rs) [] h e = absurd (cc)
results-are v f (x ∷ xs) (Err z ∷ rs) [] h e = absurd (cc)
results-are v f (x ∷ xs) (Err z ∷ rs) (y ∷ ys) h e = absurd (cc)
results-are v f (x ∷ xs) (Ok z ∷ rs) (y ∷ ys) h e =
    let head : z ≡ y = cc in
    let tail : rs ≡ map Ok ys = cc in
    let rest : map v ys ≡ map f xs = results-are v f xs rs ys h.1 tail in
    let first : v y ≡ f x = ap v (sym head) ∙ h.0 in
    cc
