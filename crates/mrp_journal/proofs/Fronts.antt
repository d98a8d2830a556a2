-- Fronts of texts.
use Rattle.std.proofs.Common.{◌≡◌, ℕ, zero, suc, List, [], ◌∷◌, ◌++◌, take, refl, sym, ap, ◌∙◌, append_assoc}
use Rattle.std.proofs.lemmas.List.{append-nil}
use Rattle.mrp_journal.specs.Held.{IsFront}

pub front-self : (xs : List ℕ) → IsFront xs xs
front-self xs = record { behind = []; is = sym (append-nil xs) }

pub front-none : (xs : List ℕ) → IsFront [] xs
front-none xs = record { behind = xs; is = refl }

pub front-more : (xs ys : List ℕ) → IsFront xs (xs ++ ys)
front-more xs ys = record { behind = ys; is = refl }

pub front-then : (xs ys zs : List ℕ) → IsFront xs ys → IsFront ys zs → IsFront xs zs
front-then xs ys zs f g = record { behind = f.behind ++ g.behind; is = g.is ∙ ap (λ l. l ++ g.behind) f.is ∙ append_assoc xs f.behind g.behind }

-- behind the same bytes
pub front-behind : (xs ys zs : List ℕ) → IsFront ys zs → IsFront (xs ++ ys) (xs ++ zs)
front-behind xs ys zs f = record { behind = f.behind; is = ap (λ l. xs ++ l) f.is ∙ sym (append_assoc xs ys f.behind) }

-- what is between a text and a longer one is the text and a front of what is behind it
pub front-past : (xs left ys : List ℕ) (f : IsFront xs left) → IsFront left (xs ++ ys) → IsFront f.behind ys
front-past [] left ys f g = record { behind = g.behind; is = g.is ∙ ap (λ l. l ++ g.behind) f.is }
front-past (x ∷ xs) [] ys f g = absurd (let e = f.is in cc)
front-past (x ∷ xs) (y ∷ left) ys f g =
    let fe : left ≡ xs ++ f.behind = (let e = f.is in cc) in
    let ge : xs ++ ys ≡ left ++ g.behind = (let e = g.is in cc) in
    front-past xs left ys (record { behind = f.behind; is = fe }) (record { behind = g.behind; is = ge })

-- the first bytes of a front
pub front-take : (n : ℕ) (xs ys : List ℕ) → IsFront xs ys → IsFront (take n xs) ys
front-take zero xs ys f = front-none ys
front-take (suc n) [] ys f = front-none ys
front-take (suc n) (x ∷ xs) [] f = absurd (let e = f.is in cc)
front-take (suc n) (x ∷ xs) (y ∷ ys) f =
    let head : y ≡ x = (let e = f.is in cc) in
    let tail : ys ≡ xs ++ f.behind = (let e = f.is in cc) in
    let more = front-take n xs ys (record { behind = f.behind; is = tail }) in
    record { behind = more.behind; is = rw head (ap (λ l. x ∷ l) more.is) }
