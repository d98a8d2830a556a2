-- Texts of a list's elements, in order.
use Rattle.std.proofs.Common.{◌≡◌, ◌∙◌, ℕ, ◌+◌, ◌<◌, List, [], ◌∷◌, ◌++◌, length, take, get_or, map, refl, sym, ap}
use Rattle.std.proofs.Math.Seq.{take-length}
use Rattle.std.proofs.lemmas.List.{append-nil, flat_map_more, take_more}
use Rattle.std.specs.List.{flat_map, fold, sum_by}

-- the text of the first k elements, after what was there before
abbrev pub so_far : {A B : Type 0} → List B → (A → List B) → List A → ℕ → List B
so_far before text xs k = before ++ flat_map text (take k xs)

pub so_far-none : {A B : Type 0} (before : List B) (text : A → List B) (xs : List A) → before ≡ so_far before text xs 0
so_far-none before text xs = sym (append-nil before)

-- one more element was added after a text
pub so_far-added : {A B : Type 0} (before : List B) (text : A → List B) (xs : List A) (k : ℕ) (x d : A) (page next : List B) → page ≡ so_far before text xs k → k < length xs → x ≡ get_or xs k d → next ≡ page ++ text x
    → next ≡ so_far before text xs (k + 1)
so_far-added {A} {B} before text xs k x d page next begun within is adds =
    adds ∙ ap (λ (t : List B). t ++ text x) begun
    ∙ flat_map_more text before (take k xs) x
    ∙ ap (λ (ys : List A). before ++ flat_map text ys) (ap (λ (y : A). take k xs ++ y ∷ []) is ∙ sym (take_more xs k d within))

pub whole : {A B : Type 0} (before : List B) (text : A → List B) (xs : List A) (k : ℕ) → k ≡ length xs → so_far before text xs k ≡ before ++ flat_map text xs
whole {A} {B} before text xs k all = ap (so_far before text xs) all ∙ ap (λ (ys : List A). before ++ flat_map text ys) (take-length xs)

-- the texts of what the elements of a list are seen as
pub flat_map-map : {A B C : Type 0} (text : B → List C) (view : A → B) (xs : List A) → flat_map (λ x. text (view x)) xs ≡ flat_map text (map view xs)
flat_map-map text view [] = refl
flat_map-map {A} {B} {C} text view (x ∷ xs) = ap (λ (t : List C). text (view x) ++ t) (flat_map-map text view xs)

fold-map : {A B : Type 0} (f : B → ℕ) (view : A → B) (xs : List A) (n : ℕ) → fold (λ m x. m + f (view x)) n xs ≡ fold (λ m x. m + f x) n (map view xs)
fold-map f view [] n = refl
fold-map f view (x ∷ xs) n = fold-map f view xs (n + f (view x))

-- a sum over what the elements of a list are seen as
pub sum_by-map : {A B : Type 0} (f : B → ℕ) (view : A → B) (xs : List A) → sum_by (λ x. f (view x)) xs ≡ sum_by f (map view xs)
sum_by-map f view xs = fold-map f view xs 0
