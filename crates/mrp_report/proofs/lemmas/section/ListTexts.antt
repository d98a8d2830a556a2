-- Texts of a list's elements, in order.
use Rattle.std.proofs.Common.{◌≡◌, ◌∙◌, ℕ, ◌+◌, ◌<◌, List, [], ◌∷◌, ◌++◌, length, take, drop, get_or, sym, ap, arith, append_assoc}
use Rattle.std.proofs.Math.Seq.{take-length}
use Rattle.std.proofs.lemmas.List.{append-nil, flat_map_more, take-append-drop, take_more}
use Rattle.std.proofs.lemmas.List.Concat.{flat_map-append}
use Rattle.std.proofs.lemmas.List.FromFn.{get_or-enumerate_from, length-enumerate_from}
use Rattle.std.specs.List.{enumerate_from, flat_map}

-- the text of the first k elements, after what was there before
abbrev pub so_far : {A : Type 0} → List ℕ → (A → List ℕ) → List A → ℕ → List ℕ
so_far before text xs k = before ++ flat_map text (take k xs)

pub so_far-none : {A : Type 0} (before : List ℕ) (text : A → List ℕ) (xs : List A) → before ≡ so_far before text xs 0
so_far-none before text xs = sym (append-nil before)

-- the text of one more element
pub so_far-more : {A : Type 0} (before : List ℕ) (text : A → List ℕ) (xs : List A) (k : ℕ) (x d : A) → k < length xs → x ≡ get_or xs k d → so_far before text xs (k + 1) ≡ so_far before text xs k ++ text x
so_far-more {A} before text xs k x d within is =
    ap (λ (ys : List A). before ++ flat_map text ys) (take_more xs k d within ∙ ap (λ (y : A). take k xs ++ y ∷ []) (sym is))
    ∙ sym (flat_map_more text before (take k xs) x)

-- one more element was added after a text
pub so_far-added : {A : Type 0} (before : List ℕ) (text : A → List ℕ) (xs : List A) (k : ℕ) (x d : A) (page next : List ℕ) → page ≡ so_far before text xs k → k < length xs → x ≡ get_or xs k d → next ≡ page ++ text x
    → next ≡ so_far before text xs (k + 1)
so_far-added before text xs k x d page next begun within is adds =
    adds ∙ ap (λ (t : List ℕ). t ++ text x) begun ∙ sym (so_far-more before text xs k x d within is)

-- what is still to come
pub to-come : {A : Type 0} (before : List ℕ) (text : A → List ℕ) (xs : List A) (k : ℕ) → (rest : List ℕ) × (before ++ flat_map text xs ≡ so_far before text xs k ++ rest)
to-come {A} before text xs k = (
  flat_map text (drop k xs),
  ap (λ (ys : List A). before ++ flat_map text ys) (sym (take-append-drop k xs))
      ∙ ap (λ (t : List ℕ). before ++ t) (flat_map-append text (take k xs) (drop k xs))
      ∙ sym (append_assoc before (flat_map text (take k xs)) (flat_map text (drop k xs))),
)

pub whole : {A : Type 0} (before : List ℕ) (text : A → List ℕ) (xs : List A) (k : ℕ) → k ≡ length xs → so_far before text xs k ≡ before ++ flat_map text xs
whole {A} before text xs k all = ap (so_far before text xs) all ∙ ap (λ (ys : List A). before ++ flat_map text ys) (take-length xs)

-- the element at a place, with its number from 1
pub numbered : {A : Type 0} (xs : List A) (k : ℕ) (x d : A) → k < length xs → x ≡ get_or xs k d → (k + 1, x) ≡ get_or (enumerate_from 1 xs) k (k + 1, d)
numbered {A} xs k x d within is =
    let number : k + 1 ≡ 1 + k = omega arith in
    ap (λ (n : ℕ). (n, x)) number ∙ ap (λ (y : A). (1 + k, y)) is ∙ sym (get_or-enumerate_from 1 xs k (k + 1, d) within)

pub is-numbered : {A : Type 0} (xs : List A) (k : ℕ) → k < length xs → k < length (enumerate_from 1 xs)
is-numbered xs k within = omega (arith, within, length-enumerate_from 1 xs)
