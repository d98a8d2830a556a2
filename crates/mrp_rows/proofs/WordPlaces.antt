-- Places of words, and lists compared place by place.
use Rattle.std.proofs.Common.{◌≡◌, ◌<◌, ◌+◌, ◌∙◌, ℕ, Bool, true, false, Bor, nat_eq, sym, cond, List, [], ◌∷◌, length, map, drop, get_or, refl, ap, add-one, drop-cons, ◌&&◌, not}
use Rattle.std.proofs.lemmas.List.{get_or-map, length-map}
use Rattle.std.specs.Cmp.Lexicographic.{pointwise}
use Rattle.std.specs.List.{position, prefix_len}

prefix_len-map : {A B : Type 0} (p : B → Bool) (f : A → B) (xs : List A) → prefix_len p (map f xs) ≡ prefix_len (λ x. p (f x)) xs
prefix_len-map p f [] = refl
prefix_len-map p f (x ∷ xs) = ap (λ n. cond (p (f x)) (1 + n) 0) (prefix_len-map p f xs)

-- the first of the words that passes is the first whose text passes
pub position_map : {A B : Type 0} (p : B → Bool) (f : A → B) (xs : List A) → position p (map f xs) ≡ position (λ x. p (f x)) xs
position_map p f xs = rw (prefix_len-map (λ x. not (p x)) f xs, length-map xs f) refl

-- the next pair of two lists
pub pointwise-drop : {A B : Type 0} (E : A → B → Bool) (xs : List A) (ys : List B) (i : ℕ) (a : A) (b : B) → i < length xs → i < length ys
    → pointwise E (drop i xs) (drop i ys) ≡ (E (get_or xs i a) (get_or ys i b) && pointwise E (drop (i + 1) xs) (drop (i + 1) ys))
pointwise-drop E xs ys i a b in_xs in_ys = rw (drop-cons xs i a in_xs, drop-cons ys i b in_ys, add-one) refl

-- a record's next cell against the next text
pub texts-drop : (cells : List (List ℕ)) (names : List (Bor (List ℕ))) (i : ℕ) (d : Bor (List ℕ)) (cell name : List ℕ) (differs same : Bool)
    → length cells ≡ length names → i < length names → cell ≡ get_or cells i [] → name ≡ (get_or names i d).now → differs ≡ not (pointwise nat_eq cell name) → differs ≡ not same
    → pointwise (pointwise nat_eq) (drop i cells) (drop i (map (λ n. n.now) names)) ≡ (same && pointwise (pointwise nat_eq) (drop (i + 1) cells) (drop (i + 1) (map (λ n. n.now) names)))
texts-drop cells names i d cell name differs same long within cell_is name_is told is =
    let in_cells : i < length cells = rw long within in
    let in_names : i < length (map (λ (n : Bor (List ℕ)). n.now) names) = rw (length-map names (λ (n : Bor (List ℕ)). n.now)) within in
    let name_at = name_is ∙ sym (get_or-map (λ (n : Bor (List ℕ)). n.now) names i d [] within) in
    let equal : pointwise nat_eq (get_or cells i []) (get_or (map (λ (n : Bor (List ℕ)). n.now) names) i []) ≡ same =
    rw (← cell_is, ← name_at) (not-same (pointwise nat_eq cell name) same (sym told ∙ is)) in
    pointwise-drop (pointwise nat_eq) cells (map (λ (n : Bor (List ℕ)). n.now) names) i [] [] in_cells in_names
    ∙ ap (λ b. b && pointwise (pointwise nat_eq) (drop (i + 1) cells) (drop (i + 1) (map (λ (n : Bor (List ℕ)). n.now) names))) equal
  where
    not-same : (a b : Bool) → not a ≡ not b → a ≡ b
    not-same true true e = refl
    not-same true false e = sym e
    not-same false true e = sym e
    not-same false false e = refl
