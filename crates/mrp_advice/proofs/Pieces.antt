-- Pieces of a text, one behind the other.
use Rattle.std.proofs.Common.{◌≡◌, ◌∙◌, ℕ, ◌+◌, ◌<◌, List, [], ◌∷◌, ◌++◌, append-nil, append_assoc, get_or, length, take, ap, sym}
use Rattle.std.specs.Prelude.{flat_map, if◌then◌else◌, is_ok, OnOk, Result, Ok, Err}
use Rattle.std.proofs.lemmas.List.{take_more}
use Rattle.std.proofs.lemmas.List.Concat.{flat_map-append}
use Rattle.mrp_advice.specs.Texts.{behind_each}

-- one more piece
each-more : (separator : List ℕ) (pieces : List (List ℕ)) (k : ℕ) (piece : List ℕ) → k < length pieces → piece ≡ get_or pieces k piece
    → behind_each separator (take (k + 1) pieces) ≡ behind_each separator (take k pieces) ++ (separator ++ piece)
each-more separator pieces k piece within is =
    let f = λ (p : List ℕ). separator ++ p in
    ap (flat_map f) (take_more pieces k piece within ∙ ap (λ (p : List ℕ). take k pieces ++ p ∷ []) (sym is)) ∙ flat_map-append f (take k pieces) (piece ∷ [])
    ∙ ap (λ (t : List ℕ). flat_map f (take k pieces) ++ t) (append-nil (separator ++ piece))

-- a text with one more piece
pub piece-added : (separator : List ℕ) (pieces : List (List ℕ)) (k : ℕ) (piece start old between new : List ℕ) → k < length pieces → piece ≡ get_or pieces k piece
    → old ≡ start ++ behind_each separator (take k pieces) → between ≡ old ++ separator → new ≡ between ++ piece
    → new ≡ start ++ behind_each separator (take (k + 1) pieces)
piece-added separator pieces k piece start old between new within is so_far first second =
    second ∙ ap (λ (t : List ℕ). t ++ piece) (first ∙ ap (λ (t : List ℕ). t ++ separator) so_far)
    ∙ append_assoc (start ++ behind_each separator (take k pieces)) separator piece
    ∙ append_assoc start (behind_each separator (take k pieces)) (separator ++ piece)
    ∙ ap (λ (t : List ℕ). start ++ t) (sym (each-more separator pieces k piece within is))

-- two pieces, of which the second is returned as it is added
pub two-told : {T E : Type 0} (r : Result T E) (old between new first second own : List ℕ) → between ≡ old ++ first → second ≡ own → OnOk r (new ≡ between ++ second) → OnOk r (new ≡ old ++ (first ++ own))
two-told (Ok x) old between new first second own is same told =
    told ∙ ap (λ (t : List ℕ). t ++ second) is ∙ append_assoc old first second ∙ ap (λ (t : List ℕ). old ++ (first ++ t)) same
two-told (Err e) old between new first second own is same told = tt

-- two pieces, of which the second is a text
pub last-two : {T E : Type 0} (r : Result T E) (old between new first second : List ℕ) → between ≡ old ++ first → new ≡ (if is_ok r then between ++ second else between) → OnOk r (new ≡ old ++ (first ++ second))
last-two (Ok x) old between new first second is told = told ∙ ap (λ (t : List ℕ). t ++ second) is ∙ append_assoc old first second
last-two (Err e) old between new first second is told = tt

-- two pieces as one
pub joined : (old between new first second : List ℕ) → between ≡ old ++ first → new ≡ between ++ second → new ≡ old ++ (first ++ second)
joined old between new first second is told = told ∙ ap (λ (t : List ℕ). t ++ second) is ∙ append_assoc old first second

-- three pieces, of which the third is a text
pub last-three : {T E : Type 0} (r : Result T E) (old one two new first second third : List ℕ) → one ≡ old ++ first → two ≡ one ++ second → new ≡ (if is_ok r then two ++ third else two)
    → OnOk r (new ≡ old ++ (first ++ (second ++ third)))
last-three (Ok x) old one two new first second third is next told =
    told ∙ ap (λ (t : List ℕ). t ++ third) (joined old one two first second is next) ∙ append_assoc old (first ++ second) third ∙ ap (λ (t : List ℕ). old ++ t) (append_assoc first second third)
last-three (Err e) old one two new first second third is next told = tt

-- three pieces, of which the third is returned as it is added
pub three-told : {T E : Type 0} (r : Result T E) (old one two new first second third own : List ℕ) → one ≡ old ++ first → two ≡ one ++ second → third ≡ own → OnOk r (new ≡ two ++ third)
    → OnOk r (new ≡ old ++ (first ++ (second ++ own)))
three-told (Ok x) old one two new first second third own is next same told =
    told ∙ ap (λ (t : List ℕ). t ++ third) (joined old one two first second is next) ∙ append_assoc old (first ++ second) third ∙ ap (λ (t : List ℕ). old ++ t) (append_assoc first second third)
    ∙ ap (λ (t : List ℕ). old ++ (first ++ (second ++ t))) same
three-told (Err e) old one two new first second third own is next same told = tt
