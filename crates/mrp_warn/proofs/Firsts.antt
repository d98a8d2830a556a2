-- The first of equal keys, key by key.
use Rattle.std.proofs.Common.{◌≡◌, ◌∙◌, ℕ, ◌+◌, ◌<◌, ◌≤◌, Bool, true, false, cond, eqb, ltb, List, [], ◌∷◌, ◌++◌, length, take, get_or, Option, Some, None, ap, arith, map, refl, sym}
use Rattle.std.specs.Prelude.{if◌then◌else◌, is_some, not}
use Rattle.std.specs.List.{enumerate_from, position, position_or_len}
use Rattle.std.specs.Cmp.{IsEquivalence}
use Rattle.std.proofs.lemmas.Bool.Decides.{nat_tests}
use Rattle.std.proofs.lemmas.List.Folds.{position_or_len_push}
use Rattle.std.proofs.lemmas.List.Sums.{prefix_len-le-length}
use Rattle.mrp_warn.specs.Rows.{earlier}
use Rattle.std.proofs.lemmas.List.{length_push, length-take-le, map-append, take_all, take_more}

-- the first place that passes: that among the elements so far, or else that of one more
abbrev or_last : Option ℕ → Bool → ℕ → Option ℕ
or_last (Some first) passes last = Some first
or_last None true last = Some last
or_last None false last = None

position-at : (k n : ℕ) (passes : Bool) → k ≤ n
    → cond (ltb (cond (eqb k n) (n + cond passes 0 1) k) (n + 1)) (Some (cond (eqb k n) (n + cond passes 0 1) k)) None ≡ or_last (cond (ltb k n) (Some k) None) passes n
position-at k n true within = grind (arith, nat_tests)
position-at k n false within = grind (arith, nat_tests)

pub position-push : {X : Type 0} (p : X → Bool) (xs : List X) (y : X) → position p (xs ++ y ∷ []) ≡ or_last (position p xs) (p y) (length xs)
position-push p xs y =
    rw (position_or_len_push p xs y, length_push xs y) (position-at (position_or_len p xs) (length xs) (p y) (prefix_len-le-length (λ x. not (p x)) xs))

-- equal keys are equal to the same keys
same-first : {K : Type 0} {eq : K → K → Bool} → IsEquivalence eq → (q x : K) (xs : List K) → eq q x ≡ true → position (eq q) xs ≡ position (eq x) xs
same-first {eq = eq} laws q x xs equal = ap (λ f. position f xs) (λ i. λ z. laws.congr q x z equal i)

none-some : (f : ℕ) → None ≡ Some f → ⊥
none-some f e = cc

-- what is known of the keys so far is known of one more too
pub known-more : {K : Type 0} {eq : K → K → Bool} → IsEquivalence eq → (keys : List K) (place : ℕ) (key : K) (old new : K → Option ℕ) (first : Option ℕ)
    → place < length keys → key ≡ get_or keys place key → ((q : K) → old q ≡ position (eq q) (take place keys)) → first ≡ old key
    → ((q : K) → new q ≡ (if is_some first then old q else if eq key q then Some place else old q))
    → (q : K) → new q ≡ position (eq q) (take (place + 1) keys)
known-more {K} {eq} laws keys place key old new first within is so_far found noted q =
    noted q ∙ ap (λ (b : Bool). if is_some first then old q else if b then Some place else old q) (laws.symm key q) ∙ by first (old q) (eq q key) refl refl refl ∙ sym whole
  where
    size : length (take place keys) ≡ place
    size = length-take-le place keys (omega (arith, within))

    whole : position (eq q) (take (place + 1) keys) ≡ or_last (old q) (eq q key) place
    whole =
        ap (position (eq q)) (take_more keys place key within ∙ ap (λ (x : K). take place keys ++ x ∷ []) (sym is))
        ∙ position-push (eq q) (take place keys) key ∙ (λ i. or_last (sym (so_far q) i) (eq q key) (size i))

    same : eq q key ≡ true → old q ≡ first
    same equal = so_far q ∙ same-first laws q key (take place keys) equal ∙ sym (so_far key) ∙ sym found

    by : (f o : Option ℕ) (b : Bool) → first ≡ f → old q ≡ o → eq q key ≡ b → (if is_some f then o else if b then Some place else o) ≡ or_last o b place
    by (Some f) (Some p) b one two three = refl
    by (Some f) None true one two three = absurd (none-some f (sym two ∙ same three ∙ one))
    by (Some f) None false one two three = refl
    by None (Some p) true one two three = absurd (none-some p (sym (sym two ∙ same three ∙ one)))
    by None (Some p) false one two three = refl
    by None None true one two three = refl
    by None None false one two three = refl

enumerate-push : {X : Type 0} (n : ℕ) (xs : List X) (y : X) → enumerate_from n (xs ++ y ∷ []) ≡ enumerate_from n xs ++ (n + length xs, y) ∷ []
enumerate-push n [] y = ap (λ (k : ℕ). (k, y) ∷ []) (omega arith)
enumerate-push n (x ∷ xs) y =
    let up : n + 1 + length xs ≡ n + length (x ∷ xs) = omega arith in
    ap (λ rest. (n, x) ∷ rest) (enumerate-push (n + 1) xs y ∙ ap (λ (k : ℕ). enumerate_from (n + 1) xs ++ (k, y) ∷ []) up)

-- the first places of the keys up to one
abbrev pub firsts_up_to : {K : Type 0} → (K → K → Bool) → List K → ℕ → List (Option ℕ)
firsts_up_to eq keys place = map (λ r. position (eq r.1) (take r.0 keys)) (enumerate_from 0 (take place keys))

-- those of one key more
pub listed-more : {K : Type 0} (eq : K → K → Bool) (keys : List K) (place : ℕ) (key : K) (first : Option ℕ) (places : List (Option ℕ))
    → place < length keys → key ≡ get_or keys place key → first ≡ position (eq key) (take place keys) → places ≡ firsts_up_to eq keys place
    → places ++ first ∷ [] ≡ firsts_up_to eq keys (place + 1)
listed-more {K} eq keys place key first places within is found are =
    let at : ℕ × K → Option ℕ = λ r. position (eq r.1) (take r.0 keys) in
    let size : length (take place keys) ≡ place = length-take-le place keys (omega (arith, within)) in
    let all : take (place + 1) keys ≡ take place keys ++ key ∷ [] = take_more keys place key within ∙ ap (λ (x : K). take place keys ++ x ∷ []) (sym is) in
    let numbered : enumerate_from 0 (take (place + 1) keys) ≡ enumerate_from 0 (take place keys) ++ (place, key) ∷ [] =
    ap (enumerate_from 0) all ∙ enumerate-push 0 (take place keys) key ∙ ap (λ (k : ℕ). enumerate_from 0 (take place keys) ++ (k, key) ∷ []) (omega (arith, size)) in
    let last : at (place, key) ≡ first = sym found in
    (λ i. are i ++ sym last i ∷ []) ∙ sym (map-append at (enumerate_from 0 (take place keys)) ((place, key) ∷ [])) ∙ ap (map at) (sym numbered)

-- those of all keys
pub listed-all : {K : Type 0} (eq : K → K → Bool) (keys : List K) (place : ℕ) (places : List (Option ℕ)) → length keys ≤ place → places ≡ firsts_up_to eq keys place → places ≡ earlier eq keys
listed-all {K} eq keys place places whole are = are ∙ ap (λ (xs : List K). map (λ (r : ℕ × K). position (eq r.1) (take r.0 keys)) (enumerate_from 0 xs)) (take_all place keys whole)
