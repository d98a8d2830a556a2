-- Work is taken from the beginning of a list, and its result is appended to another.
use Rattle.std.proofs.Common.{◌≡◌, ◌∙◌, ◌<◌, ◌≤◌, ◌+◌, ◌++◌, ℕ, List, [], ◌∷◌, length, get_or, ap, arith, inl, inr, refl, subst, sym}
use Rattle.std.specs.Prelude.{All}
use Rattle.std.proofs.lemmas.Bool.{cases_lt}
use Rattle.std.proofs.lemmas.List.{append-nil, append_assoc, get_or_append_left, get_or_at, get_or_push, length-append, length_push}

-- some of the elements are done, the others are left; each that is done is related by R to its result
pub record AreDoneInTurn {X Y : Type 0} (R : X → Y → Type 0) (all rest : List X) (ends : List Y) : Type 0 where
  pub done : List X
  pub left : all ≡ done ++ rest
  pub count : length ends ≡ length done
  pub each : (k : ℕ) (x : X) (y : Y) → k < length done → R (get_or done k x) (get_or ends k y)

-- one more is done
pub one-done : {X Y : Type 0} (R : X → Y → Type 0) (all rest left : List X) (ends now : List Y) (x : X) (y : Y) → AreDoneInTurn R all rest ends → rest ≡ x ∷ left → now ≡ ends ++ y ∷ [] → R x y → AreDoneInTurn R all left now
one-done R all rest left ends now x y before is adds fits = record {
  done = before.done ++ x ∷ [];
  left = before.left ∙ ap (λ r. before.done ++ r) is ∙ sym (append_assoc before.done (x ∷ []) left);
  count = ap length adds ∙ length_push ends y ∙ ap (λ n. n + 1) before.count ∙ sym (length_push before.done x);
  each = λ k d e within. elim (cases_lt k (length before.done)) [
    | inl below ↦
        let same = before.count in
        let one = get_or_append_left before.done (x ∷ []) d k below in
        let other = ap (λ l. get_or l k e) adds ∙ get_or_append_left ends (y ∷ []) e k (omega (arith, below, same)) in
        subst (λ b. R (get_or (before.done ++ x ∷ []) k d) b) (sym other) (subst (λ a. R a (get_or ends k e)) (sym one) (before.each k d e below))
    | inr past ↦
        let long = length_push before.done x in
        let at : length before.done ≡ k = omega (arith, past, within, long) in
        let one = get_or_push before.done x d k at in
        let other = ap (λ l. get_or l k e) adds ∙ get_or_push ends y e k (before.count ∙ at) in
        subst (λ b. R (get_or (before.done ++ x ∷ []) k d) b) (sym other) (subst (λ a. R a y) (sym one) fits)
  ];
}

-- room for all that is left and done is still enough with one more done
pub room-left : {X Y : Type 0} (rest left : List X) (ends now : List Y) (x : X) (y : Y) (room more : ℕ) → rest ≡ x ∷ left → now ≡ ends ++ y ∷ [] → more ≡ room → length rest + length ends ≤ room → length left + length now ≤ more
room-left rest left ends now x y room more is adds same within =
    let less = ap length is in
    let longer = ap length adds ∙ length_push ends y in
    omega (arith, less, longer, same, within)

none-left : {X : Type 0} (rest : List X) → length rest ≡ 0 → rest ≡ []
none-left [] none = refl
none-left (x ∷ rest) none = absurd (omega (arith, none))

-- all are done
pub all-done : {X Y : Type 0} (R : X → Y → Type 0) (all rest : List X) (ends : List Y) → AreDoneInTurn R all rest ends → length rest ≡ 0 → (length ends ≡ length all) × ((k : ℕ) (x : X) (y : Y) → k < length all → R (get_or all k x) (get_or ends k y))
all-done R all rest ends before none =
    let whole : before.done ≡ all = sym (before.left ∙ ap (λ r. before.done ++ r) (none-left rest none) ∙ append-nil before.done) in
    (before.count ∙ ap length whole, subst (λ xs. (k : ℕ) (x : _) (y : _) → k < length xs → R (get_or xs k x) (get_or ends k y)) whole before.each)

-- what all elements have, the next one has
pub next-has : {X : Type 0} (P : X → Type 0) (all done left : List X) (x : X) → all ≡ done ++ x ∷ left → All P all → P x
next-has P all done left x are has =
    let long = ap length are ∙ length-append done (x ∷ left) in
    subst P (ap (λ l. get_or l (length done) x) are ∙ get_or_at done x left x (length done) refl) (has (length done) x (omega (arith, long)))
