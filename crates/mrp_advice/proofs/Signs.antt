-- The signs of a text, one by one.
use Rattle.std.proofs.Common.{◌≡◌, ◌≢◌, ◌∙◌, ℕ, zero, suc, ◌+◌, ◌-◌, ◌*◌, ◌/◌, ◌%◌, ◌<◌, ◌≤◌, Bool, true, false, List, [], ◌∷◌, ◌++◌, append-nil, append_assoc, arith, ap, drop, get_or, length, refl, sym, take}
use lib.Utf8.{encode}
use Rattle.std.specs.Prelude.{codes, if◌then◌else◌, is_ok, nat_lt, OnOk, Result, Ok, Err}
use Rattle.std.proofs.lemmas.List.{take_all}
use Rattle.std.proofs.lemmas.Bool.{and_parts, leb-true}
use Rattle.mrp_advice.specs.Shown.{are_letter, behind_sign, first_sign, signs}

-- the code of a letter is encoded as its two bytes
pub letter-encode : (first second : ℕ) → are_letter first second ≡ true → encode ((first - 0xC0) * 64 + (second - 0x80)) ≡ first ∷ second ∷ []
unfolding encode
letter-encode first second is =
    let (fronts, backs) = and_parts _ _ is in
    let (first_low, first_high) = and_parts _ _ fronts in
    let (second_low, second_high) = and_parts _ _ backs in
    let a : 0xC3 ≤ first = leb-true _ _ first_low in
    let b : first ≤ 0xD4 = leb-true _ _ first_high in
    let c : 0x80 ≤ second = leb-true _ _ second_low in
    let d : second ≤ 0xBF = leb-true _ _ second_high in
    let code = (first - 0xC0) * 64 + (second - 0x80) in
    let above : nat_lt code 128 ≡ false = grind arith in
    let below : nat_lt code 2048 ≡ true = grind arith in
    let front : 192 + code / 64 ≡ first = omega arith in
    let back : 128 + code % 64 ≡ second = omega arith in
    rw (above, below, front, back) refl

-- nothing is left of a text
pub signs-none : (left : ℕ) → signs left [] ≡ []
unfolding signs
signs-none zero = refl
signs-none (suc left) = refl

-- no sign is left, but a text is
pub signs-cut : (left first : ℕ) (others : List ℕ) → left ≡ 0 → signs left (first ∷ others) ≡ codes ".."
unfolding signs
signs-cut zero first others none = refl
signs-cut (suc left) first others none = absurd (omega (arith, none))

-- one more sign
pub signs-more : (left first : ℕ) (others : List ℕ) → left ≢ 0 → signs left (first ∷ others) ≡ first_sign first others ++ signs (left - 1) (behind_sign first others)
unfolding signs
signs-more zero first others some = absurd (some refl)
signs-more (suc left) first others some = let same : suc left - 1 ≡ left = omega arith in rw same refl

-- what stands behind a sign is shorter
pub behind-shorter : (first : ℕ) (others : List ℕ) → length (behind_sign first others) ≤ length others
behind-shorter first [] = omega arith
behind-shorter first (second ∷ others) = by (are_letter first second)
  where
    by : (letter : Bool) → length (if letter then others else second ∷ others) ≤ length (second ∷ others)
    by true = omega arith
    by false = omega arith

-- the text with one more sign
pub signed-more : (old new start : List ℕ) (left first : ℕ) (others whole : List ℕ) → left ≢ 0 → new ≡ old ++ first_sign first others → old ++ signs left (first ∷ others) ≡ start ++ whole
    → new ++ signs (left - 1) (behind_sign first others) ≡ start ++ whole
signed-more old new start left first others whole some is so_far =
    ap (λ (t : List ℕ). t ++ signs (left - 1) (behind_sign first others)) is ∙ append_assoc old (first_sign first others) (signs (left - 1) (behind_sign first others))
    ∙ ap (λ (t : List ℕ). old ++ t) (sym (signs-more left first others some)) ∙ so_far

pub signed-next : (old new start rest behind whole : List ℕ) (left : ℕ) → 1 ≤ length rest → left ≢ 0
    → new ≡ old ++ first_sign (get_or rest 0 0) (take (length rest - 1) (drop 1 rest)) → behind ≡ behind_sign (get_or rest 0 0) (take (length rest - 1) (drop 1 rest))
    → old ++ signs left rest ≡ start ++ whole → new ++ signs (left - 1) behind ≡ start ++ whole
signed-next old new start [] behind whole left some more is behind_is so_far = absurd (omega (arith, some))
signed-next old new start (first ∷ others) behind whole left some more is behind_is so_far =
    let all : take (length (first ∷ others) - 1) others ≡ others = take_all (length (first ∷ others) - 1) others (omega arith) in
    ap (λ (t : List ℕ). new ++ signs (left - 1) t) (behind_is ∙ ap (behind_sign first) all)
    ∙ signed-more old new start left first others whole more (is ∙ ap (λ (t : List ℕ). old ++ first_sign first t) all) so_far

-- the text with what stands for the rest
pub signed-cut : {T E : Type 0} (r : Result T E) (old new start rest whole : List ℕ) (left : ℕ) → 1 ≤ length rest → left ≡ 0 → new ≡ (if is_ok r then old ++ codes ".." else old)
    → old ++ signs left rest ≡ start ++ whole → OnOk r (new ≡ start ++ whole)
signed-cut r old new start [] whole left some none is so_far = absurd (omega (arith, some))
signed-cut (Ok x) old new start (first ∷ others) whole left some none is so_far = is ∙ ap (λ (t : List ℕ). old ++ t) (sym (signs-cut left first others none)) ∙ so_far
signed-cut (Err e) old new start (first ∷ others) whole left some none is so_far = tt

-- the whole text
pub signed-all : (old start rest whole : List ℕ) (left : ℕ) → length rest < 1 → old ++ signs left rest ≡ start ++ whole → old ≡ start ++ whole
signed-all old start [] whole left none so_far = sym (append-nil old) ∙ ap (λ (t : List ℕ). old ++ t) (sym (signs-none left)) ∙ so_far
signed-all old start (first ∷ others) whole left none so_far = absurd (omega (arith, none))
