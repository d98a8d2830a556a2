-- Counts of commas by masks.
use Rattle.std.proofs.Common.{◌≡◌, ◌∙◌, ◌+◌, ◌*◌, ◌%◌, ◌^◌, ◌<◌, ◌≤◌, ℕ, suc, zero, Bool, List, [], ◌∷◌, length, map, take, drop, refl, ap, subst, arith, cond}
use Rattle.std.specs.Prelude.{count_by}
use Rattle.std.specs.Simd.Lanes.{mask_l}
use Rattle.std.specs.Int.RustNames.{count_ones}
use Rattle.std.proofs.Math.Nat.{add-mul, add-mul-mod_self_left, mod-eq_of_lt, two-pow-succ}
use Rattle.std.proofs.Math.Seq.{take-add}
use Rattle.std.proofs.lemmas.List.{length-map, length-take-le}
use Rattle.std.proofs.lemmas.List.Sums.{sum_by-append}
use Rattle.std.proofs.lemmas.Simd.{mask_l-lt, ones-mask_l}

-- the lowest bits of a mask are those of its first lanes
mask-rest : (n : ℕ) (ms : List Bool) → mask_l ms ≡ mask_l (take n ms) + 2 ^ n * mask_l (drop n ms)
mask-rest zero ms = omega arith
mask-rest (suc n) [] = omega arith
mask-rest (suc n) (m ∷ ms) =
    let more = mask-rest n ms in
    let rest = mask_l (drop n ms) in
    let twice : 2 ^ suc n * rest ≡ 2 ^ n * rest + 2 ^ n * rest = ap (λ k. k * rest) (two-pow-succ n) ∙ add-mul (2 ^ n) (2 ^ n) rest in
    omega arith

map-take : {X Y : Type 0} (f : X → Y) (n : ℕ) (xs : List X) → take n (map f xs) ≡ map f (take n xs)
map-take f zero xs = refl
map-take f (suc n) [] = refl
map-take f (suc n) (x ∷ xs) = ap (λ l. f x ∷ l) (map-take f n xs)

pub ones-below : (p : ℕ → Bool) (n : ℕ) (xs : List ℕ) → n ≤ length xs → count_ones (mask_l (map p xs) % 2 ^ n) ≡ count_by p (take n xs)
ones-below p n xs few =
    let ms = map p xs in
    let short : length (take n ms) ≡ n = length-take-le n ms (omega (arith, length-map xs p)) in
    let small : mask_l (take n ms) < 2 ^ n = subst (λ k. mask_l (take n ms) < 2 ^ k) short (mask_l-lt (take n ms)) in
    ap (λ k. count_ones (k % 2 ^ n)) (mask-rest n ms)
    ∙ ap count_ones (add-mul-mod_self_left (mask_l (take n ms)) (2 ^ n) (mask_l (drop n ms)) ∙ mod-eq_of_lt small)
    ∙ ap (λ l. count_ones (mask_l l)) (map-take p n xs)
    ∙ ones-mask_l p (take n xs)

pub count-more : (p : ℕ → Bool) (place step : ℕ) (xs : List ℕ) → count_by p (take (place + step) xs) ≡ count_by p (take place xs) + count_by p (take step (drop place xs))
count-more p place step xs = ap (count_by p) (take-add place step xs) ∙ sum_by-append (λ x. cond (p x) 1 0) (take place xs) (take step (drop place xs))
