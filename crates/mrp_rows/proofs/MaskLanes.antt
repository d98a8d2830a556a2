-- From the mask of one load to the bytes that pass a test.
use Rattle.std.proofs.Common.{◌≡◌, ◌∙◌, ◌%◌, ◌^◌, ◌<◌, ◌≤◌, ℕ, suc, Bool, List, [], ◌∷◌, ap, arith, get_or, length, map, not, refl, true}
use Rattle.std.specs.List.{prefix_len}
use Rattle.std.specs.Simd.Lanes.{mask_l, top}
use Rattle.std.proofs.lemmas.Bool.{agree_below, agree_below_at}
use Rattle.std.proofs.lemmas.List.{length-map}
use Rattle.std.proofs.lemmas.Simd.{first_set_mask_l, map-map, mask_l-mod}
use Rattle.mrp_rows.specs.Masks.{first_set}

-- two tests that agree on all items
prefix-same : (p q : ℕ → Bool) (xs : List ℕ) → ((k : ℕ) → k < length xs → p (get_or xs k 0) ≡ q (get_or xs k 0)) → prefix_len p xs ≡ prefix_len q xs
prefix-same p q [] same = refl
prefix-same p q (x ∷ xs) same =
    let first : p x ≡ q x = same 0 (omega arith) in
    rw (first, prefix-same p q xs (λ k within. same (suc k) (omega arith))) refl

-- the lowest bit in the mask of a vector that was computed lane by lane: where its top bit stands out just where the test fails
pub lanes-in-front : (test : ℕ → Bool) (lane : ℕ → ℕ) (bytes lanes : List ℕ) (n : ℕ) → length bytes ≡ n → n ≤ 64 → ((k : ℕ) → k < length bytes → get_or bytes k 0 < 256)
    → lanes ≡ map lane bytes → agree_below (λ x. not (top 7 (lane x))) test 256 ≡ true
    → first_set (mask_l (map (top 7) lanes) % 2 ^ 64) n ≡ prefix_len test bytes
lanes-in-front test lane bytes lanes n long few fits is agree =
    let stops : ℕ → Bool = λ x. top 7 (lane x) in
    let mask : mask_l (map (top 7) lanes) % 2 ^ 64 ≡ mask_l (map stops bytes) =
    ap (λ l. mask_l l % 2 ^ 64) (ap (map (top 7)) is ∙ map-map (top 7) lane bytes) ∙ mask_l-mod (map stops bytes) 64 (omega (arith, length-map bytes stops, long)) in
    ap (λ m. first_set m n) mask ∙ first_set_mask_l stops bytes n long few
    ∙ prefix-same (λ x. not (stops x)) test bytes (λ k within. agree_below_at (λ x. not (stops x)) test 256 (get_or bytes k 0) agree (fits k within))
