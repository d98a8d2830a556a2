-- Which places are below a node of the tree.
use Rattle.std.proofs.Common.{ℕ, ◌≡◌, ◌≤◌, ◌<◌, ◌+◌, ◌-◌, ◌*◌, ◌^◌, inl, inr, arith, refl, ap, ◌∙◌}
use Rattle.std.proofs.lemmas.Bool.{cases_lt}
use Rattle.std.proofs.lemmas.Bool.Decides.{nat_tests}
use Rattle.mrp_master.specs.Nodes.{before, height, last}

-- a node's places are those of its two children, in order
pub record AreHalves (n : ℕ) : Type 0 where
  pub first : before (2 * n) ≡ before n
  pub middle : before (2 * n + 1) ≡ last (2 * n)
  pub end : last (2 * n + 1) ≡ last n
  pub left : height (2 * n) + 1 ≡ height n
  pub right : height (2 * n + 1) + 1 ≡ height n

halves_at : (n h w : ℕ) → 2 ^ (h + 1) ≡ 2 * w → 2 ^ h ≡ w → height n ≡ h + 1 → height (2 * n) ≡ h → height (2 * n + 1) ≡ h → AreHalves n
unfolding before last
halves_at n h w double single own left right =
    let a : 2 ^ height n ≡ 2 * w = ap (λ k. 2 ^ k) own ∙ double in
    let b : 2 ^ height (2 * n) ≡ w = ap (λ k. 2 ^ k) left ∙ single in
    let c : 2 ^ height (2 * n + 1) ≡ w = ap (λ k. 2 ^ k) right ∙ single in
    record {
      first = rw (a, b) (omega arith);
      middle = rw (b, c) (omega arith);
      end = rw (a, c) (omega arith);
      left = omega arith;
      right = omega arith;
    }

pub halves : (n : ℕ) → 1 ≤ n → n < 128 → AreHalves n
unfolding height
halves n some inner = elim (cases_lt n 2) [
  | inl a ↦ halves_at n 6 64 refl refl (grind (arith, nat_tests)) (grind (arith, nat_tests)) (grind (arith, nat_tests))
  | inr a ↦ elim (cases_lt n 4) [
    | inl b ↦ halves_at n 5 32 refl refl (grind (arith, nat_tests)) (grind (arith, nat_tests)) (grind (arith, nat_tests))
    | inr b ↦ elim (cases_lt n 8) [
      | inl c ↦ halves_at n 4 16 refl refl (grind (arith, nat_tests)) (grind (arith, nat_tests)) (grind (arith, nat_tests))
      | inr c ↦ elim (cases_lt n 16) [
        | inl d ↦ halves_at n 3 8 refl refl (grind (arith, nat_tests)) (grind (arith, nat_tests)) (grind (arith, nat_tests))
        | inr d ↦ elim (cases_lt n 32) [
          | inl e ↦ halves_at n 2 4 refl refl (grind (arith, nat_tests)) (grind (arith, nat_tests)) (grind (arith, nat_tests))
          | inr e ↦ elim (cases_lt n 64) [
            | inl f ↦ halves_at n 1 2 refl refl (grind (arith, nat_tests)) (grind (arith, nat_tests)) (grind (arith, nat_tests))
            | inr f ↦ halves_at n 0 1 refl refl (grind (arith, nat_tests)) (grind (arith, nat_tests)) (grind (arith, nat_tests))
          ]
        ]
      ]
    ]
  ]
]

-- all places are below the root
pub root_before : before 1 ≡ 0
unfolding before height
root_before = refl

pub root_last : last 1 ≡ 128
unfolding last height
root_last = refl

pub root_height : height 1 ≡ 7
unfolding height
root_height = refl

-- a place is its own
pub place_height : (n : ℕ) → 128 ≤ n → height n ≡ 0
unfolding height
place_height n h = grind (arith, nat_tests)

pub place_before : (n : ℕ) → 128 ≤ n → before n ≡ n - 128
unfolding before
place_before n h = ap (λ k. n * 2 ^ k - 128) (place_height n h) ∙ omega arith

pub place_last : (n : ℕ) → 128 ≤ n → last n ≡ n - 127
unfolding last
place_last n h = ap (λ k. (n + 1) * 2 ^ k - 128) (place_height n h) ∙ omega arith

-- no node is higher than the root
pub height_most : (n : ℕ) → height n ≤ 7
unfolding height
height_most n = grind (arith, nat_tests)
