-- The only worker of a board, for its tests.
use Rattle.std.proofs.Common.{◌≡◌, ℕ, ◌≤◌, ◌∙◌, List, [], ◌∷◌, refl, sym, subst, arith}
use Rattle.mrp_turn.specs.Seen.{HasNumber, Seated}

module _ {O C R : Type 0} where
  -- a worker with the number 1 is all workers of a board of one
  pub all-workers : (workers : List (Seated O C R)) (worker : Seated O C R) → workers ≡ worker ∷ [] → worker.number ≡ 1 → (n : ℕ) → 1 ≤ n → n ≤ 1 → HasNumber workers n
  all-workers workers worker is number n least most =
      let e : n ≡ 1 = omega (arith, least, most) in
      subst (λ (x : List (Seated O C R)). HasNumber x n) (sym is) (worker, (0, omega arith, refl), number ∙ sym e)
