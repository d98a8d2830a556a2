-- The initial seat, and the seats that are split off it.
use Rattle.std.proofs.Common.{◌≡◌, ℕ, zero, suc, ◌+◌, ◌-◌, ◌<◌, List, [], ◌∷◌, ◌++◌, length, slice_get, Some, false, refl, ap, ◌∙◌, arith}
use Rattle.mrp_turn.specs.declared.views.About.{About}
use Rattle.mrp_turn.specs.declared.views.Account.{Account}
use Rattle.mrp_turn.specs.declared.views.LiveSeat.{LiveSeat}
use Rattle.mrp_turn.specs.Rule.{live, account, blanks, alone}
use Rattle.mrp_turn.specs.Steps.{cut_left, cut_right, behind_first, first_seat}

pub get_left : {A : Type 0} (xs ys : List A) (k : ℕ) → k < length xs → slice_get (xs ++ ys) k ≡ slice_get xs k
get_left [] ys k h = absurd (omega arith)
get_left (x ∷ xs) ys zero h = refl
get_left (x ∷ xs) ys (suc k) h = get_left xs ys k (omega arith)

pub get_last : {A : Type 0} (xs : List A) (x : A) (k : ℕ) → k ≡ length xs → slice_get (xs ++ x ∷ []) k ≡ Some x
get_last [] x zero h = refl
get_last [] x (suc k) h = absurd (omega arith)
get_last (y ∷ xs) x zero h = absurd (omega arith)
get_last (y ∷ xs) x (suc k) h = get_last xs x k (omega arith)

module _ {O : Type 0} (C R : Type 0) where
  -- the initial seat, once n seats are split off
  abbrev pub keeper : About O → ℕ → LiveSeat O C R
  keeper key n = record { about = key; own = account 0 [] []; kept = blanks (n + 1) (key.seats - n); holds = false }

  olds_are : (key : About O) (n : ℕ) → n < key.seats → (keeper key n).kept ≡ account (n + 1) [] [] ∷ (keeper key (n + 1)).kept
  olds_are key n h = let e : key.seats - n ≡ suc (key.seats - (n + 1)) = omega arith in let s : suc (n + 1) ≡ (n + 1) + 1 = omega arith in
      ap (blanks {C = C} {R = R} (n + 1)) e ∙ ap (λ (k : ℕ). account {C = C} {R = R} (n + 1) [] [] ∷ blanks k (key.seats - (n + 1))) s

  pub left_is : (key : About O) (n : ℕ) → n < key.seats → cut_left (live (keeper key n)) ≡ live (keeper key (n + 1))
  left_is key n h = ap (λ (ps : List (Account C R)). live {O = O} (record { about = key; own = account 0 [] []; kept = behind_first ps; holds = false })) (olds_are key n h)

  pub right_is : (key : About O) (n : ℕ) → n < key.seats → cut_right (live (keeper key n)) ≡ live (alone key (account (n + 1) [] []))
  right_is key n h = ap (first_seat key) (olds_are key n h)
