-- The first week that passes a test.
use Rattle.std.proofs.Common.{◌≡◌, ◌≢◌, ◌∙◌, ℕ, zero, suc, ◌+◌, ◌<◌, ◌≤◌, Bool, true, false, cond, eqb, List, length, refl, sym, ap, arith}
use Rattle.std.specs.Prelude.{nat_lt, find, Option, Some, None}
use Rattle.std.specs.List.{range_with_len}
use Rattle.std.proofs.lemmas.Bool.{lt-ltb, le-ltb, ltb-true, ltb-false, eqb-true, eqb-false}
use Rattle.mrp_phase.specs.Weeks.{sum_to}
use Rattle.mrp_item.proofs.Outcomes.{find-none}
use Rattle.mrp_notes.specs.Needs.{need_week}

found_from : (p : ℕ → Bool) (a n k : ℕ) → k < n → ((j : ℕ) → j < k → p (a + j) ≡ false) → p (a + k) ≡ true → find p (range_with_len a n) ≡ Some (a + k)
found_from p a zero k h before here = absurd (omega arith)
found_from p a (suc n) zero h before here =
    let at : a + 0 ≡ a = omega arith in
    rw (rw at at here, at) refl
found_from p a (suc n) (suc k) h before here =
    let at : a + 0 ≡ a = omega arith in
    let next : a + 1 + k ≡ a + suc k = omega arith in
    let first : p a ≡ false = rw at at (before 0 (omega arith)) in
    rw first (
    found_from p (a + 1) n k (omega arith)
    (λ j below. let e : a + 1 + j ≡ a + suc j = omega arith in ap p e ∙ before (suc j) (omega arith))
    (ap p next ∙ here) ∙ ap Some next)

none_from : (p : ℕ → Bool) (a n : ℕ) → ((j : ℕ) → j < n → p (a + j) ≡ false) → find p (range_with_len a n) ≡ None
none_from p a zero before = refl
none_from p a (suc n) before =
    let at : a + 0 ≡ a = omega arith in
    let first : p a ≡ false = rw at at (before 0 (omega arith)) in
    rw first (none_from p (a + 1) n (λ j below. let e : a + 1 + j ≡ a + suc j = omega arith in ap p e ∙ before (suc j) (omega arith)))

-- the week after those that are covered
pub need_week_found : (gross : List ℕ) (safety supplied k : ℕ) → k < length gross
    → ((week : ℕ) → 0 < week → week ≤ k → sum_to gross week + safety ≤ supplied)
    → supplied < sum_to gross (k + 1) + safety → need_week gross safety supplied ≡ Some (k + 1)
need_week_found gross safety supplied k h covered short =
    let p : ℕ → Bool = λ week. nat_lt supplied (sum_to gross week + safety) in
    let e : 1 + k ≡ k + 1 = omega arith in
    found_from p 1 (length gross) k h
    (λ j below. le-ltb supplied (sum_to gross (1 + j) + safety) (covered (1 + j) (omega arith) (omega arith)))
    (ap p e ∙ lt-ltb supplied (sum_to gross (k + 1) + safety) short)
    ∙ ap Some e

-- if all weeks are covered there is none
pub need_week_none : (gross : List ℕ) (safety supplied : ℕ)
    → ((week : ℕ) → 0 < week → week ≤ length gross → sum_to gross week + safety ≤ supplied)
    → need_week gross safety supplied ≡ None
need_week_none gross safety supplied covered =
    none_from (λ week. nat_lt supplied (sum_to gross week + safety)) 1 (length gross)
    (λ j below. le-ltb supplied (sum_to gross (1 + j) + safety) (covered (1 + j) (omega arith) (omega arith)))

-- what a search along numbers says of what it found
pub record IsFirst (p : ℕ → Bool) (a n k : ℕ) : Type 0 where
  pub low : a ≤ k
  pub high : k < a + n
  pub here : p k ≡ true
  pub before : (j : ℕ) → a ≤ j → j < k → p j ≡ false

is_first : (p : ℕ → Bool) (a n k : ℕ) → find p (range_with_len a n) ≡ Some k → IsFirst p a n k
is_first p a zero k e = absurd (cc)
is_first p a (suc n) k e = by (p a) refl e (λ f. is_first p (a + 1) n k f)
  where
    by : (b : Bool) → p a ≡ b → cond b (Some a) (find p (range_with_len (a + 1) n)) ≡ Some k
        → (find p (range_with_len (a + 1) n) ≡ Some k → IsFirst p (a + 1) n k) → IsFirst p a (suc n) k
    by true h e later =
        let same : a ≡ k = cc in
        record {
          low = omega arith;
          high = omega arith;
          here = ap p (sym same) ∙ h;
          before = λ j x y. absurd (omega arith);
        }
    by false h e later =
        let rest = later e in
        record {
          low = omega (arith, rest.low);
          high = omega (arith, rest.high);
          here = rest.here;
          before = λ j x y. early j x y (eqb j a) refl rest;
        }
      where
        early : (j : ℕ) → a ≤ j → j < k → (c : Bool) → eqb j a ≡ c → IsFirst p (a + 1) n k → p j ≡ false
        early j x y true f rest = ap p (eqb-true j a f) ∙ h
        early j x y false f rest =
            let other : j ≢ a = eqb-false j a f in
            rest.before j (omega arith) y

-- what the need week is
pub need_week_first : (gross : List ℕ) (safety supplied week : ℕ) → need_week gross safety supplied ≡ Some week
    → IsFirst (λ week. nat_lt supplied (sum_to gross week + safety)) 1 (length gross) week
need_week_first gross safety supplied week e = is_first (λ week. nat_lt supplied (sum_to gross week + safety)) 1 (length gross) week e

pub need_week_all : (gross : List ℕ) (safety supplied : ℕ) → need_week gross safety supplied ≡ None → (week : ℕ) → 0 < week → week ≤ length gross → sum_to gross week + safety ≤ supplied
need_week_all gross safety supplied e week low high =
    ltb-false supplied (sum_to gross week + safety) (find-none (λ week. nat_lt supplied (sum_to gross week + safety)) 1 (length gross) e week (omega arith) (omega arith))

pub need_week_short : (gross : List ℕ) (safety supplied week : ℕ) → need_week gross safety supplied ≡ Some week → supplied < sum_to gross week + safety
need_week_short gross safety supplied week e = ltb-true supplied (sum_to gross week + safety) (need_week_first gross safety supplied week e).here

pub need_week_before : (gross : List ℕ) (safety supplied week : ℕ) → need_week gross safety supplied ≡ Some week → (before : ℕ) → 0 < before → before < week → sum_to gross before + safety ≤ supplied
need_week_before gross safety supplied week e before low high =
    ltb-false supplied (sum_to gross before + safety) ((need_week_first gross safety supplied week e).before before (omega arith) high)

pub need_week_rises : (gross : List ℕ) (safety supplied more week : ℕ) → supplied ≤ more → need_week gross safety more ≡ Some week
    → (earlier : ℕ) × (need_week gross safety supplied ≡ Some earlier) × (earlier ≤ week)
need_week_rises gross safety supplied more week h e = by (need_week gross safety supplied) refl
  where
    found : IsFirst (λ week. nat_lt more (sum_to gross week + safety)) 1 (length gross) week
    found = need_week_first gross safety more week e

    by : (o : Option ℕ) → need_week gross safety supplied ≡ o → (earlier : ℕ) × (need_week gross safety supplied ≡ Some earlier) × (earlier ≤ week)
    by None f = absurd (omega (arith, need_week_short gross safety more week e, need_week_all gross safety supplied f week (omega (arith, found.low)) (omega (arith, found.high))))
    by (Some earlier) f = (earlier, f, least (nat_lt week earlier) refl)
      where
        least : (c : Bool) → nat_lt week earlier ≡ c → earlier ≤ week
        least true g =
            let below : week < earlier = ltb-true week earlier g in
            absurd (omega (arith, need_week_short gross safety more week e, need_week_before gross safety supplied earlier f week (omega (arith, found.low)) below))
        least false g = ltb-false week earlier g
