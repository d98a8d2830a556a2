-- The load of a work centre, order by order.
use Rattle.std.proofs.Common.{◌≡◌, ◌∙◌, ◌<◌, ◌+◌, ℕ, zero, suc, ◌⊎◌, inl, inr, Bool, true, false, cond, List, [], ◌∷◌, refl, sym, ap, arith}
use Rattle.std.specs.Prelude.{All, ◌&&◌, ◌==◌, filter, sum_by}
use Rattle.std.specs.List.{range_with_len}
use Rattle.std.proofs.lemmas.Bool.{cases_order, eq-eqb, ne_eqb, eqb-true}
use Rattle.std.proofs.lemmas.List.Elements.{All-head, All-tail, All-weaker}
use Rattle.std.proofs.lemmas.List.Sums.{sum_by-cons}
use Rattle.mrp_tables.specs.Facts.{IsOperation}
use Rattle.mrp_tables.specs.declared.rows.Operation.{Operation}
use Rattle.mrp_phase.proofs.KeptSums.{sum_by-kept}
use Rattle.mrp_item.specs.declared.order.Order.{Order}
use Rattle.mrp_item.specs.Inputs.{Inputs, count}
use Rattle.mrp_peg.proofs.Sums.{sum_by-agree, sum_by-cond, sum_by-swap}
use Rattle.mrp_load.specs.Loads.{load, operation_week, orders_in, standard_time}
use Rattle.mrp_engine.specs.event_core.Headline.{time_of_orders}

-- what a number below the first has among numbers, which is nothing
none-here : (k x a n : ℕ) → k < a → sum_by (λ i. cond (k == i) x 0) (range_with_len a n) ≡ 0
none-here k x a zero h = refl
none-here k x a (suc n) h =
    sum_by-cons (λ i. cond (k == i) x 0) a (range_with_len (a + 1) n)
    ∙ omega (arith, ap (λ b. cond b x 0) (ne_eqb k a (λ e. omega (arith, e, h))), none-here k x (a + 1) n (omega (arith, h)))

-- one of some numbers has its share once
once-here : (k x a n : ℕ) → a < k + 1 → k < a + n → sum_by (λ i. cond (k == i) x 0) (range_with_len a n) ≡ x
once-here k x a zero low high = absurd (omega (arith, low, high))
once-here k x a (suc n) low high = sum_by-cons (λ i. cond (k == i) x 0) a (range_with_len (a + 1) n) ∙ by (cases_order k a) (λ h. once-here k x (a + 1) n h (omega (arith, high)))
  where
    rest : ℕ
    rest = sum_by (λ i. cond (k == i) x 0) (range_with_len (a + 1) n)

    by : (k ≡ a) ⊎ ((k < a) ⊎ (a < k)) → (a + 1 < k + 1 → rest ≡ x) → cond (k == a) x 0 + rest ≡ x
    by (inl same) later = omega (arith, ap (λ b. cond b x 0) (eq-eqb k a same), none-here k x (a + 1) n (omega (arith, same)))
    by (inr (inl below)) later = absurd (omega (arith, low, below))
    by (inr (inr above)) later = omega (arith, ap (λ b. cond b x 0) (ne_eqb k a (λ e. omega (arith, e, above))), later (omega (arith, above)))

both : (a b : Bool) (n : ℕ) → cond (a && b) n 0 ≡ cond a (cond b n 0) 0
both true b n = refl
both false b n = refl

-- sums of functions that agree on the list's elements
agree-on : {X : Type 0} (f g : X → ℕ) (xs : List X) → All (λ x. f x ≡ g x) xs → sum_by f xs ≡ sum_by g xs
agree-on f g [] same = refl
agree-on f g (x ∷ xs) same =
    omega (arith, sum_by-cons f x xs, sum_by-cons g x xs, All-head (λ y. f y ≡ g y) x xs same, agree-on f g xs (All-tail (λ y. f y ≡ g y) x xs same))

-- Of things with a key below n and elements for each key, those elements that stand at the things: thing by thing,
-- and key by key.
module _ {X Y : Type 0} (key : Y → ℕ) (elements : ℕ → List X) (keep : Y → Bool) (stands : Y → X → Bool) (share : Y → X → ℕ) where
  abbrev here : Y → X → ℕ
  here y x = cond (stands y x) (share y x) 0

  -- what a thing has of the elements of a key
  abbrev of_key : ℕ → Y → ℕ
  of_key i y = cond (keep y) (sum_by (here y) (elements i)) 0

  one-thing : (y : Y) → sum_by (share y) (filter (stands y) (elements (key y))) ≡ sum_by (here y) (elements (key y))
  one-thing y = sum_by-kept (stands y) (share y) (elements (key y))

  by-things : (ys : List Y) → sum_by (λ y. sum_by (share y) (filter (stands y) (elements (key y)))) (filter keep ys) ≡ sum_by (λ y. of_key (key y) y) ys
  by-things ys =
      sum_by-kept keep (λ y. sum_by (share y) (filter (stands y) (elements (key y)))) ys
      ∙ sum_by-agree (λ y. cond (keep y) (sum_by (share y) (filter (stands y) (elements (key y)))) 0) (λ y. of_key (key y) y) (λ y. ap (λ n. cond (keep y) n 0) (one-thing y)) ys

  one-element : (i : ℕ) (x : X) (y : Y) → cond ((key y == i) && keep y && stands y x) (share y x) 0 ≡ cond (key y == i) (cond (keep y) (here y x) 0) 0
  one-element i x y = both ((key y == i) && keep y) (stands y x) (share y x) ∙ both (key y == i) (keep y) (here y x)

  by-element : (i : ℕ) (x : X) (ys : List Y)
      → sum_by (λ y. share y x) (filter (λ y. (key y == i) && keep y && stands y x) ys) ≡ sum_by (λ y. cond (key y == i) (cond (keep y) (here y x) 0) 0) ys
  by-element i x ys =
      sum_by-kept (λ y. (key y == i) && keep y && stands y x) (λ y. share y x) ys
      ∙ sum_by-agree (λ y. cond ((key y == i) && keep y && stands y x) (share y x) 0) (λ y. cond (key y == i) (cond (keep y) (here y x) 0) 0) (one-element i x) ys

  all-elements : (i : ℕ) (y : Y) → sum_by (λ x. cond (key y == i) (cond (keep y) (here y x) 0) 0) (elements i) ≡ cond (key y == i) (of_key (key y) y) 0
  all-elements i y =
      sum_by-cond (key y == i) (λ x. cond (keep y) (here y x) 0) (elements i)
      ∙ ap (λ n. cond (key y == i) n 0) (sum_by-cond (keep y) (here y) (elements i))
      ∙ of-own (key y == i) refl
    where
      of-own : (b : Bool) → (key y == i) ≡ b → cond b (of_key i y) 0 ≡ cond b (of_key (key y) y) 0
      of-own true e = ap (λ k. of_key k y) (sym (eqb-true (key y) i e))
      of-own false e = refl

  by-key : (i : ℕ) (ys : List Y)
      → sum_by (λ x. sum_by (λ y. share y x) (filter (λ y. (key y == i) && keep y && stands y x) ys)) (elements i) ≡ sum_by (λ y. cond (key y == i) (of_key (key y) y) 0) ys
  by-key i ys =
      sum_by-agree (λ x. sum_by (λ y. share y x) (filter (λ y. (key y == i) && keep y && stands y x) ys)) (λ x. sum_by (λ y. cond (key y == i) (cond (keep y) (here y x) 0) 0) ys) (λ x. by-element i x ys) (elements i)
      ∙ sum_by-swap (λ x y. cond (key y == i) (cond (keep y) (here y x) 0) 0) (elements i) ys
      ∙ sum_by-agree (λ y. sum_by (λ x. cond (key y == i) (cond (keep y) (here y x) 0) 0) (elements i)) (λ y. cond (key y == i) (of_key (key y) y) 0) (all-elements i) ys

  -- the two sums are one
  by-things-by-keys : (n : ℕ) (ys : List Y) → All (λ y. key y < n) ys
      → sum_by (λ y. sum_by (share y) (filter (stands y) (elements (key y)))) (filter keep ys)
      ≡ sum_by (λ i. sum_by (λ x. sum_by (λ y. share y x) (filter (λ y. (key y == i) && keep y && stands y x) ys)) (elements i)) (range_with_len 0 n)
  by-things-by-keys n ys within =
      by-things ys
      ∙ sym (agree-on (λ y. sum_by (λ i. cond (key y == i) (of_key (key y) y) 0) (range_with_len 0 n)) (λ y. of_key (key y) y) ys
      (All-weaker (λ y. key y < n) (λ y. sum_by (λ i. cond (key y == i) (of_key (key y) y) 0) (range_with_len 0 n) ≡ of_key (key y) y) (λ y h. once-here (key y) (of_key (key y) y) 0 n (omega arith) (omega (arith, h))) ys within))
      ∙ sym (sum_by-swap (λ i y. cond (key y == i) (of_key (key y) y) 0) (range_with_len 0 n) ys)
      ∙ sym (sum_by-agree (λ i. sum_by (λ x. sum_by (λ y. share y x) (filter (λ y. (key y == i) && keep y && stands y x) ys)) (elements i)) (λ i. sum_by (λ y. cond (key y == i) (of_key (key y) y) 0) ys) (λ i. by-key i ys) (range_with_len 0 n))

-- a work centre's load, over the orders of all items
pub load-by-orders : (s : Inputs) → All (IsOperation s.tables.items s.tables.centres) s.tables.routings → (centre week : ℕ) → load s centre week ≡ time_of_orders s centre week
load-by-orders s each centre week =
    by-things-by-keys (λ (o : Operation). o.item) (orders_in s) (λ (o : Operation). o.centre == centre) (λ (o : Operation) (x : Order). operation_week o x == week) standard_time
    (count s) s.tables.routings (All-weaker (IsOperation s.tables.items s.tables.centres) (λ (o : Operation). o.item < count s) (λ o is. is.item) s.tables.routings each)
