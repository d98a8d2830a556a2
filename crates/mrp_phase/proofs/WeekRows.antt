-- Rows that grow by one week.
use Rattle.std.proofs.Common.{◌≡◌, ◌∙◌, ℕ, zero, suc, ◌+◌, ◌<◌, ◌≤◌, max, List, [], ◌∷◌, ◌++◌, refl, ap, sym, arith, take, length, get_or, set, take_all, ◌-◌, ◌≢◌, get_or-set_same, get_or-set_other, length-set, ext_get_or, Bool, true, false, eqb, add-one, append-nil}
use Rattle.std.specs.Prelude.{flat_map, sum, map, fold, replicate}
use Rattle.std.specs.List.{range_with_len}
use Rattle.std.proofs.lemmas.List.Concat.{flat_map-append}
use Rattle.std.proofs.lemmas.List.FromFn.{map-range_with_len_more, get_or-map-range_with_len, length-map-range_with_len}
use Rattle.std.proofs.lemmas.List.Sums.{fold_push, sum_by-cons}
use Rattle.std.proofs.lemmas.Bool.{eqb-true, eqb-false}
use Rattle.mrp_phase.specs.Weeks.{weeks, row, in_week, with_week, greatest_to, sum_to}

pub row_none : {V : Type 0} (f : ℕ → V) → row 0 f ≡ []
unfolding row
row_none f = refl

pub row_more : {V : Type 0} (f : ℕ → V) (n : ℕ) → row (n + 1) f ≡ row n f ++ f (n + 1) ∷ []
unfolding row
row_more f n = map-range_with_len_more f 1 n (n + 1) (omega arith)

-- rows that agree in each week are one
pub row_same : {V : Type 0} (f g : ℕ → V) (n : ℕ) → ((t : ℕ) → 0 < t → t ≤ n → f t ≡ g t) → row n f ≡ row n g
row_same f g zero same = row_none f ∙ sym (row_none g)
row_same {V} f g (suc n) same =
    let next : suc n ≡ n + 1 = omega arith in
    rw next (row_more f n ∙ ap (λ (xs : List V). xs ++ f (n + 1) ∷ []) (row_same f g n (λ t a b. same t a (omega arith)))
    ∙ ap (λ (v : V). row n g ++ v ∷ []) (same (n + 1) (omega arith) (omega arith)) ∙ sym (row_more g n))

pub length-row : {V : Type 0} (f : ℕ → V) (n : ℕ) → length (row n f) ≡ n
unfolding row
length-row f n = length-map-range_with_len f 1 n

-- a row's value in one of its weeks
pub in_week_row : (f : ℕ → ℕ) (n t : ℕ) → 0 < t → t ≤ n → in_week (row n f) t ≡ f t
unfolding row in_week
in_week_row f n zero a b = absurd (omega arith)
in_week_row f n (suc t) a b = get_or-map-range_with_len f 1 n t (suc t) 0 (omega arith) (omega arith)

pub in_week_next : (xs : List ℕ) (t : ℕ) → in_week xs (t + 1) ≡ get_or xs t 0
unfolding in_week
in_week_next xs t =
    let one_more : t + 1 ≡ suc t = omega arith in
    rw one_more refl

pub greatest_none : (f : ℕ → ℕ) → greatest_to f 0 ≡ 0
unfolding greatest_to
greatest_none f = refl

pub greatest_more : (f : ℕ → ℕ) (t : ℕ) → greatest_to f (t + 1) ≡ max (greatest_to f t) (f (t + 1))
unfolding greatest_to
greatest_more f t = ap (λ xs. fold max 0 xs) (map-range_with_len_more f 1 t (t + 1) (omega arith)) ∙ fold_push max 0 (map f (range_with_len 1 t)) (f (t + 1))

take_past : (xs : List ℕ) (t : ℕ) → sum (take (suc t) xs) ≡ sum (take t xs) + get_or xs t 0
take_past [] zero = refl
take_past [] (suc t) = refl
take_past (x ∷ xs) zero = omega (arith, sum_by-cons (λ n. n) x [])
take_past (x ∷ xs) (suc t) = omega (arith, sum_by-cons (λ n. n) x (take (suc t) xs), sum_by-cons (λ n. n) x (take t xs), take_past xs t)

-- the sum up to the next week
pub sum_to_next : (xs : List ℕ) (t : ℕ) → sum_to xs (t + 1) ≡ sum_to xs t + in_week xs (t + 1)
sum_to_next xs t =
    let one_more : t + 1 ≡ suc t = omega arith in
    ap (λ n. sum (take n xs)) one_more ∙ take_past xs t ∙ ap (λ n. sum (take t xs) + n) (sym (in_week_next xs t))

-- one more number
pub range_more : (a n : ℕ) → range_with_len a (suc n) ≡ range_with_len a n ++ (a + n) ∷ []
range_more a zero = ap (λ (x : ℕ). x ∷ []) (omega arith)
range_more a (suc n) =
    let last : a + 1 + n ≡ a + suc n = omega arith in
    ap (λ (xs : List ℕ). a ∷ xs) (range_more (a + 1) n ∙ ap (λ (x : ℕ). range_with_len (a + 1) n ++ x ∷ []) last)

-- the sum up to the last week is the sum of the row
pub sum_to_whole : (xs : List ℕ) → sum_to xs (length xs) ≡ sum xs
sum_to_whole xs = ap sum (take_all (length xs) xs (omega arith))

-- a week's place is one less than its number
pub in_week_at : (xs : List ℕ) (t : ℕ) → 0 < t → in_week xs t ≡ get_or xs (t - 1) 0
in_week_at xs zero a = absurd (omega arith)
in_week_at xs (suc t) a =
    let back : suc t - 1 ≡ t = omega arith in
    rw back (unfold in_week in refl)

pub with_week_at : (xs : List ℕ) (t quantity : ℕ) → 0 < t → with_week xs t quantity ≡ set xs (t - 1) quantity
with_week_at xs zero quantity a = absurd (omega arith)
with_week_at xs (suc t) quantity a =
    let back : suc t - 1 ≡ t = omega arith in
    rw back (unfold with_week in refl)

-- one more week, by the constructor of its number
pub weeks_more : (horizon : ℕ) → weeks (suc horizon) ≡ weeks horizon ++ suc horizon ∷ []
weeks_more horizon =
    let next : 1 + horizon ≡ suc horizon = omega arith in
    range_more 1 horizon ∙ ap (λ (week : ℕ). weeks horizon ++ week ∷ []) next

-- what is listed week by week, with one more week
pub flat_map-weeks_suc : {Y : Type 0} (f : ℕ → List Y) (n : ℕ) → flat_map f (weeks (suc n)) ≡ flat_map f (weeks n) ++ f (suc n)
flat_map-weeks_suc {Y} f n = ap (flat_map f) (weeks_more n) ∙ flat_map-append f (weeks n) (suc n ∷ []) ∙ ap (λ (ys : List Y). flat_map f (weeks n) ++ ys) (append-nil (f (suc n)))

pub flat_map-weeks_next : {Y : Type 0} (f : ℕ → List Y) (n : ℕ) → flat_map f (weeks (n + 1)) ≡ flat_map f (weeks n) ++ f (n + 1)
flat_map-weeks_next f n = rw (add-one n) (flat_map-weeks_suc f n)

pub sum_to_suc : (xs : List ℕ) (t : ℕ) → sum_to xs (suc t) ≡ sum_to xs t + in_week xs (suc t)
sum_to_suc xs t = ap (sum_to xs) (sym (add-one t)) ∙ sum_to_next xs t ∙ ap (λ n. sum_to xs t + in_week xs n) (add-one t)

-- sums do not fall
pub sum_to_rises : (xs : List ℕ) (s t : ℕ) → s ≤ t → sum_to xs s ≤ sum_to xs t
sum_to_rises xs s t h =
    let e : t ≡ (t - s) + s = omega arith in
    rw e (by (t - s))
  where
    by : (k : ℕ) → sum_to xs s ≤ sum_to xs (k + s)
    by zero =
        let e : 0 + s ≡ s = omega arith in
        rw e (omega arith)
    by (suc k) =
        let e : suc k + s ≡ suc (k + s) = omega arith in
        rw e (omega (arith, sum_to_suc xs (k + s), by k))

pub greatest_suc : (f : ℕ → ℕ) (t : ℕ) → greatest_to f (suc t) ≡ max (greatest_to f t) (f (suc t))
greatest_suc f t = rw (← add-one t) (greatest_more f t)

-- the greatest does not fall
rises_by : (f : ℕ → ℕ) (s k : ℕ) → greatest_to f s ≤ greatest_to f (k + s)
rises_by f s zero =
    let e : 0 + s ≡ s = omega arith in
    rw e (omega arith)
rises_by f s (suc k) =
    let e : suc k + s ≡ suc (k + s) = omega arith in
    rw e (omega (arith, greatest_suc f (k + s), rises_by f s k))

pub greatest_rises : (f : ℕ → ℕ) (s t : ℕ) → s ≤ t → greatest_to f s ≤ greatest_to f t
greatest_rises f s t h =
    let e : t ≡ (t - s) + s = omega arith in
    rw e (rises_by f s (t - s))

-- and none is above it
pub greatest_above : (f : ℕ → ℕ) (t : ℕ) → 0 < t → f t ≤ greatest_to f t
greatest_above f zero a = absurd (omega arith)
greatest_above f (suc t) a = omega (arith, greatest_suc f t)

-- a row of equal quantities
pub in_week_replicate : (n t : ℕ) → in_week (replicate n 0) t ≡ 0
unfolding in_week
in_week_replicate n zero = refl
in_week_replicate n (suc t) = by n t
  where
    by : (n t : ℕ) → get_or {A = ℕ} (replicate n 0) t 0 ≡ 0
    by zero zero = refl
    by zero (suc t) = refl
    by (suc n) zero = refl
    by (suc n) (suc t) = by n t

-- the changed week, and the others
pub in_week_changed : (xs : List ℕ) (t quantity : ℕ) → 0 < t → t ≤ length xs → in_week (with_week xs t quantity) t ≡ quantity
unfolding in_week with_week
in_week_changed xs zero quantity a b = absurd (omega arith)
in_week_changed xs (suc t) quantity a b =
    let within : t < length xs = omega arith in
    rw get_or-set_same refl

pub in_week_kept : (xs : List ℕ) (t other quantity : ℕ) → other ≢ t → in_week (with_week xs t quantity) other ≡ in_week xs other
unfolding in_week with_week
in_week_kept xs zero other quantity ne = refl
in_week_kept xs (suc t) zero quantity ne = refl
in_week_kept xs (suc t) (suc other) quantity ne =
    let apart : other ≢ t = omega arith in
    rw get_or-set_other refl

pub length-with_week : (xs : List ℕ) (t quantity : ℕ) → length (with_week xs t quantity) ≡ length xs
unfolding with_week
length-with_week xs zero quantity = refl
length-with_week xs (suc t) quantity = length-set xs t quantity

-- the sum up to a week and the next are no more than the whole
pub sum_to_within : (xs : List ℕ) (t : ℕ) → t < length xs → sum_to xs t + get_or xs t 0 ≤ sum xs
sum_to_within xs t h = omega (arith, sum_to_next xs t, in_week_next xs t, sum_to_rises xs (t + 1) (length xs) (omega arith), sum_to_whole xs)

-- a row is known by its weeks
pub row_is : (xs : List ℕ) (f : ℕ → ℕ) (n : ℕ) → length xs ≡ n → ((t : ℕ) → 0 < t → t ≤ n → in_week xs t ≡ f t) → xs ≡ row n f
row_is xs f n e each =
    ext_get_or 0 xs (row n f) (e ∙ sym (length-row f n))
    (λ i h. sym (in_week_next xs i) ∙ each (i + 1) (omega arith) (omega arith) ∙ sym (in_week_row f n (i + 1) (omega arith) (omega arith)) ∙ in_week_next (row n f) i)

-- no week of a row has more than the row adds up to
pub sum-row_above : (f : ℕ → ℕ) (n t : ℕ) → 0 < t → t ≤ n → f t ≤ sum (row n f)
sum-row_above f n t a b =
    omega (arith, sum_to_within (row n f) (t - 1) (omega (arith, length-row f n)), in_week_at (row n f) t a, in_week_row f n t a b)

-- a row with the quantity of a week replaced
pub with_week-row : (f g : ℕ → ℕ) (n t quantity : ℕ) → 0 < t → t ≤ n → quantity ≡ g t → ((other : ℕ) → other ≢ t → g other ≡ f other)
    → with_week (row n f) t quantity ≡ row n g
with_week-row f g n t quantity a b here others =
    row_is (with_week (row n f) t quantity) g n (length-with_week (row n f) t quantity ∙ length-row f n) (λ o c d. by o c d (eqb o t) refl)
  where
    by : (o : ℕ) → 0 < o → o ≤ n → (same : Bool) → eqb o t ≡ same → in_week (with_week (row n f) t quantity) o ≡ g o
    by o c d true e =
        let same : o ≡ t = eqb-true o t e in
        rw same (in_week_changed (row n f) t quantity a (omega (arith, length-row f n)) ∙ here)
    by o c d false e =
        let other : o ≢ t = eqb-false o t e in
        in_week_kept (row n f) t o quantity other ∙ in_week_row f n o c d ∙ sym (others o other)
