-- The late orders, and their order.
use Rattle.std.proofs.Common.{◌≡◌, ◌⊎◌, inl, inr, ℕ, zero, suc, ◌+◌, ◌-◌, ◌^◌, ◌<◌, ◌≤◌, Bool, true, false, cond, eqb, nat_lt, List, [], ◌∷◌, ◌++◌, length, get_or, refl, ap, subst, ◌∙◌, arith}
use Rattle.std.specs.Prelude.{All, IsPermutation}
use Rattle.std.specs.List.Sorted.{IsNonDecreasingBy, IsSortedByKey, IsStableByKey}
use Rattle.std.specs.Ordering.{is_lt, nat_cmp}
use Rattle.std.specs.declared.cmp.Ordering.TheVariants.{Equal, Greater}
use Rattle.std.proofs.lemmas.Bool.{cases_lt, le-ltb}
use Rattle.std.proofs.lemmas.List.{get_or_default, get_or_push, get_or_append_left, length-append}
use Rattle.std.proofs.lemmas.List.Elements.{All-from_get_or, Contains-get_or}
use Rattle.std.proofs.lemmas.List.Sorted.{All-permutation, Contains-permutation, ties_still_rise}
use Rattle.mrp_risk.specs.declared.late.Late.{Late}
use Rattle.mrp_risk.specs.Chains.{weeks_late, ComesFirst}
use Rattle.mrp_risk.specs.Late.{row_at, AreRowsTo, AreLateRows, AreLateOrders}

-- Row by row.

-- the rows so far stand by their numbers
pub record AreRisingTo (lateness : List ℕ) (end : ℕ) (rows : List Late) : Type 0 where
  pub each : AreRowsTo lateness end rows
  pub rising : (i j : ℕ) → i ≤ j → j < length rows → (row_at rows i).order ≤ (row_at rows j).order

pub rows-none : (lateness : List ℕ) → AreRisingTo lateness 0 []
rows-none lateness = record {
  each = record {
    weeks = λ k below. absurd (omega (arith, below));
    late = λ k below. absurd (omega (arith, below));
    all = λ order below. absurd (omega (arith, below));
  };
  rising = λ i j less below. absurd (omega (arith, below));
}

-- an order that is not late
pub rows-pass : (lateness : List ℕ) (end : ℕ) (rows : List Late) → AreRisingTo lateness end rows → weeks_late lateness end ≤ 0 → AreRisingTo lateness (end + 1) rows
rows-pass lateness end rows are none = record {
  each = record {
    weeks = are.each.weeks;
    late = λ k below. ((are.each.late k below).0, omega (arith, (are.each.late k below).1));
    all = λ order below late. all order late (cases_lt order end) (omega (arith, below));
  };
  rising = are.rising;
}
  where
    all : (order : ℕ) → 0 < weeks_late lateness order → (order < end) ⊎ (end ≤ order) → order ≤ end → (k : ℕ) × (k < length rows) × ((row_at rows k).order ≡ order)
    all order late (inl less) most = are.each.all order less late
    all order late (inr least) most =
        let same : order ≡ end = omega (arith, least, most) in
        absurd (omega (arith, late, none, ap (weeks_late lateness) same))

-- a late order
pub rows-push : (lateness : List ℕ) (end weeks : ℕ) (rows : List Late) → AreRisingTo lateness end rows → weeks ≡ weeks_late lateness end → 0 < weeks
    → AreRisingTo lateness (end + 1) (rows ++ record { order = end; weeks = weeks } ∷ [])
rows-push lateness end weeks rows are is late = record {
  each = record {
    weeks = λ k below. of-weeks k (cases_lt k (length rows)) (omega (arith, below, size));
    late = λ k below. of-late k (cases_lt k (length rows)) (omega (arith, below, size));
    all = λ order below some. all order some (cases_lt order end) (omega (arith, below));
  };
  rising = λ i j less below. rising i j less (cases_lt j (length rows)) (cases_lt i (length rows)) (omega (arith, below, size));
}
  where
    size : length (rows ++ record { order = end; weeks = weeks } ∷ []) ≡ length rows + 1
    size = length-append rows (record { order = end; weeks = weeks } ∷ [])

    old_at : (k : ℕ) → k < length rows → row_at (rows ++ record { order = end; weeks = weeks } ∷ []) k ≡ row_at rows k
    old_at k less = get_or_append_left rows (record { order = end; weeks = weeks } ∷ []) (record { order = 0; weeks = 0 }) k less

    last_at : (k : ℕ) → length rows ≡ k → row_at (rows ++ record { order = end; weeks = weeks } ∷ []) k ≡ record { order = end; weeks = weeks }
    last_at k same = get_or_push rows (record { order = end; weeks = weeks }) (record { order = 0; weeks = 0 }) k same

    of-weeks : (k : ℕ) → (k < length rows) ⊎ (length rows ≤ k) → k ≤ length rows
        → (row_at (rows ++ record { order = end; weeks = weeks } ∷ []) k).weeks ≡ weeks_late lateness (row_at (rows ++ record { order = end; weeks = weeks } ∷ []) k).order
    of-weeks k (inl less) most = rw (old_at k less) (are.each.weeks k less)
    of-weeks k (inr least) most = rw (last_at k (omega (arith, least, most))) is

    of-late : (k : ℕ) → (k < length rows) ⊎ (length rows ≤ k) → k ≤ length rows
        → (0 < (row_at (rows ++ record { order = end; weeks = weeks } ∷ []) k).weeks) × ((row_at (rows ++ record { order = end; weeks = weeks } ∷ []) k).order < end + 1)
    of-late k (inl less) most = rw (old_at k less) ((are.each.late k less).0, omega (arith, (are.each.late k less).1))
    of-late k (inr least) most = rw (last_at k (omega (arith, least, most))) (late, omega arith)

    all : (order : ℕ) → 0 < weeks_late lateness order → (order < end) ⊎ (end ≤ order) → order ≤ end
        → (k : ℕ) × (k < length (rows ++ record { order = end; weeks = weeks } ∷ [])) × ((row_at (rows ++ record { order = end; weeks = weeks } ∷ []) k).order ≡ order)
    all order some (inl less) most =
        let (k, below, there) = are.each.all order less some in
        (k, omega (arith, below, size), ap (λ (r : Late). r.order) (old_at k below) ∙ there)
    all order some (inr least) most = (length rows, omega (arith, size), ap (λ (r : Late). r.order) (last_at (length rows) refl) ∙ omega (arith, least, most))

    rising : (i j : ℕ) → i ≤ j → (j < length rows) ⊎ (length rows ≤ j) → (i < length rows) ⊎ (length rows ≤ i) → j ≤ length rows
        → (row_at (rows ++ record { order = end; weeks = weeks } ∷ []) i).order ≤ (row_at (rows ++ record { order = end; weeks = weeks } ∷ []) j).order
    rising i j less (inl under) low most = omega (arith, ap (λ (r : Late). r.order) (old_at i (omega (arith, less, under))), ap (λ (r : Late). r.order) (old_at j under), are.rising i j less under)
    rising i j less (inr past) (inl under) most =
        omega (arith, ap (λ (r : Late). r.order) (old_at i under), ap (λ (r : Late). r.order) (last_at j (omega (arith, past, most))), (are.each.late i under).1)
    rising i j less (inr past) (inr over) most =
        omega (arith, ap (λ (r : Late). r.order) (last_at i (omega (arith, less, over, most))), ap (λ (r : Late). r.order) (last_at j (omega (arith, past, most))))

pub rows-all : (lateness : List ℕ) (end : ℕ) (rows : List Late) → AreRisingTo lateness end rows → end ≡ length lateness → AreLateRows lateness rows
rows-all lateness end rows are is = record { each = subst (λ (n : ℕ). AreRowsTo lateness n rows) is are.each; rising = are.rising }

-- Sorted.

-- how far the weeks of a row are from the most
abbrev pub early : Late → ℕ
early row = 2 ^ 64 - 1 - row.weeks

not-below : (a b : ℕ) → a ≤ b → is_lt (nat_cmp b a) ≡ false
not-below a b least = let no : nat_lt b a ≡ false = le-ltb b a least in rw no (by (eqb b a))
  where
    by : (same : Bool) → is_lt (cond same Equal Greater) ≡ false
    by true = refl
    by false = refl

sorted-of : (rows : List Late) → ((i j : ℕ) → i ≤ j → j < length rows → (row_at rows i).order ≤ (row_at rows j).order) → IsSortedByKey (λ (r : Late). r.order) nat_cmp rows
sorted-of rows rising k d low below = not-below (get_or rows k d).order (get_or rows (k + 1) d).order (omega (arith, read k (omega (arith, below)), read (k + 1) below, rising k (k + 1) (omega arith) below))
  where
    read : (j : ℕ) → j < length rows → (get_or rows j d).order ≡ (row_at rows j).order
    read j inside = ap (λ (r : Late). r.order) (get_or_default rows j d (record { order = 0; weeks = 0 }) inside)

-- what a row says
abbrev IsRow : List ℕ → Late → Type 0
IsRow lateness row = (row.weeks ≡ weeks_late lateness row.order) × (0 < row.weeks) × (row.order < length lateness)

-- the late orders, sorted by how early they are
pub sorted-rows : (lateness : List ℕ) (xs ys : List Late) → ((order : ℕ) → weeks_late lateness order < 2 ^ 64) → AreLateRows lateness xs → IsPermutation xs ys → IsNonDecreasingBy early ys → IsStableByKey early nat_cmp xs ys
    → AreLateOrders lateness ys
sorted-rows lateness xs ys small are moved up stable = record {
  each = record {
    weeks = λ k below. (each k (record { order = 0; weeks = 0 }) below).0;
    late = λ k below. ((each k (record { order = 0; weeks = 0 }) below).1, (each k (record { order = 0; weeks = 0 }) below).2);
    all = all;
  };
  falling = λ i j least below. falling i j (omega (arith, least, below)) below (subst (Before (row_at ys i)) (ap (row_at ys) (omega (arith, least))) (far i (j - i) (omega (arith, least, below))));
}
  where
    each : All (IsRow lateness) ys
    each = All-permutation (IsRow lateness) xs ys moved (All-from_get_or (IsRow lateness) xs (record { order = 0; weeks = 0 }) (λ k below. (are.each.weeks k below, (are.each.late k below).0, (are.each.late k below).1)))

    all : (order : ℕ) → order < length lateness → 0 < weeks_late lateness order → (k : ℕ) × (k < length ys) × ((row_at ys k).order ≡ order)
    all order inside late =
        let (k, below, is) = are.each.all order inside late in
        let (j, there, same) = Contains-permutation xs ys (row_at xs k) moved (Contains-get_or xs k (record { order = 0; weeks = 0 }) below) in
        (j, there, ap (λ (r : Late). r.order) (get_or_default ys j (record { order = 0; weeks = 0 }) (row_at xs k) there ∙ same) ∙ is)

    Before : Late → Late → Type 0
    Before row other = (early row ≤ early other) × (early row ≡ early other → row.order ≤ other.order)

    next : (k : ℕ) → k + 1 < length ys → Before (row_at ys k) (row_at ys (k + 1))
    next k below = (up k (k + 1) (record { order = 0; weeks = 0 }) (omega arith) below, ties_still_rise (λ (r : Late). r.order) early xs ys (sorted-of xs are.rising) stable k (record { order = 0; weeks = 0 }) below)

    far : (i n : ℕ) → i + n < length ys → Before (row_at ys i) (row_at ys (i + n))
    far i zero below = let same : i ≡ i + 0 = omega arith in subst (λ (j : ℕ). Before (row_at ys i) (row_at ys j)) same (omega arith, λ e. omega arith)
    far i (suc n) below =
        let same : (i + n) + 1 ≡ i + suc n = omega arith in
        let near : Before (row_at ys i) (row_at ys (i + n)) = far i n (omega (arith, below)) in
        let last : Before (row_at ys (i + n)) (row_at ys ((i + n) + 1)) = next (i + n) (omega (arith, below)) in
        subst (λ (j : ℕ). Before (row_at ys i) (row_at ys j)) same (omega (arith, near.0, last.0), λ e. omega (arith, near.1 (omega (arith, e, near.0, last.0)), last.1 (omega (arith, e, near.0, last.0))))

    falling : (i j : ℕ) → i < length ys → j < length ys → Before (row_at ys i) (row_at ys j) → ComesFirst lateness (row_at ys i).order (row_at ys j).order
    falling i j inside below (before, tied) =
        let of-i = each i (record { order = 0; weeks = 0 }) inside in
        let of-j = each j (record { order = 0; weeks = 0 }) below in
        record {
          later = omega (arith, before, of-i.0, of-j.0, small (row_at ys i).order, small (row_at ys j).order);
          lesser = λ same. tied (omega (arith, same, of-i.0, of-j.0));
        }
