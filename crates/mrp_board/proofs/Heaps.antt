-- Items in a heap that has the least item on top.
use Rattle.std.proofs.Common.{◌≡◌, ◌≢◌, ◌<◌, ◌≤◌, ◌+◌, ℕ, zero, suc, false, inl, inr, List, [], ◌∷◌, length, get_or, refl, sym, ap, subst, arith}
use Rattle.std.proofs.lemmas.Bool.{cases_eq, cases_lt}
use Rattle.std.proofs.lemmas.List.Elements.{All-head}
use Rattle.std.proofs.lemmas.List.FromFn.{length-range_with_len}
use Rattle.std.proofs.lemmas.List.Sorted.{le_from_greatest}
use Rattle.std.proofs.lemmas.List.Sums.{sum_by-cons}
use Rattle.std.specs.Prelude.{sum_by}
use Rattle.std.specs.BinaryHeap.{IsUpperBound}
use Rattle.std.specs.declared.cmp.Reverse.{Reverse}
use Rattle.std.specs.List.{range_with_len}
use Rattle.std.specs.Ordering.{is_lt, nat_cmp}
use Rattle.mrp_board.specs.Queue.{in_heap, one_at, one_if}
use Rattle.mrp_board.proofs.Tests.{other-number, same-number}

pub one-here : (item i : ℕ) → i ≡ item → one_at item i ≡ 1
one-here item i same = ap one_if (same-number i item same)

pub one-there : (item i : ℕ) → i ≢ item → one_at item i ≡ 0
one-there item i other = ap one_if (other-number i item other)

pub heap-cons : (item : ℕ) (x : Reverse ℕ) (due : List (Reverse ℕ)) → in_heap item (x ∷ due) ≡ one_at item x.0 + in_heap item due
heap-cons item x due = sum_by-cons (λ (r : Reverse ℕ). one_at item r.0) x due

no-less : (a b : ℕ) → is_lt (nat_cmp a b) ≡ false → b ≤ a
no-less a b is = All-head (λ z. z ≤ a) b [] (le_from_greatest a (b ∷ []) (is, tt))

-- what is on top is the least
pub none-below : (x : Reverse ℕ) (item : ℕ) (due : List (Reverse ℕ)) → IsUpperBound (λ a b. nat_cmp b.0 a.0) x due → item < x.0 → in_heap item due ≡ 0
none-below x item [] least low = refl
none-below x item (y ∷ due) least low =
    let le : x.0 ≤ y.0 = no-less y.0 x.0 least.0 in
    omega (arith, heap-cons item y due, one-there item y.0 (λ (e : y.0 ≡ item). absurd (omega (arith, e, le, low))), none-below x item due least.1 low)

-- and is in the heap
pub top-in : (x : Reverse ℕ) (due : List (Reverse ℕ)) → 0 < length due → x ≡ get_or due 0 x → 1 ≤ in_heap x.0 due
top-in x [] some is = absurd (omega (arith, some))
top-in x (y ∷ due) some is = omega (arith, heap-cons x.0 y due, one-here x.0 y.0 (sym (ap (λ (r : Reverse ℕ). r.0) is)))

-- A heap that has each of the first items at most once has no more of them than there are.

sum-both : (f g h : ℕ → ℕ) (xs : List ℕ) → ((n : ℕ) → f n ≡ g n + h n) → sum_by f xs ≡ sum_by g xs + sum_by h xs
sum-both f g h [] same = refl
sum-both f g h (x ∷ xs) same = omega (arith, sum_by-cons f x xs, sum_by-cons g x xs, sum_by-cons h x xs, same x, sum-both f g h xs same)

sum-none : (xs : List ℕ) → sum_by (λ (n : ℕ). 0) xs ≡ 0
sum-none [] = refl
sum-none (x ∷ xs) = omega (arith, sum_by-cons (λ (n : ℕ). 0) x xs, sum-none xs)

none-after : (i first count : ℕ) → i < first → sum_by (λ (n : ℕ). one_at n i) (range_with_len first count) ≡ 0
none-after i first zero below = refl
none-after i first (suc more) below =
    omega (
      arith,
      sum_by-cons (λ (n : ℕ). one_at n i) first (range_with_len (first + 1) more),
      one-there first i (λ (e : i ≡ first). absurd (omega (arith, e, below))),
      none-after i (first + 1) more (omega (arith, below)),
    )

one-among : (i first count : ℕ) → first ≤ i → i < first + count → sum_by (λ (n : ℕ). one_at n i) (range_with_len first count) ≡ 1
one-among i first zero low high = absurd (omega (arith, low, high))
one-among i first (suc more) low high = elim (cases_eq i first) [
  | inl here ↦
      omega (arith, sum_by-cons (λ (n : ℕ). one_at n i) first (range_with_len (first + 1) more), one-here first i here, none-after i (first + 1) more (omega (arith, here)))
  | inr other ↦
      omega (
        arith,
        sum_by-cons (λ (n : ℕ). one_at n i) first (range_with_len (first + 1) more),
        one-there first i other,
        one-among i (first + 1) more (omega (arith, low, other)) (omega (arith, high)),
      )
]

all-counted : (n : ℕ) (due : List (Reverse ℕ)) → ((item : ℕ) → n ≤ item → in_heap item due ≡ 0) → sum_by (λ (item : ℕ). in_heap item due) (range_with_len 0 n) ≡ length due
all-counted n [] past = sum-none (range_with_len 0 n)
all-counted n (x ∷ due) past =
    omega (
      arith,
      sum-both (λ (item : ℕ). in_heap item (x ∷ due)) (λ (item : ℕ). one_at item x.0) (λ (item : ℕ). in_heap item due) (range_with_len 0 n) (λ item. heap-cons item x due),
      one-among x.0 0 n (omega arith) within,
      all-counted n due (λ item h. omega (arith, heap-cons item x due, past item h)),
    )
  where
    within : x.0 < 0 + n
    within = elim (cases_lt x.0 n) [
      | inl low ↦ omega (arith, low)
      | inr high ↦ absurd (omega (arith, heap-cons x.0 x due, one-here x.0 x.0 refl, past x.0 high))
    ]

at-most : (f : ℕ → ℕ) (xs : List ℕ) → ((n : ℕ) → f n ≤ 1) → sum_by f xs ≤ length xs
at-most f [] one = omega arith
at-most f (x ∷ xs) one = omega (arith, sum_by-cons f x xs, one x, at-most f xs one)

few : (n : ℕ) (due : List (Reverse ℕ)) → ((item : ℕ) → in_heap item due ≤ 1) → ((item : ℕ) → n ≤ item → in_heap item due ≡ 0) → length due ≤ n
few n due one past = omega (arith, all-counted n due past, at-most (λ (item : ℕ). in_heap item due) (range_with_len 0 n) one, length-range_with_len 0 n)

-- so there is room for one that it lacks
pub room-left : (n item : ℕ) (due : List (Reverse ℕ)) → ((i : ℕ) → in_heap i due ≤ 1) → ((i : ℕ) → n ≤ i → in_heap i due ≡ 0) → item < n → in_heap item due ≡ 0 → length due < n
room-left n item due one past within lacks =
    let new : Reverse ℕ = record { 0 = item } in
    let all = few n (new ∷ due) (λ i. elim (cases_eq item i) [
      | inl same ↦ omega (arith, heap-cons i new due, one-here i item same, subst (λ (j : ℕ). in_heap j due ≡ 0) same lacks)
      | inr other ↦ omega (arith, heap-cons i new due, one-there i item other, one i)
    ]) (λ i h. omega (arith, heap-cons i new due, one-there i item (λ (e : item ≡ i). absurd (omega (arith, e, within, h))), past i h)) in
    omega (arith, all)
