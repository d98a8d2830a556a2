-- Filters over mapped and joined lists.
use Rattle.std.proofs.Common.{◌≡◌, ◌∙◌, ℕ, zero, suc, ◌+◌, ◌<◌, ◌≤◌, ◌≢◌, Bool, true, false, cond, List, [], ◌∷◌, ◌++◌, refl, sym, ap, arith}
use Rattle.std.specs.Prelude.{◌==◌, filter, flat_map, map, All, sum_by}
use Rattle.std.specs.List.{range_with_len}
use Rattle.std.proofs.lemmas.Bool.{eqb-true, eqb-false, eq-eqb, ne_eqb}
use Rattle.std.proofs.lemmas.List.{map-append, append-nil}
use Rattle.std.proofs.lemmas.List.Elements.{All-append, filter-append}
use Rattle.std.proofs.lemmas.List.Sums.{sum_by-cons, sum_by-append}
use Rattle.mrp_item.proofs.ByKeys.{parts_above}
use Rattle.mrp_peg.specs.Weekly.{by_weeks, AreWithin}

pub filter-flat_map : {X Y : Type 0} (p : Y → Bool) (f : X → List Y) (xs : List X) → filter p (flat_map f xs) ≡ flat_map (λ x. filter p (f x)) xs
filter-flat_map p f [] = refl
filter-flat_map p f (x ∷ xs) = filter-append p (f x) (flat_map f xs) ∙ ap (λ l. filter p (f x) ++ l) (filter-flat_map p f xs)

pub map-flat_map : {X Y Z : Type 0} (g : Y → Z) (f : X → List Y) (xs : List X) → map g (flat_map f xs) ≡ flat_map (λ x. map g (f x)) xs
map-flat_map g f [] = refl
map-flat_map g f (x ∷ xs) = map-append g (f x) (flat_map f xs) ∙ ap (λ l. map g (f x) ++ l) (map-flat_map g f xs)

pub same_flat_map : {X Y : Type 0} (f g : X → List Y) → ((x : X) → f x ≡ g x) → (xs : List X) → flat_map f xs ≡ flat_map g xs
same_flat_map f g same [] = refl
same_flat_map f g same (x ∷ xs) = ap (λ l. l ++ flat_map f xs) (same x) ∙ ap (λ l. g x ++ l) (same_flat_map f g same xs)

-- every row is of the week
abbrev pub AreOf : {Y : Type 0} → (Y → ℕ) → ℕ → List Y → Type 0
AreOf week w rows = All (λ y. week y ≡ w) rows

all_of_week : {Y : Type 0} (week : Y → ℕ) (w : ℕ) (rows : List Y) → AreOf week w rows → filter (λ y. week y == w) rows ≡ rows
all_of_week week w [] of = refl
all_of_week week w (y ∷ rows) of =
    ap (λ t. cond t (y ∷ filter (λ x. week x == w) rows) (filter (λ x. week x == w) rows)) (eq-eqb (week y) w (of 0 y (omega arith)))
    ∙ ap (λ l. y ∷ l) (all_of_week week w rows (λ k d h. of (suc k) d (omega (arith, h))))

none_of_week : {Y : Type 0} (week : Y → ℕ) (w v : ℕ) (rows : List Y) → AreOf week v rows → v ≢ w → filter (λ y. week y == w) rows ≡ []
none_of_week week w v [] of other = refl
none_of_week week w v (y ∷ rows) of other =
    ap (λ t. cond t (y ∷ filter (λ x. week x == w) rows) (filter (λ x. week x == w) rows)) (ne_eqb (week y) w (λ e. other (sym (of 0 y (omega arith)) ∙ e)))
    ∙ none_of_week week w v rows (λ k d h. of (suc k) d (omega (arith, h))) other

past_week : {Y : Type 0} (week : Y → ℕ) (f : ℕ → List Y) → ((v : ℕ) → AreOf week v (f v)) → (w first count : ℕ) → w < first → filter (λ y. week y == w) (flat_map f (range_with_len first count)) ≡ []
past_week week f of w first zero before = refl
past_week week f of w first (suc count) before =
    filter-append (λ y. week y == w) (f first) (flat_map f (range_with_len (first + 1) count))
    ∙ ap (λ l. l ++ filter (λ y. week y == w) (flat_map f (range_with_len (first + 1) count))) (none_of_week week w first (f first) (of first) (λ e. absurd (omega (arith, before, e))))
    ∙ past_week week f of w (first + 1) count (omega (arith, before))

-- the rows of a week, of rows that are listed week by week
pub own_week : {Y : Type 0} (week : Y → ℕ) (f : ℕ → List Y) → ((v : ℕ) → AreOf week v (f v)) → (w first count : ℕ) → first ≤ w → w < first + count → filter (λ y. week y == w) (flat_map f (range_with_len first count)) ≡ f w
own_week week f of w first zero low high = absurd (omega (arith, low, high))
own_week {Y} week f of w first (suc count) low high =
    filter-append (λ y. week y == w) (f first) (flat_map f (range_with_len (first + 1) count))
    ∙ by (first == w) refl (λ other. own_week week f of w (first + 1) count (omega (arith, low, other)) (omega (arith, high)))
  where
    below : (a b : ℕ) → a ≢ b → a ≤ b → a < b
    below a b ne le = omega arith

    by : (t : Bool) → (first == w) ≡ t → (first < w → filter (λ y. week y == w) (flat_map f (range_with_len (first + 1) count)) ≡ f w)
        → filter (λ y. week y == w) (f first) ++ filter (λ y. week y == w) (flat_map f (range_with_len (first + 1) count)) ≡ f w
    by true e later =
        let same : first ≡ w = eqb-true first w e in
        let here : AreOf week w (f first) = λ k d h. of first k d h ∙ same in
        ap (λ l. l ++ filter (λ y. week y == w) (flat_map f (range_with_len (first + 1) count))) (all_of_week week w (f first) here)
        ∙ ap (λ l. f first ++ l) (past_week week f of w (first + 1) count (omega (arith, same)))
        ∙ append-nil (f first) ∙ ap f same
    by false e later =
        let other : first ≢ w = eqb-false first w e in
        ap (λ l. l ++ filter (λ y. week y == w) (flat_map f (range_with_len (first + 1) count))) (none_of_week week w first (f first) (of first) other)
        ∙ later (below first w other low)

pub sum_by-flat_map : {X Y : Type 0} (g : Y → ℕ) (f : X → List Y) (xs : List X) → sum_by g (flat_map f xs) ≡ sum_by (λ x. sum_by g (f x)) xs
sum_by-flat_map g f [] = refl
sum_by-flat_map g f (x ∷ xs) =
    sum_by-append g (f x) (flat_map f xs) ∙ ap (λ n. sum_by g (f x) + n) (sum_by-flat_map g f xs) ∙ sym (sum_by-cons (λ y. sum_by g (f y)) x xs)

pub All-flat : {X Y : Type 0} (P : Y → Type 0) (f : X → List Y) (xs : List X) → ((x : X) → All P (f x)) → All P (flat_map f xs)
All-flat P f [] all k d h = absurd (omega (arith, h))
All-flat P f (x ∷ xs) all k d h = All-append P (f x) (flat_map f xs) (all x) (All-flat P f xs all) k d h

-- every week's rows are of weeks of the range
pub All-weeks : {Y : Type 0} (P : Y → Type 0) (f : ℕ → List Y) (first count : ℕ) → ((w : ℕ) → first ≤ w → w < first + count → All P (f w)) → All P (flat_map f (range_with_len first count))
All-weeks P f first zero all k d h = absurd (omega (arith, h))
All-weeks P f first (suc count) all k d h =
    All-append P (f first) (flat_map f (range_with_len (first + 1) count)) (all first (omega arith) (omega arith))
    (All-weeks P f (first + 1) count (λ w low high. all w (omega (arith, low)) (omega (arith, high)))) k d h

-- a row more in one of the weeks
sum_more : {X : Type 0} (f : X → ℕ) (week : X → ℕ) (first count : ℕ) (x : X) (rows : List X) → first ≤ week x → week x < first + count
    → sum_by f (by_weeks week (range_with_len first count) (x ∷ rows)) ≡ f x + sum_by f (by_weeks week (range_with_len first count) rows)
sum_more f week first zero x rows low high = absurd (omega (arith, low, high))
sum_more {X} f week first (suc count) x rows low high =
    sum_by-append f (cond (week x == first) (x ∷ own) own) (rest (x ∷ rows))
    ∙ by (week x == first) refl (λ above. sum_more f week (first + 1) count x rows (omega (arith, above)) (omega (arith, high)))
    ∙ ap (λ n. f x + n) (sym (sum_by-append f own (rest rows)))
  where
    own : List X
    own = filter (λ y. week y == first) rows

    rest : List X → List X
    rest l = by_weeks week (range_with_len (first + 1) count) l

    above_other : (a b : ℕ) → a ≢ b → b ≤ a → b < a
    above_other a b ne le = omega arith

    by : (t : Bool) → (week x == first) ≡ t
        → (first < week x → sum_by f (by_weeks week (range_with_len (first + 1) count) (x ∷ rows)) ≡ f x + sum_by f (by_weeks week (range_with_len (first + 1) count) rows))
        → sum_by f (cond t (x ∷ filter (λ y. week y == first) rows) (filter (λ y. week y == first) rows)) + sum_by f (by_weeks week (range_with_len (first + 1) count) (x ∷ rows))
        ≡ f x + (sum_by f (filter (λ y. week y == first) rows) + sum_by f (by_weeks week (range_with_len (first + 1) count) rows))
    by true e later =
        let same : week x ≡ first = eqb-true (week x) first e in
        let others : by_weeks week (range_with_len (first + 1) count) (x ∷ rows) ≡ by_weeks week (range_with_len (first + 1) count) rows = parts_above week (first + 1) count x rows (omega (arith, same)) in
        omega (arith, sum_by-cons f x (filter (λ y. week y == first) rows), ap (sum_by f) others)
    by false e later = omega (arith, later (above_other (week x) first (eqb-false (week x) first e) low))

no_sum : {X : Type 0} (f : X → ℕ) (week : X → ℕ) (first count : ℕ) → sum_by f (by_weeks {X = X} week (range_with_len first count) []) ≡ 0
no_sum f week first zero = refl
no_sum f week first (suc count) = no_sum f week (first + 1) count

-- rows put in order of weeks add up to the same
pub sum_by_weeks : {X : Type 0} (f : X → ℕ) (week : X → ℕ) (first count : ℕ) (rows : List X) → AreWithin week first count rows → sum_by f (by_weeks week (range_with_len first count) rows) ≡ sum_by f rows
sum_by_weeks f week first count [] within = no_sum f week first count
sum_by_weeks {X} f week first count (x ∷ rows) within =
    sum_more f week first count x rows (within 0 x (omega arith)).0 (within 0 x (omega arith)).1
    ∙ ap (λ n. f x + n) (sum_by_weeks f week first count rows (λ k d h. within (suc k) d (omega (arith, h)))) ∙ sym (sum_by-cons f x rows)
