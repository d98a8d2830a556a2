-- What the units that requirements and supplies share add up to.
use Rattle.std.proofs.Common.{◌≡◌, ◌∙◌, ℕ, ◌+◌, ◌-◌, ◌≤◌, Bool, true, false, cond, List, [], ◌∷◌, ◌++◌, refl, sym, ap, arith, min, max}
use Rattle.std.specs.Prelude.{nat_lt, map, filter, sum_by}
use Rattle.std.proofs.lemmas.List.Sums.{sum_by-cons, sum_by-append}
use Rattle.std.proofs.lemmas.Bool.{ltb-false}
use Rattle.mrp_phase.proofs.KeptSums.{sum_by-kept}
use Rattle.mrp_peg.specs.Units.{Amount, Span, Match, spans_from, spans, total, shared, left_over, is_positive, match_of, surplus_of, pairs, matches, is_for}

-- the units that a requirement shares with a row of supplies
pub shared_row : {A B : Type 0} (need : Span A) (b : ℕ) (row : List (Amount B))
    → sum_by (shared need) (spans_from b row) ≡ min need.past (b + total row) - max need.first b
unfolding spans_from
shared_row need b [] = omega arith
shared_row {B = B} need b (a ∷ row) =
    sum_by-cons (shared need) (record { of = a.of; first = b; past = b + a.quantity }) (spans_from (b + a.quantity) row)
    ∙ omega (arith, shared_row need (b + a.quantity) row, sum_by-cons (λ (x : Amount B). x.quantity) a row)

-- the units that a supply shares with a row of requirements
pub shared_column : {A B : Type 0} (supply : Span B) (n : ℕ) (row : List (Amount A))
    → sum_by (λ need. shared need supply) (spans_from n row) ≡ min supply.past (n + total row) - max supply.first n
unfolding spans_from
shared_column supply n [] = omega arith
shared_column {A = A} supply n (a ∷ row) =
    sum_by-cons (λ need. shared need supply) (record { of = a.of; first = n; past = n + a.quantity }) (spans_from (n + a.quantity) row)
    ∙ omega (arith, shared_column supply (n + a.quantity) row, sum_by-cons (λ (x : Amount A). x.quantity) a row)

-- a list's sum is that of its positive matches
pub positive_ones : {A B : Type 0} (f : Match A B → ℕ) → ((m : Match A B) → m.quantity ≡ 0 → f m ≡ 0) → (ms : List (Match A B)) → sum_by f (filter is_positive ms) ≡ sum_by f ms
positive_ones f none [] = refl
positive_ones f none (m ∷ ms) = by (nat_lt 0 m.quantity) refl (positive_ones f none ms) ∙ sym (sum_by-cons f m ms)
  where
    by : (b : Bool) → nat_lt 0 m.quantity ≡ b → sum_by f (filter is_positive ms) ≡ sum_by f ms → sum_by f (cond b (m ∷ filter is_positive ms) (filter is_positive ms)) ≡ f m + sum_by f ms
    by true e rest = sum_by-cons f m (filter is_positive ms) ∙ ap (λ n. f m + n) rest
    by false e rest =
        let zero_units : m.quantity ≡ 0 = omega (arith, ltb-false 0 m.quantity e) in
        omega (arith, none m zero_units, rest)

pub sum_by-add : {X : Type 0} (f g : X → ℕ) (xs : List X) → sum_by (λ x. f x + g x) xs ≡ sum_by f xs + sum_by g xs
sum_by-add f g [] = refl
sum_by-add f g (x ∷ xs) =
    sum_by-cons (λ y. f y + g y) x xs ∙ omega (arith, sum_by-add f g xs, sum_by-cons f x xs, sum_by-cons g x xs)

pub sum_by-none : {X : Type 0} (xs : List X) → sum_by (λ x. 0) xs ≡ 0
sum_by-none [] = refl
sum_by-none {X} (x ∷ xs) = omega (arith, sum_by-cons (λ (y : X). 0) x xs, sum_by-none xs)

-- a table's sum by rows is its sum by columns
pub sum_by-swap : {X Y : Type 0} (f : X → Y → ℕ) (xs : List X) (ys : List Y) → sum_by (λ x. sum_by (f x) ys) xs ≡ sum_by (λ y. sum_by (λ x. f x y) xs) ys
sum_by-swap f xs [] = sum_by-none xs
sum_by-swap f xs (y ∷ ys) =
    simp sum_by-cons (sum_by-add (λ x. f x y) (λ x. sum_by (f x) ys) xs ∙ ap (λ n. sum_by (λ x. f x y) xs + n) (sum_by-swap f xs ys))

pub sum_by-map : {X Y : Type 0} (f : Y → ℕ) (g : X → Y) (xs : List X) → sum_by f (map g xs) ≡ sum_by (λ x. f (g x)) xs
sum_by-map f g [] = refl
sum_by-map f g (x ∷ xs) = sum_by-cons f (g x) (map g xs) ∙ ap (λ n. f (g x) + n) (sum_by-map f g xs) ∙ sym (sum_by-cons (λ y. f (g y)) x xs)

pub sum_by-pairs : {A B : Type 0} (f : Match A B → ℕ) (needs : List (Span A)) (supplies : List (Span B))
    → sum_by f (pairs needs supplies) ≡ sum_by (λ need. sum_by (λ supply. f (match_of need supply)) supplies) needs
unfolding pairs
sum_by-pairs f [] supplies = refl
sum_by-pairs f (n ∷ needs) supplies =
    sum_by-append f (map (match_of n) supplies) (pairs needs supplies)
    ∙ ap (λ k. k + sum_by f (pairs needs supplies)) (sum_by-map f (match_of n) supplies)
    ∙ ap (λ k. sum_by (λ supply. f (match_of n supply)) supplies + k) (sum_by-pairs f needs supplies)
    ∙ sym (sum_by-cons (λ need. sum_by (λ supply. f (match_of need supply)) supplies) n needs)

-- what the matches of all pairs and the surplus add up to, under any weight that an empty match does not have
pub weights : {A B : Type 0} (f : Match A B → ℕ) → ((m : Match A B) → m.quantity ≡ 0 → f m ≡ 0) → (needs : List (Amount A)) (supplies : List (Amount B))
    → sum_by f (matches needs supplies)
    ≡ sum_by (λ need. sum_by (λ supply. f (match_of need supply)) (spans supplies)) (spans needs) + sum_by (λ supply. f (surplus_of (total needs) supply)) (spans supplies)
unfolding matches
weights f none needs supplies =
    let all = pairs (spans needs) (spans supplies) in
    let rest = map (surplus_of (total needs)) (spans supplies) in
    positive_ones f none (all ++ rest) ∙ sum_by-append f all rest
    ∙ ap (λ n. n + sum_by f rest) (sum_by-pairs f (spans needs) (spans supplies))
    ∙ ap (λ n. sum_by (λ need. sum_by (λ supply. f (match_of need supply)) (spans supplies)) (spans needs) + n) (sum_by-map f (surplus_of (total needs)) (spans supplies))

pub sum_by-agree : {X : Type 0} (f g : X → ℕ) → ((x : X) → f x ≡ g x) → (xs : List X) → sum_by f xs ≡ sum_by g xs
sum_by-agree f g same [] = refl
sum_by-agree f g same (x ∷ xs) = omega (arith, sum_by-cons f x xs, sum_by-cons g x xs, same x, sum_by-agree f g same xs)

pub sum_by-cond : {X : Type 0} (b : Bool) (f : X → ℕ) (xs : List X) → sum_by (λ x. cond b (f x) 0) xs ≡ cond b (sum_by f xs) 0
sum_by-cond true f xs = refl
sum_by-cond false f xs = sum_by-none xs

-- nothing is nothing, whether it counts or not
pub zero_cond : (b : Bool) (q : ℕ) → q ≡ 0 → cond b q 0 ≡ 0
zero_cond true q e = e
zero_cond false q e = refl

-- the lengths of the spans that pass are the quantities that pass
span_lengths : {A : Type 0} (test : A → Bool) (n : ℕ) (row : List (Amount A))
    → sum_by (λ s. cond (test s.of) (s.past - s.first) 0) (spans_from n row) ≡ sum_by (λ a. cond (test a.of) a.quantity 0) row
unfolding spans_from
span_lengths test n [] = refl
span_lengths {A} test n (a ∷ row) =
    let one : Span A = record { of = a.of; first = n; past = n + a.quantity } in
    let here : cond (test a.of) (n + a.quantity - n) 0 ≡ cond (test a.of) a.quantity 0 = let e : n + a.quantity - n ≡ a.quantity = omega arith in ap (λ q. cond (test a.of) q 0) e in
    sum_by-cons (λ (s : Span A). cond (test s.of) (s.past - s.first) 0) one (spans_from (n + a.quantity) row)
    ∙ ap (λ k. k + sum_by (λ s. cond (test s.of) (s.past - s.first) 0) (spans_from (n + a.quantity) row)) here
    ∙ ap (λ k. cond (test a.of) a.quantity 0 + k) (span_lengths test (n + a.quantity) row)
    ∙ sym (sum_by-cons (λ (x : Amount A). cond (test x.of) x.quantity 0) a row)

-- what a supply gives, and its surplus
whole_supply : {A B : Type 0} (test : B → Bool) (needs : List (Amount A)) (supply : Span B)
    → sum_by (λ need. cond (test supply.of) (shared need supply) 0) (spans needs) + cond (test supply.of) (left_over (total needs) supply) 0
    ≡ cond (test supply.of) (supply.past - supply.first) 0
whole_supply test needs supply =
    ap (λ n. n + cond (test supply.of) (left_over (total needs) supply) 0) (sum_by-cond (test supply.of) (λ need. shared need supply) (spans needs))
    ∙ by (test supply.of)
  where
    by : (b : Bool) → cond b (sum_by (λ need. shared need supply) (spans needs)) 0 + cond b (left_over (total needs) supply) 0 ≡ cond b (supply.past - supply.first) 0
    by true = omega (arith, shared_column supply 0 needs)
    by false = refl

-- the matches of the supplies that pass, surplus and all, have exactly their units
pub supplied : {A B : Type 0} (test : B → Bool) (needs : List (Amount A)) (supplies : List (Amount B))
    → sum_by (λ m. m.quantity) (filter (λ m. test m.supply) (matches needs supplies)) ≡ sum_by (λ a. a.quantity) (filter (λ a. test a.of) supplies)
supplied {A} {B} test needs supplies =
    let f : Match A B → ℕ = λ m. cond (test m.supply) m.quantity 0 in
    sum_by-kept (λ (m : Match A B). test m.supply) (λ m. m.quantity) (matches needs supplies)
    ∙ weights f (λ m e. zero_cond (test m.supply) m.quantity e) needs supplies
    ∙ ap (λ n. n + sum_by (λ supply. f (surplus_of (total needs) supply)) (spans supplies)) (sum_by-swap (λ need supply. f (match_of need supply)) (spans needs) (spans supplies))
    ∙ sym (sum_by-add (λ supply. sum_by (λ need. f (match_of need supply)) (spans needs)) (λ supply. f (surplus_of (total needs) supply)) (spans supplies))
    ∙ sum_by-agree (λ supply. sum_by (λ need. f (match_of need supply)) (spans needs) + f (surplus_of (total needs) supply)) (λ supply. cond (test supply.of) (supply.past - supply.first) 0) (whole_supply test needs) (spans supplies)
    ∙ span_lengths test 0 supplies
    ∙ sym (sum_by-kept (λ (a : Amount B). test a.of) (λ a. a.quantity) supplies)

-- the matches of the requirements that pass have exactly their units that are supplied
pub required : {A B : Type 0} (test : A → Bool) (needs : List (Amount A)) (supplies : List (Amount B))
    → sum_by (λ m. m.quantity) (filter (λ m. is_for test m.need) (matches needs supplies))
    ≡ sum_by (λ n. min n.past (total supplies) - n.first) (filter (λ n. test n.of) (spans needs))
required {A} {B} test needs supplies =
    let f : Match A B → ℕ = λ m. cond (is_for test m.need) m.quantity 0 in
    sum_by-kept (λ (m : Match A B). is_for test m.need) (λ m. m.quantity) (matches needs supplies)
    ∙ weights f (λ m e. zero_cond (is_for test m.need) m.quantity e) needs supplies
    ∙ ap (λ n. sum_by (λ need. sum_by (λ supply. f (match_of need supply)) (spans supplies)) (spans needs) + n) (sum_by-none (spans supplies))
    ∙ plain (sum_by (λ need. sum_by (λ supply. f (match_of need supply)) (spans supplies)) (spans needs))
    ∙ sum_by-agree (λ need. sum_by (λ supply. f (match_of need supply)) (spans supplies)) (λ need. cond (test need.of) (min need.past (total supplies) - need.first) 0) one (spans needs)
    ∙ sym (sum_by-kept (λ (n : Span A). test n.of) (λ n. min n.past (total supplies) - n.first) (spans needs))
  where
    plain : (n : ℕ) → n + 0 ≡ n
    plain n = omega arith

    same : (need : Span A) (b : Bool) → cond b (sum_by (shared need) (spans supplies)) 0 ≡ cond b (min need.past (total supplies) - need.first) 0
    same need true = omega (arith, shared_row need 0 supplies)
    same need false = refl

    one : (need : Span A) → sum_by (λ supply. cond (test need.of) (shared need supply) 0) (spans supplies) ≡ cond (test need.of) (min need.past (total supplies) - need.first) 0
    one need = sum_by-cond (test need.of) (shared need) (spans supplies) ∙ same need (test need.of)

supplied_units : {A : Type 0} (test : A → Bool) (most n : ℕ) (row : List (Amount A)) → n + total row ≤ most
    → sum_by (λ s. cond (test s.of) (min s.past most - s.first) 0) (spans_from n row) ≡ sum_by (λ a. cond (test a.of) a.quantity 0) row
unfolding spans_from
supplied_units test most n [] within = refl
supplied_units {A} test most n (a ∷ row) within =
    let one : Span A = record { of = a.of; first = n; past = n + a.quantity } in
    let whole : total (a ∷ row) ≡ a.quantity + total row = sum_by-cons (λ (x : Amount A). x.quantity) a row in
    let here : cond (test a.of) (min (n + a.quantity) most - n) 0 ≡ cond (test a.of) a.quantity 0 = let e : min (n + a.quantity) most - n ≡ a.quantity = omega arith in ap (λ q. cond (test a.of) q 0) e in
    sum_by-cons (λ (s : Span A). cond (test s.of) (min s.past most - s.first) 0) one (spans_from (n + a.quantity) row)
    ∙ ap (λ k. k + sum_by (λ s. cond (test s.of) (min s.past most - s.first) 0) (spans_from (n + a.quantity) row)) here
    ∙ ap (λ k. cond (test a.of) a.quantity 0 + k) (supplied_units test most (n + a.quantity) row (omega arith))
    ∙ sym (sum_by-cons (λ (x : Amount A). cond (test x.of) x.quantity 0) a row)

-- if as much is supplied as is required, they have exactly their units
pub covered : {A B : Type 0} (test : A → Bool) (needs : List (Amount A)) (supplies : List (Amount B)) → total needs ≤ total supplies
    → sum_by (λ m. m.quantity) (filter (λ m. is_for test m.need) (matches needs supplies)) ≡ sum_by (λ a. a.quantity) (filter (λ a. test a.of) needs)
covered {A} {B} test needs supplies enough =
    required test needs supplies
    ∙ sum_by-kept (λ (n : Span A). test n.of) (λ n. min n.past (total supplies) - n.first) (spans needs)
    ∙ supplied_units test (total supplies) 0 needs (omega arith)
    ∙ sym (sum_by-kept (λ (a : Amount A). test a.of) (λ a. a.quantity) needs)
