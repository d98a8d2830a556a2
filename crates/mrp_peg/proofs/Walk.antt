-- Two places that move along both rows.
use Rattle.std.proofs.Common.{◌≡◌, ◌∙◌, ℕ, zero, suc, ◌+◌, ◌≤◌, Bool, true, false, cond, List, [], ◌∷◌, ◌++◌, refl, sym, ap, arith, length, append_assoc, length-append}
use Rattle.std.specs.Prelude.{nat_lt, nat_le, map, filter}
use Rattle.std.proofs.lemmas.List.Sums.{sum_by-cons}
use Rattle.std.proofs.lemmas.List.Elements.{filter-append}
use Rattle.std.proofs.lemmas.List.{append-nil}
use Rattle.std.proofs.lemmas.Bool.{ltb-true, leb-true, leb-false}
use Rattle.mrp_peg.specs.Units.{Amount, Span, Match, spans_from, spans, total, is_positive, match_of, surplus_of, pairs, matches}

-- the positive matches of requirements whose units are numbered from a on with supplies whose units are numbered from b on
unfoldable pub walked : {A B : Type 0} → ℕ → List (Amount A) → ℕ → List (Amount B) → List (Match A B)
walked a needs b supplies = filter is_positive (pairs (spans_from a needs) (spans_from b supplies))

-- no match of no units
drop_empty : {A B : Type 0} (m : Match A B) (ms : List (Match A B)) → m.quantity ≡ 0 → filter is_positive (m ∷ ms) ≡ filter is_positive ms
drop_empty m ms none = by (nat_lt 0 m.quantity) refl
  where
    by : (b : Bool) → nat_lt 0 m.quantity ≡ b → cond b (m ∷ filter is_positive ms) (filter is_positive ms) ≡ filter is_positive ms
    by true e = absurd (omega (arith, ltb-true 0 m.quantity e))
    by false e = refl

-- a requirement that ends before a row of supplies begins takes nothing of it
past_row : {A B : Type 0} (need : Span A) (b : ℕ) (supplies : List (Amount B)) → need.past ≤ b → filter is_positive (map (match_of need) (spans_from b supplies)) ≡ []
unfolding spans_from
past_row need b [] before = refl
past_row {B = B} need b (s ∷ supplies) before =
    let here : Span B = record { of = s.of; first = b; past = b + s.quantity } in
    drop_empty (match_of need here) (map (match_of need) (spans_from (b + s.quantity) supplies)) (omega arith) ∙ past_row need (b + s.quantity) supplies (omega arith)

-- a supply that ends before a row of requirements begins gives it nothing
past_column : {A B : Type 0} (supply : Span B) (rest : List (Span B)) (a : ℕ) (needs : List (Amount A)) → supply.past ≤ a
    → filter is_positive (pairs (spans_from a needs) (supply ∷ rest)) ≡ filter is_positive (pairs (spans_from a needs) rest)
unfolding spans_from pairs
past_column supply rest a [] before = refl
past_column {A} supply rest a (n ∷ needs) before =
    let one : Span A = record { of = n.of; first = a; past = a + n.quantity } in
    let row = map (match_of one) rest in
    let more = spans_from (a + n.quantity) needs in
    drop_empty (match_of one supply) (row ++ pairs more (supply ∷ rest)) (omega arith)
    ∙ filter-append is_positive row (pairs more (supply ∷ rest))
    ∙ ap (λ l. filter is_positive row ++ l) (past_column supply rest (a + n.quantity) needs (omega arith))
    ∙ sym (filter-append is_positive row (pairs more rest))

-- the requirement ends first: its match with the supply, and then the next requirement
pub walk_need : {A B : Type 0} (a : ℕ) (n : Amount A) (needs : List (Amount A)) (b : ℕ) (s : Amount B) (supplies : List (Amount B)) → a + n.quantity ≤ b + s.quantity
    → walked a (n ∷ needs) b (s ∷ supplies)
    ≡ filter is_positive (match_of (record { of = n.of; first = a; past = a + n.quantity }) (record { of = s.of; first = b; past = b + s.quantity }) ∷ []) ++ walked (a + n.quantity) needs b (s ∷ supplies)
unfolding walked spans_from pairs
walk_need {A} {B} a n needs b s supplies ends =
    let one : Span A = record { of = n.of; first = a; past = a + n.quantity } in
    let two : Span B = record { of = s.of; first = b; past = b + s.quantity } in
    let row = map (match_of one) (spans_from (b + s.quantity) supplies) in
    let more = pairs (spans_from (a + n.quantity) needs) (two ∷ spans_from (b + s.quantity) supplies) in
    filter-append is_positive (match_of one two ∷ row) more
    ∙ ap (λ l. l ++ filter is_positive more) (filter-append is_positive (match_of one two ∷ []) row ∙ ap (λ l. filter is_positive (match_of one two ∷ []) ++ l) (past_row one (b + s.quantity) supplies (omega arith)) ∙ append-nil (filter is_positive (match_of one two ∷ [])))

-- the supply ends first: its match with the requirement, and then the next supply
pub walk_supply : {A B : Type 0} (a : ℕ) (n : Amount A) (needs : List (Amount A)) (b : ℕ) (s : Amount B) (supplies : List (Amount B)) → b + s.quantity ≤ a + n.quantity
    → walked a (n ∷ needs) b (s ∷ supplies)
    ≡ filter is_positive (match_of (record { of = n.of; first = a; past = a + n.quantity }) (record { of = s.of; first = b; past = b + s.quantity }) ∷ []) ++ walked a (n ∷ needs) (b + s.quantity) supplies
unfolding walked spans_from pairs
walk_supply {A} {B} a n needs b s supplies ends =
    let one : Span A = record { of = n.of; first = a; past = a + n.quantity } in
    let two : Span B = record { of = s.of; first = b; past = b + s.quantity } in
    let rest = spans_from (b + s.quantity) supplies in
    let row = map (match_of one) rest in
    let more = spans_from (a + n.quantity) needs in
    let first = filter is_positive (match_of one two ∷ []) in
    filter-append is_positive (match_of one two ∷ row) (pairs more (two ∷ rest))
    ∙ ap (λ l. l ++ filter is_positive (pairs more (two ∷ rest))) (filter-append is_positive (match_of one two ∷ []) row)
    ∙ ap (λ l. (first ++ filter is_positive row) ++ l) (past_column two rest (a + n.quantity) needs (omega arith))
    ∙ append_assoc first (filter is_positive row) (filter is_positive (pairs more rest))
    ∙ ap (λ l. first ++ l) (sym (filter-append is_positive row (pairs more rest)))

-- a supply whose units are all required has no surplus
pub no_surplus : {A B : Type 0} (required : ℕ) (supply : Span B) (rest : List (Span B)) → supply.past ≤ required
    → filter (is_positive {A = A}) (map (surplus_of required) (supply ∷ rest)) ≡ filter is_positive (map (surplus_of required) rest)
no_surplus required supply rest within = drop_empty (surplus_of required supply) (map (surplus_of required) rest) (omega arith)

one_at_most : {X : Type 0} (test : X → Bool) (x : X) → length (filter test (x ∷ [])) ≤ 1
one_at_most {X} test x = by (test x)
  where
    by : (b : Bool) → length (cond b (x ∷ []) []) ≤ 1
    by true = omega arith
    by false = omega arith

no_more : (A : Type 0) {B : Type 0} (required b : ℕ) (supplies : List (Amount B)) → length (filter (is_positive {A = A}) (map (surplus_of required) (spans_from b supplies))) ≤ length supplies
unfolding spans_from
no_more A required b [] = omega arith
no_more A {B} required b (s ∷ supplies) =
    let two : Span B = record { of = s.of; first = b; past = b + s.quantity } in
    let rest : List (Match A B) = map (surplus_of required) (spans_from (b + s.quantity) supplies) in
    let e = filter-append is_positive (surplus_of required two ∷ []) rest in
    omega (arith, ap length e, length-append (filter is_positive (surplus_of {A = A} required two ∷ [])) (filter is_positive rest), one_at_most is_positive (surplus_of {A = A} required two), no_more A required (b + s.quantity) supplies)

pub no_pairs : {A B : Type 0} (needs : List (Span A)) → pairs {B = B} needs [] ≡ []
unfolding pairs
no_pairs [] = refl
no_pairs (n ∷ needs) = no_pairs needs

abbrev Few : {A B : Type 0} → ℕ → List (Amount A) → ℕ → List (Amount B) → ℕ → Type 0
Few {A} a needs b supplies required =
    length (walked a needs b supplies) + length (filter (is_positive {A = A}) (map (surplus_of required) (spans_from b supplies))) ≤ length needs + length supplies

few_need : {A B : Type 0} (a : ℕ) (n : Amount A) (needs : List (Amount A)) (b : ℕ) (s : Amount B) (supplies : List (Amount B)) (required : ℕ)
    → a + n.quantity ≤ b + s.quantity → Few (a + n.quantity) needs b (s ∷ supplies) required → Few a (n ∷ needs) b (s ∷ supplies) required
few_need {A} {B} a n needs b s supplies required le rest =
    let first = match_of (record { of = n.of; first = a; past = a + n.quantity }) (record { of = s.of; first = b; past = b + s.quantity }) in
    omega (arith, rest, ap length (walk_need a n needs b s supplies le), length-append (filter is_positive (first ∷ [])) (walked (a + n.quantity) needs b (s ∷ supplies)), one_at_most is_positive first)

few_supply : {A B : Type 0} (a : ℕ) (n : Amount A) (needs : List (Amount A)) (b : ℕ) (s : Amount B) (supplies : List (Amount B)) (required : ℕ)
    → b + s.quantity ≤ a + n.quantity → b + s.quantity ≤ required → Few a (n ∷ needs) (b + s.quantity) supplies required → Few a (n ∷ needs) b (s ∷ supplies) required
unfolding spans_from
few_supply {A} {B} a n needs b s supplies required le within rest =
    let two : Span B = record { of = s.of; first = b; past = b + s.quantity } in
    let first = match_of (record { of = n.of; first = a; past = a + n.quantity }) two in
    omega (
      arith,
      rest,
      ap length (walk_supply a n needs b s supplies le),
      length-append (filter is_positive (first ∷ [])) (walked a (n ∷ needs) (b + s.quantity) supplies),
      one_at_most is_positive first,
      ap length (no_surplus {A = A} required two (spans_from (b + s.quantity) supplies) within),
    )

-- there are no more matches than requirements and supplies
few_from : {A B : Type 0} (fuel a : ℕ) (needs : List (Amount A)) (b : ℕ) (supplies : List (Amount B)) (required : ℕ) → length needs + length supplies ≤ fuel → a + total needs ≡ required
    → Few a needs b supplies required
unfolding walked pairs spans_from
few_from {A} fuel a [] b supplies required enough is = omega (arith, no_more A required b supplies)
few_from {B = B} fuel a (n ∷ needs) b [] required enough is = rw (no_pairs {B = B} (spans_from a (n ∷ needs))) (omega arith)
few_from zero a (n ∷ needs) b (s ∷ supplies) required enough is = absurd (omega arith)
few_from {A} {B} (suc fuel) a (n ∷ needs) b (s ∷ supplies) required enough is =
    let whole : total (n ∷ needs) ≡ n.quantity + total needs = sum_by-cons (λ (x : Amount A). x.quantity) n needs in
    by (nat_le (a + n.quantity) (b + s.quantity)) refl
    (λ le. few_need a n needs b s supplies required le (few_from fuel (a + n.quantity) needs b (s ∷ supplies) required (omega arith) (omega arith)))
    (λ le. few_supply a n needs b s supplies required le (omega arith) (few_from fuel a (n ∷ needs) (b + s.quantity) supplies required (omega arith) is))
  where
    by : (t : Bool) → nat_le (a + n.quantity) (b + s.quantity) ≡ t
        → (a + n.quantity ≤ b + s.quantity → Few a (n ∷ needs) b (s ∷ supplies) required)
        → (b + s.quantity ≤ a + n.quantity → Few a (n ∷ needs) b (s ∷ supplies) required)
        → Few a (n ∷ needs) b (s ∷ supplies) required
    by true e first second = first (leb-true (a + n.quantity) (b + s.quantity) e)
    by false e first second = second (omega (arith, leb-false (a + n.quantity) (b + s.quantity) e))

pub few : {A B : Type 0} (needs : List (Amount A)) (supplies : List (Amount B)) → length (matches needs supplies) ≤ length needs + length supplies
unfolding matches walked
few {A} {B} needs supplies =
    let all = pairs (spans needs) (spans supplies) in
    let rest : List (Match A B) = map (surplus_of (total needs)) (spans supplies) in
    let split = ap length (filter-append is_positive all rest) in
    omega (arith, split, length-append (filter is_positive all) (filter is_positive rest), few_from (length needs + length supplies) 0 needs 0 supplies (total needs) (omega arith) (omega arith))
