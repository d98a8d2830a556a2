-- What is left to match, from two units on.
use Rattle.std.proofs.Common.{◌≡◌, ◌∙◌, ℕ, ◌+◌, ◌≤◌, List, [], ◌∷◌, ◌++◌, refl, sym, ap, append_assoc, Bool, true, false, cond}
use Rattle.std.specs.Prelude.{map, filter, nat_lt}
use Rattle.std.proofs.lemmas.List.Elements.{filter-append}
use Rattle.mrp_peg.specs.Units.{Amount, Span, Match, spans_from, spans, total, is_positive, match_of, surplus_of, pairs, matches}
use Rattle.mrp_peg.proofs.Walk.{walked, walk_need, walk_supply, no_surplus, no_pairs}

unfoldable pub rest_of : {A B : Type 0} → ℕ → List (Amount A) → ℕ → List (Amount B) → ℕ → List (Match A B)
rest_of a needs b supplies required = walked a needs b supplies ++ filter is_positive (map (surplus_of required) (spans_from b supplies))

abbrev pub span : {A : Type 0} → ℕ → Amount A → Span A
span n a = record { of = a.of; first = n; past = n + a.quantity }

pub all_left : {A B : Type 0} (needs : List (Amount A)) (supplies : List (Amount B)) → rest_of 0 needs 0 supplies (total needs) ≡ matches needs supplies
unfolding rest_of walked matches
all_left needs supplies = sym (filter-append is_positive (pairs (spans needs) (spans supplies)) (map (surplus_of (total needs)) (spans supplies)))

pub need_ends : {A B : Type 0} (a : ℕ) (n : Amount A) (needs : List (Amount A)) (b : ℕ) (s : Amount B) (supplies : List (Amount B)) (required : ℕ) → a + n.quantity ≤ b + s.quantity
    → rest_of a (n ∷ needs) b (s ∷ supplies) required ≡ filter is_positive (match_of (span a n) (span b s) ∷ []) ++ rest_of (a + n.quantity) needs b (s ∷ supplies) required
unfolding rest_of
need_ends a n needs b s supplies required le =
    let over = filter is_positive (map (surplus_of required) (spans_from b (s ∷ supplies))) in
    ap (λ l. l ++ over) (walk_need a n needs b s supplies le) ∙ append_assoc (filter is_positive (match_of (span a n) (span b s) ∷ [])) (walked (a + n.quantity) needs b (s ∷ supplies)) over

pub supply_ends : {A B : Type 0} (a : ℕ) (n : Amount A) (needs : List (Amount A)) (b : ℕ) (s : Amount B) (supplies : List (Amount B)) (required : ℕ) → b + s.quantity ≤ a + n.quantity → b + s.quantity ≤ required
    → rest_of a (n ∷ needs) b (s ∷ supplies) required ≡ filter is_positive (match_of (span a n) (span b s) ∷ []) ++ rest_of a (n ∷ needs) (b + s.quantity) supplies required
unfolding rest_of spans_from
supply_ends {A} {B} a n needs b s supplies required le within =
    let over = filter is_positive (map (surplus_of required) (spans_from (b + s.quantity) supplies)) in
    ap (λ l. walked a (n ∷ needs) b (s ∷ supplies) ++ l) (no_surplus {A = A} required (span b s) (spans_from (b + s.quantity) supplies) within)
    ∙ ap (λ l. l ++ over) (walk_supply a n needs b s supplies le) ∙ append_assoc (filter is_positive (match_of (span a n) (span b s) ∷ [])) (walked a (n ∷ needs) (b + s.quantity) supplies) over

pub surplus_left : {A B : Type 0} (a b : ℕ) (s : Amount B) (supplies : List (Amount B)) (required : ℕ)
    → rest_of {A = A} a [] b (s ∷ supplies) required ≡ filter is_positive (surplus_of required (span b s) ∷ []) ++ rest_of a [] (b + s.quantity) supplies required
unfolding rest_of walked pairs spans_from
surplus_left a b s supplies required = filter-append is_positive (surplus_of required (span b s) ∷ []) (map (surplus_of required) (spans_from (b + s.quantity) supplies))

pub none_left : {A B : Type 0} (a : ℕ) (needs : List (Amount A)) (b required : ℕ) → rest_of {B = B} a needs b [] required ≡ []
unfolding rest_of walked spans_from
none_left {A} {B} a needs b required = ap (λ l. filter is_positive l ++ []) (no_pairs {B = B} (spans_from a needs))

-- one match more, if it has units
pub one_more : {A B C : Type 0} (f : Match A B → C) (m : Match A B) → map f (filter is_positive (m ∷ [])) ≡ cond (nat_lt 0 m.quantity) (f m ∷ []) []
one_more f m = by (nat_lt 0 m.quantity)
  where
    by : (b : Bool) → map f (cond b (m ∷ []) []) ≡ cond b (f m ∷ []) []
    by true = refl
    by false = refl
