-- What is left to match after a match: the matches of rows that are cut.
use Rattle.std.proofs.Common.{◌≡◌, ◌∙◌, ℕ, suc, ◌+◌, ◌-◌, ◌<◌, ◌≤◌, min, max, inl, inr, Bool, true, false, cond, List, [], ◌∷◌, ◌++◌, refl, sym, ap, arith, length, drop, map, Option, Some, None, length-append}
use Rattle.std.specs.Prelude.{filter, nat_lt, slice_get}
use Rattle.std.proofs.lemmas.Bool.{cases_lt, le-ltb, ltb-false}
use Rattle.std.proofs.lemmas.List.{map-append}
use Rattle.std.proofs.lemmas.List.Sums.{sum_by-cons}
use Rattle.mrp_item.specs.declared.supplies.Supplied.{Supplied}
use Rattle.mrp_peg.specs.declared.peg.Need.{Need}
use Rattle.mrp_peg.specs.Left.{pegs_between, served, shown}
use Rattle.mrp_peg.specs.Matching.{peg_of}
use Rattle.mrp_peg.specs.Units.{Amount, Match, Span, is_positive, match_of, matches, pairs, spans_from, surplus_of, total}
use Rattle.mrp_peg.proofs.Walk.{walked}
use Rattle.mrp_peg.proofs.Rest.{all_left, need_ends, none_left, one_more, rest_of, span, supply_ends, surplus_left}

-- the same span, further on by k units; units before k do not count
record IsMoved {A : Type 0} (k : ℕ) (x y : Span A) : Type 0 where
  pub same : x.of ≡ y.of
  pub past : y.past ≡ x.past + k
  pub first : max y.first k ≡ x.first + k

moved_row : {A B : Type 0} (k : ℕ) (x y : Span A) → IsMoved k x y → (n m : ℕ) → m ≡ n + k → (row : List (Amount B)) → map (match_of x) (spans_from n row) ≡ map (match_of y) (spans_from m row)
unfolding spans_from
moved_row k x y is n m e [] = refl
moved_row {B = B} k x y is n m e (s ∷ row) =
    let units : min x.past (n + s.quantity) - max x.first n ≡ min y.past (m + s.quantity) - max y.first m = omega (arith, is.past, is.first, e) in
    let rest = moved_row k x y is (n + s.quantity) (m + s.quantity) (omega (arith, e)) row in
    λ j. record { need = Some (is.same j); supply = s.of; quantity = units j } ∷ rest j

moved_span : {A : Type 0} (k n m : ℕ) (a : Amount A) → m ≡ n + k → IsMoved k (span n a) (span m a)
moved_span k n m a e = record { same = refl; past = omega (arith, e); first = omega (arith, e) }

moved_pairs : {A B : Type 0} (k n m : ℕ) (needs : List (Amount A)) → m ≡ n + k → (b c : ℕ) → c ≡ b + k → (supplies : List (Amount B)) → pairs (spans_from n needs) (spans_from b supplies) ≡ pairs (spans_from m needs) (spans_from c supplies)
unfolding spans_from pairs
moved_pairs k n m [] e b c f supplies = refl
moved_pairs k n m (a ∷ needs) e b c f supplies =
    let row = moved_row k (span n a) (span m a) (moved_span k n m a e) b c f supplies in
    let rest = moved_pairs k (n + a.quantity) (m + a.quantity) needs (omega (arith, e)) b c f supplies in
    λ j. row j ++ rest j

-- the first supply is cut
cut_pairs : {A B : Type 0} (k n m : ℕ) (needs : List (Amount A)) → m ≡ n + k → (s : Amount B) (r : ℕ) → s.quantity ≡ r + k → (supplies : List (Amount B))
    → pairs (spans_from m needs) (spans_from 0 (s ∷ supplies)) ≡ pairs (spans_from n needs) (spans_from 0 (record { of = s.of; quantity = r } ∷ supplies))
unfolding spans_from pairs
cut_pairs k n m [] e s r f supplies = refl
cut_pairs k n m (a ∷ needs) e s r f supplies =
    let units : min (m + a.quantity) (0 + s.quantity) - max m 0 ≡ min (n + a.quantity) (0 + r) - max n 0 = omega (arith, e, f) in
    let row = moved_row k (span n a) (span m a) (moved_span k n m a e) (0 + r) (0 + s.quantity) (omega (arith, f)) supplies in
    let rest = cut_pairs k (n + a.quantity) (m + a.quantity) needs (omega (arith, e)) s r f supplies in
    λ j. (record { need = Some a.of; supply = s.of; quantity = units j } ∷ sym row j) ++ rest j

moved_surplus : {A B : Type 0} (k required n m : ℕ) → m ≡ n + k → (row : List (Amount B)) → map (surplus_of {A = A} (required + k)) (spans_from m row) ≡ map (surplus_of required) (spans_from n row)
unfolding spans_from
moved_surplus k required n m e [] = refl
moved_surplus {A} k required n m e (s ∷ row) =
    let units : (m + s.quantity) - max (required + k) m ≡ (n + s.quantity) - max required n = omega (arith, e) in
    let rest = moved_surplus {A = A} k required (n + s.quantity) (m + s.quantity) (omega (arith, e)) row in
    λ j. record { need = None; supply = s.of; quantity = units j } ∷ rest j

all_surplus : {A B : Type 0} (n m : ℕ) (row : List (Amount B)) → map (surplus_of {A = A} 0) (spans_from n row) ≡ map (surplus_of 0) (spans_from m row)
unfolding spans_from
all_surplus n m [] = refl
all_surplus {A} n m (s ∷ row) =
    let units : (n + s.quantity) - max 0 n ≡ (m + s.quantity) - max 0 m = omega arith in
    let rest = all_surplus {A = A} (n + s.quantity) (m + s.quantity) row in
    λ j. record { need = None; supply = s.of; quantity = units j } ∷ rest j

-- requirements after so many units more were passed, with a supply after so many were taken
cut_supply : {A B : Type 0} (k a : ℕ) (needs : List (Amount A)) (s : Amount B) (r : ℕ) (supplies : List (Amount B)) → a ≡ 0 + k → s.quantity ≡ r + k
    → rest_of a needs 0 (s ∷ supplies) (total needs + k) ≡ rest_of 0 needs 0 (record { of = s.of; quantity = r } ∷ supplies) (total needs)
unfolding rest_of walked spans_from
cut_supply {A} k a needs s r supplies e f =
    let matched = cut_pairs k 0 a needs e s r f supplies in
    let units : (0 + s.quantity) - max (total needs + k) 0 ≡ (0 + r) - max (total needs) 0 = omega (arith, f) in
    let over = moved_surplus {A = A} k (total needs) (0 + r) (0 + s.quantity) (omega (arith, f)) supplies in
    λ j. filter is_positive (matched j) ++ filter is_positive (record { need = None; supply = s.of; quantity = units j } ∷ over j)

-- and supplies after so many units more were passed, with a requirement after so many were served
cut_need : {A B : Type 0} (k b : ℕ) (n : Amount A) (r : ℕ) (needs : List (Amount A)) (supplies : List (Amount B)) → b ≡ 0 + k → n.quantity ≡ r + k
    → rest_of 0 (n ∷ needs) b supplies (r + total needs + k) ≡ rest_of 0 (record { of = n.of; quantity = r } ∷ needs) 0 supplies (r + total needs)
unfolding rest_of walked spans_from pairs
cut_need {A} k b n r needs supplies e f =
    let moved : IsMoved k (span 0 (record { of = n.of; quantity = r })) (span 0 n) = record { same = refl; past = omega (arith, f); first = omega arith } in
    let row = moved_row k (span 0 (record { of = n.of; quantity = r })) (span 0 n) moved 0 b e supplies in
    let rest = moved_pairs k (0 + r) (0 + n.quantity) needs (omega (arith, f)) 0 b e supplies in
    let over = moved_surplus {A = A} k (r + total needs) 0 b e supplies in
    λ j. filter is_positive (sym row j ++ sym rest j) ++ filter is_positive (over j)

abbrev pub one : {A B : Type 0} → Option A → B → ℕ → List (Match A B)
one need supply quantity = filter is_positive (record { need = need; supply = supply; quantity = quantity } ∷ [])

-- the requirement ends no later than the supply
pub matches_need : {A B : Type 0} (n : Amount A) (needs : List (Amount A)) (s : Amount B) (supplies : List (Amount B)) → n.quantity ≤ s.quantity
    → matches (n ∷ needs) (s ∷ supplies) ≡ one (Some n.of) s.of n.quantity ++ matches needs (record { of = s.of; quantity = s.quantity - n.quantity } ∷ supplies)
matches_need {A} n needs s supplies le =
    let required : total (n ∷ needs) ≡ total needs + n.quantity = omega (arith, sum_by-cons (λ (a : Amount A). a.quantity) n needs) in
    let units : min (0 + n.quantity) (0 + s.quantity) - max 0 0 ≡ n.quantity = omega (arith, le) in
    sym (all_left (n ∷ needs) (s ∷ supplies))
    ∙ need_ends 0 n needs 0 s supplies (total (n ∷ needs)) (omega (arith, le))
    ∙ (λ j. one (Some n.of) s.of (units j) ++ rest_of (0 + n.quantity) needs 0 (s ∷ supplies) (required j))
    ∙ ap (λ l. one (Some n.of) s.of n.quantity ++ l)
    (cut_supply n.quantity (0 + n.quantity) needs s (s.quantity - n.quantity) supplies refl (omega (arith, le)) ∙ all_left needs (record { of = s.of; quantity = s.quantity - n.quantity } ∷ supplies))

-- the supply ends no later than the requirement
matches_supply : {A B : Type 0} (n : Amount A) (needs : List (Amount A)) (s : Amount B) (supplies : List (Amount B)) → s.quantity ≤ n.quantity
    → matches (n ∷ needs) (s ∷ supplies) ≡ one (Some n.of) s.of s.quantity ++ matches (record { of = n.of; quantity = n.quantity - s.quantity } ∷ needs) supplies
matches_supply {A} n needs s supplies le =
    let r = n.quantity - s.quantity in
    let whole = sum_by-cons (λ (a : Amount A). a.quantity) n needs in
    let required : total (n ∷ needs) ≡ r + total needs + s.quantity = omega (arith, le, whole) in
    let left : r + total needs ≡ total (record { of = n.of; quantity = r } ∷ needs) = sym (sum_by-cons (λ (a : Amount A). a.quantity) (record { of = n.of; quantity = r }) needs) in
    let units : min (0 + n.quantity) (0 + s.quantity) - max 0 0 ≡ s.quantity = omega (arith, le) in
    sym (all_left (n ∷ needs) (s ∷ supplies))
    ∙ supply_ends 0 n needs 0 s supplies (total (n ∷ needs)) (omega (arith, le)) (omega (arith, le, whole))
    ∙ (λ j. one (Some n.of) s.of (units j) ++ rest_of 0 (n ∷ needs) (0 + s.quantity) supplies (required j))
    ∙ ap (λ l. one (Some n.of) s.of s.quantity ++ l)
    (cut_need s.quantity (0 + s.quantity) n r needs supplies refl (omega (arith, le))
    ∙ ap (rest_of 0 (record { of = n.of; quantity = r } ∷ needs) 0 supplies) left
    ∙ all_left (record { of = n.of; quantity = r } ∷ needs) supplies)

rest_surplus : {A B : Type 0} (n : ℕ) (supplies : List (Amount B)) → rest_of {A = A} 0 [] n supplies 0 ≡ rest_of {A = A} 0 [] 0 supplies 0
unfolding rest_of walked pairs spans_from
rest_surplus {A} n supplies = ap (λ l. [] ++ filter is_positive l) (all_surplus {A = A} n 0 supplies)

-- nothing is required
matches_surplus : {A B : Type 0} (s : Amount B) (supplies : List (Amount B)) → matches {A = A} [] (s ∷ supplies) ≡ one None s.of s.quantity ++ matches [] supplies
matches_surplus {A} {B} s supplies =
    let units : (0 + s.quantity) - max 0 0 ≡ s.quantity = omega arith in
    sym (all_left {A = A} [] (s ∷ supplies))
    ∙ surplus_left 0 0 s supplies 0
    ∙ (λ j. one None s.of (units j) ++ rest_of 0 [] (0 + s.quantity) supplies 0)
    ∙ ap (λ l. one None s.of s.quantity ++ l) (rest_surplus {A = A} (0 + s.quantity) supplies ∙ all_left {A = A} [] supplies)

pub matches_none : {A B : Type 0} (needs : List (Amount A)) → matches {B = B} needs [] ≡ []
matches_none {A} {B} needs = sym (all_left {B = B} needs []) ∙ none_left 0 needs 0 (total needs)

pub first_is : {X : Type 0} (xs : List X) (x : X) → Some x ≡ slice_get xs 0 → xs ≡ x ∷ drop 1 xs
first_is [] x e = absurd (cc)
first_is (y ∷ ys) x e =
    let same : x ≡ y = cc in
    ap (λ z. z ∷ ys) (sym same)

pub none_is : {X : Type 0} (xs : List X) → None ≡ slice_get xs 0 → xs ≡ []
none_is [] e = refl
none_is (y ∷ ys) e = absurd (cc)

-- one match more is shown, if it has units
told : (item : ℕ) (m : Match Need Supplied) (ms : List (Match Need Supplied)) → map (peg_of item) (filter is_positive (m ∷ []) ++ ms) ≡ shown (peg_of item m) ++ map (peg_of item) ms
told item m ms = map-append (peg_of item) (filter is_positive (m ∷ [])) ms ∙ ap (λ l. l ++ map (peg_of item) ms) (one_more (peg_of item) m)

-- a requirement of no pieces is served by nothing
no_need : {A B : Type 0} (of : A) (needs : List (Amount A)) (supplies : List (Amount B)) → matches (record { of = of; quantity = 0 } ∷ needs) supplies ≡ matches needs supplies
no_need of needs [] = matches_none (record { of = of; quantity = 0 } ∷ needs) ∙ sym (matches_none needs)
no_need of needs (s ∷ supplies) =
    let whole : s.quantity - 0 ≡ s.quantity = omega arith in
    matches_need (record { of = of; quantity = 0 }) needs s supplies (omega arith)
    ∙ ap (λ (q : ℕ). matches needs (record { of = s.of; quantity = q } ∷ supplies)) whole

-- and a supply of none serves nothing
no_supply : {A B : Type 0} (needs : List (Amount A)) (of : B) (supplies : List (Amount B)) → matches needs (record { of = of; quantity = 0 } ∷ supplies) ≡ matches needs supplies
no_supply [] of supplies = matches_surplus (record { of = of; quantity = 0 }) supplies
no_supply (n ∷ needs) of supplies =
    let whole : n.quantity - 0 ≡ n.quantity = omega arith in
    matches_supply n needs (record { of = of; quantity = 0 }) supplies (omega arith)
    ∙ ap (λ (q : ℕ). matches (record { of = n.of; quantity = q } ∷ needs) supplies) whole

-- what is left of a row after some units of its first element were taken
left_need : {A B : Type 0} (taken : ℕ) (n : Amount A) (needs : List (Amount A)) (supplies : List (Amount B)) → matches (record { of = n.of; quantity = n.quantity - taken } ∷ needs) supplies ≡ matches (served taken (n ∷ needs)) supplies
left_need {A} taken n needs supplies = by (nat_lt taken n.quantity) refl
  where
    by : (b : Bool) → nat_lt taken n.quantity ≡ b
        → matches (record { of = n.of; quantity = n.quantity - taken } ∷ needs) supplies ≡ matches (cond b (record { of = n.of; quantity = n.quantity - taken } ∷ needs) needs) supplies
    by true e = refl
    by false e =
        let none : n.quantity - taken ≡ 0 = omega (arith, ltb-false taken n.quantity e) in
        ap (λ (q : ℕ). matches (record { of = n.of; quantity = q } ∷ needs) supplies) none ∙ no_need n.of needs supplies

pub left_supply : {A B : Type 0} (taken : ℕ) (needs : List (Amount A)) (s : Amount B) (supplies : List (Amount B)) → matches needs (record { of = s.of; quantity = s.quantity - taken } ∷ supplies) ≡ matches needs (served taken (s ∷ supplies))
left_supply {B = B} taken needs s supplies = by (nat_lt taken s.quantity) refl
  where
    by : (b : Bool) → nat_lt taken s.quantity ≡ b
        → matches needs (record { of = s.of; quantity = s.quantity - taken } ∷ supplies) ≡ matches needs (cond b (record { of = s.of; quantity = s.quantity - taken } ∷ supplies) supplies)
    by true e = refl
    by false e =
        let none : s.quantity - taken ≡ 0 = omega (arith, ltb-false taken s.quantity e) in
        ap (λ (q : ℕ). matches needs (record { of = s.of; quantity = q } ∷ supplies)) none ∙ no_supply needs s.of supplies

-- as many units as both have, and what is left of both
matches_both : {A B : Type 0} (n : Amount A) (needs : List (Amount A)) (s : Amount B) (supplies : List (Amount B))
    → matches (n ∷ needs) (s ∷ supplies) ≡ one (Some n.of) s.of (min n.quantity s.quantity) ++ matches (served (min n.quantity s.quantity) (n ∷ needs)) (served (min n.quantity s.quantity) (s ∷ supplies))
matches_both {A} {B} n needs s supplies = elim (cases_lt n.quantity s.quantity) [
  | inl le ↦
      let least : n.quantity ≡ min n.quantity s.quantity = omega (arith, le) in
      let none : n.quantity - n.quantity ≡ 0 = omega arith in
      matches_need n needs s supplies (omega (arith, le))
      ∙ ap (λ (l : List (Match A B)). one (Some n.of) s.of n.quantity ++ l)
      (left_supply n.quantity needs s supplies
      ∙ sym (no_need n.of needs (served n.quantity (s ∷ supplies)))
      ∙ ap (λ (q : ℕ). matches (record { of = n.of; quantity = q } ∷ needs) (served n.quantity (s ∷ supplies))) (sym none)
      ∙ left_need n.quantity n needs (served n.quantity (s ∷ supplies)))
      ∙ ap (λ (q : ℕ). one (Some n.of) s.of q ++ matches (served q (n ∷ needs)) (served q (s ∷ supplies))) least
  | inr more ↦
      let least : s.quantity ≡ min n.quantity s.quantity = omega (arith, more) in
      let none : s.quantity - s.quantity ≡ 0 = omega arith in
      matches_supply n needs s supplies (omega (arith, more))
      ∙ ap (λ (l : List (Match A B)). one (Some n.of) s.of s.quantity ++ l)
      (left_need s.quantity n needs supplies
      ∙ sym (no_supply (served s.quantity (n ∷ needs)) s.of supplies)
      ∙ ap (λ (q : ℕ). matches (served s.quantity (n ∷ needs)) (record { of = s.of; quantity = q } ∷ supplies)) (sym none)
      ∙ left_supply s.quantity (served s.quantity (n ∷ needs)) s supplies)
      ∙ ap (λ (q : ℕ). one (Some n.of) s.of q ++ matches (served q (n ∷ needs)) (served q (s ∷ supplies))) least
]

-- more after a row of whose first element units are taken
served_more : {A : Type 0} (taken : ℕ) (n : Amount A) (row later : List (Amount A)) → served taken (n ∷ (row ++ later)) ≡ served taken (n ∷ row) ++ later
served_more {A} taken n row later = by (nat_lt taken n.quantity)
  where
    by : (b : Bool) → cond b (record { of = n.of; quantity = n.quantity - taken } ∷ (row ++ later)) (row ++ later) ≡ cond b (record { of = n.of; quantity = n.quantity - taken } ∷ row) row ++ later
    by true = refl
    by false = refl

-- the first supply serves the first requirement
pub both_served : (item taken : ℕ) (listed later : List (Amount Need)) (offers : List (Amount Supplied)) (n : Amount Need) (s : Amount Supplied) → Some n ≡ slice_get listed 0 → Some s ≡ slice_get offers 0
    → taken ≡ min n.quantity s.quantity
    → pegs_between item (listed ++ later) offers ≡ shown (record { item = item; need = Some n.of; supply = s.of; quantity = taken }) ++ pegs_between item (served taken listed ++ later) (served taken offers)
both_served item taken listed later offers n s first offer is =
    let needs = first_is listed n first in
    let supplies = first_is offers s offer in
    let N = drop 1 listed in
    let S = drop 1 offers in
    let q = min n.quantity s.quantity in
    let M : ℕ → Match Need Supplied = λ k. record { need = Some n.of; supply = s.of; quantity = k } in
    ap (λ (l : List (Amount Need)). pegs_between item (l ++ later) offers) needs
    ∙ ap (λ (l : List (Amount Supplied)). pegs_between item (n ∷ (N ++ later)) l) supplies
    ∙ ap (map (peg_of item)) (matches_both n (N ++ later) s S)
    ∙ told item (M q) (matches (served q (n ∷ (N ++ later))) (served q (s ∷ S)))
    ∙ ap (λ (k : ℕ). shown (peg_of item (M k)) ++ pegs_between item (served k (n ∷ (N ++ later))) (served k (s ∷ S))) (sym is)
    ∙ ap (λ (l : List (Amount Need)). shown (peg_of item (M taken)) ++ pegs_between item l (served taken (s ∷ S))) (served_more taken n N later)
    ∙ ap (λ (l : List (Amount Need)). shown (peg_of item (M taken)) ++ pegs_between item (served taken l ++ later) (served taken (s ∷ S))) (sym needs)
    ∙ ap (λ (l : List (Amount Supplied)). shown (peg_of item (M taken)) ++ pegs_between item (served taken listed ++ later) (served taken l)) (sym supplies)

-- what is left of a supply is surplus
pub supply_left : (item : ℕ) (needs : List (Amount Need)) (offers : List (Amount Supplied)) (s : Amount Supplied) → needs ≡ [] → Some s ≡ slice_get offers 0
    → pegs_between item needs offers ≡ shown (record { item = item; need = None; supply = s.of; quantity = s.quantity }) ++ pegs_between item needs (drop 1 offers)
supply_left item needs offers s none offer =
    ap (λ l. pegs_between item l offers) none
    ∙ ap (pegs_between item []) (first_is offers s offer)
    ∙ ap (map (peg_of item)) (matches_surplus s (drop 1 offers))
    ∙ told item (record { need = None; supply = s.of; quantity = s.quantity }) (matches [] (drop 1 offers))
    ∙ ap (λ l. shown (record { item = item; need = None; supply = s.of; quantity = s.quantity }) ++ pegs_between item l (drop 1 offers)) (sym none)

length-first : {X : Type 0} (xs : List X) (x : X) → Some x ≡ slice_get xs 0 → length xs ≡ suc (length (drop 1 xs))
length-first xs x e = ap length (first_is xs x e)

-- a row gets no longer, and shorter if all units of the first are taken
length-served : {A : Type 0} (taken : ℕ) (a : Amount A) (row : List (Amount A)) → length (served taken (a ∷ row)) ≡ length row + cond (nat_lt taken a.quantity) 1 0
length-served {A} taken a row = by (nat_lt taken a.quantity)
  where
    by : (b : Bool) → length (cond b (record { of = a.of; quantity = a.quantity - taken } ∷ row) row) ≡ length row + cond b 1 0
    by true = omega arith
    by false = omega arith

-- each step leaves less
pub both_shorter : (taken : ℕ) (listed later : List (Amount Need)) (offers : List (Amount Supplied)) (n : Amount Need) (s : Amount Supplied) → Some n ≡ slice_get listed 0 → Some s ≡ slice_get offers 0
    → taken ≡ min n.quantity s.quantity
    → length (served taken listed ++ later) + length (served taken offers) < length (listed ++ later) + length offers
both_shorter taken listed later offers n s first offer is =
    omega (
      arith,
      length-append (served taken listed) later,
      length-append listed later,
      length-first listed n first,
      length-first offers s offer,
      ap (λ (l : List (Amount Need)). length (served taken l)) (first_is listed n first),
      ap (λ (l : List (Amount Supplied)). length (served taken l)) (first_is offers s offer),
      length-served taken n (drop 1 listed),
      length-served taken s (drop 1 offers),
      one_ends taken n.quantity s.quantity is,
    )
  where
    one_ends : (taken a b : ℕ) → taken ≡ min a b → cond (nat_lt taken a) 1 0 + cond (nat_lt taken b) 1 0 ≤ 1
    one_ends taken a b is = elim (cases_lt a b) [
      | inl le ↦
          let end : nat_lt taken a ≡ false = le-ltb taken a (omega (arith, is, le)) in
          rw end (omega (arith, bit (nat_lt taken b)))
      | inr more ↦
          let end : nat_lt taken b ≡ false = le-ltb taken b (omega (arith, is, more)) in
          rw end (omega (arith, bit (nat_lt taken a)))
    ]
      where
        bit : (b : Bool) → cond b 1 0 ≤ 1
        bit true = omega arith
        bit false = omega arith
