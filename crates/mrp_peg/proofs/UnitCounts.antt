-- Matches count the k for which the k-th required unit is served by the k-th supplied unit.
use Rattle.std.proofs.Common.{◌≡◌, ◌∙◌, ℕ, zero, suc, ◌+◌, ◌-◌, ◌<◌, ◌≤◌, Bool, true, false, cond, List, [], ◌∷◌, ◌++◌, refl, sym, ap, arith, min, max, Some}
use Rattle.std.specs.Prelude.{nat_lt, ◌&&◌, filter, sum_by, count_by, replicate, slice_get}
use Rattle.std.specs.List.{range_with_len}
use Rattle.std.proofs.lemmas.List.Sums.{sum_by-cons}
use Rattle.std.proofs.lemmas.Bool.{ltb-true, ltb-false}
use Rattle.mrp_phase.proofs.KeptSums.{sum_by-kept}
use Rattle.mrp_peg.specs.Units.{Amount, Span, Match, spans_from, spans, total, shared, match_of, matches, is_for, units, serves}
use Rattle.mrp_peg.proofs.Sums.{sum_by-add, sum_by-none, sum_by-agree, sum_by-cond, weights, zero_cond}

own_unit : {A : Type 0} (q k : ℕ) (x : A) (rest : List A) → k < q → slice_get (replicate q x ++ rest) k ≡ Some x
own_unit zero k x rest within = absurd (omega arith)
own_unit (suc q) zero x rest within = refl
own_unit (suc q) (suc k) x rest within = own_unit q k x rest (omega arith)

later_unit : {A : Type 0} (q k : ℕ) (x : A) (rest : List A) → q ≤ k → slice_get (replicate q x ++ rest) k ≡ slice_get rest (k - q)
later_unit zero k x rest past =
    let e : k ≡ k - 0 = omega arith in
    ap (slice_get rest) e
later_unit (suc q) zero x rest past = absurd (omega arith)
later_unit (suc q) (suc k) x rest past =
    let e : k - q ≡ suc k - suc q = omega arith in
    later_unit q k x rest (omega arith) ∙ ap (slice_get rest) e

-- the numbers from first on, without past, that a span has
abbrev common : {B : Type 0} → ℕ → ℕ → Span B → ℕ
common first past s = min past s.past - max first s.first

-- how many units from first on, without past, the supplies that pass have
abbrev taken : {B : Type 0} → (B → Bool) → ℕ → ℕ → List (Span B) → ℕ
taken other first past supplies = sum_by (λ s. cond (other s.of) (common first past s) 0) supplies

unit_before : {B : Type 0} (other : B → Bool) (k b : ℕ) (row : List (Amount B)) → k < b → taken other k (k + 1) (spans_from b row) ≡ 0
unfolding spans_from
unit_before other k b [] before = refl
unit_before {B} other k b (a ∷ row) before =
    let one : Span B = record { of = a.of; first = b; past = b + a.quantity } in
    sum_by-cons (λ (s : Span B). cond (other s.of) (common k (k + 1) s) 0) one (spans_from (b + a.quantity) row)
    ∙ omega (arith, zero_cond (other a.of) (common k (k + 1) one) (omega arith), unit_before other k (b + a.quantity) row (omega arith))

-- one unit
unit_taken : {B : Type 0} (other : B → Bool) (k b : ℕ) (row : List (Amount B)) → b ≤ k
    → taken other k (k + 1) (spans_from b row) ≡ cond (is_for other (slice_get (units row) (k - b))) 1 0
unfolding spans_from units
unit_taken other k b [] from = refl
unit_taken {B} other k b (a ∷ row) from =
    let one : Span B = record { of = a.of; first = b; past = b + a.quantity } in
    sum_by-cons (λ (s : Span B). cond (other s.of) (common k (k + 1) s) 0) one (spans_from (b + a.quantity) row)
    ∙ by (nat_lt k (b + a.quantity)) (taken other k (k + 1) (spans_from (b + a.quantity) row)) refl (λ within. unit_before other k (b + a.quantity) row within) (λ past. unit_taken other k (b + a.quantity) row past)
  where
    by : (t : Bool) (tail : ℕ) → nat_lt k (b + a.quantity) ≡ t → (k < b + a.quantity → tail ≡ 0)
        → (b + a.quantity ≤ k → tail ≡ cond (is_for other (slice_get (units row) (k - (b + a.quantity)))) 1 0)
        → cond (other a.of) (min (k + 1) (b + a.quantity) - max k b) 0 + tail ≡ cond (is_for other (slice_get (replicate a.quantity a.of ++ units row) (k - b))) 1 0
    by true tail e none more =
        let within : k < b + a.quantity = ltb-true k (b + a.quantity) e in
        let whole : min (k + 1) (b + a.quantity) - max k b ≡ 1 = omega arith in
        let own = own_unit a.quantity (k - b) a.of (units row) (omega arith) in
        let head : ◌≡◌ {A = ℕ} (cond (other a.of) (min (k + 1) (b + a.quantity) - max k b) 0) (cond (other a.of) 1 0) = ap (λ q. cond (other a.of) q 0) whole in
        let own_head : ◌≡◌ {A = ℕ} (cond (is_for other (slice_get (replicate a.quantity a.of ++ units row) (k - b))) 1 0) (cond (other a.of) 1 0) = ap (λ u. cond (is_for other u) 1 0) own in
        omega (arith, none within, head, own_head)
    by false tail e none more =
        let past : b + a.quantity ≤ k = ltb-false k (b + a.quantity) e in
        let nothing : min (k + 1) (b + a.quantity) - max k b ≡ 0 = omega arith in
        let moved : k - b - a.quantity ≡ k - (b + a.quantity) = omega arith in
        let later = later_unit a.quantity (k - b) a.of (units row) (omega arith) ∙ ap (slice_get (units row)) moved in
        let own_later : ◌≡◌ {A = ℕ} (cond (is_for other (slice_get (replicate a.quantity a.of ++ units row) (k - b))) 1 0) (cond (is_for other (slice_get (units row) (k - (b + a.quantity)))) 1 0) = ap (λ u. cond (is_for other u) 1 0) later in
        omega (arith, zero_cond (other a.of) (min (k + 1) (b + a.quantity) - max k b) nothing, more past, own_later)

-- as many units as there are numbers whose supplied unit passes
units_taken : {B : Type 0} (other : B → Bool) (row : List (Amount B)) (first n : ℕ)
    → taken other first (first + n) (spans row) ≡ sum_by (λ k. cond (is_for other (slice_get (units row) k)) 1 0) (range_with_len first n)
units_taken {B} other row first zero =
    sum_by-agree (λ s. cond (other s.of) (common first (first + 0) s) 0) (λ s. 0) (λ s. zero_cond (other s.of) (common first (first + 0) s) (omega arith)) (spans row) ∙ sum_by-none (spans row)
units_taken {B} other row first (suc n) =
    sum_by-agree (λ s. cond (other s.of) (common first (first + suc n) s) 0) (λ s. cond (other s.of) (common first (first + 1) s) 0 + cond (other s.of) (common (first + 1) (first + 1 + n) s) 0) (λ s. split (other s.of) s) (spans row)
    ∙ sum_by-add (λ s. cond (other s.of) (common first (first + 1) s) 0) (λ s. cond (other s.of) (common (first + 1) (first + 1 + n) s) 0) (spans row)
    ∙ ap (λ q. q + taken other (first + 1) (first + 1 + n) (spans row)) (unit_taken other first 0 row (omega arith) ∙ ap (λ k. cond (is_for other (slice_get (units row) k)) 1 0) zero_less)
    ∙ ap (λ q. cond (is_for other (slice_get (units row) first)) 1 0 + q) (units_taken other row (first + 1) n)
    ∙ sym (sum_by-cons (λ k. cond (is_for other (slice_get (units row) k)) 1 0) first (range_with_len (first + 1) n))
  where
    split : (b : Bool) (s : Span B) → cond b (common first (first + suc n) s) 0 ≡ cond b (common first (first + 1) s) 0 + cond b (common (first + 1) (first + 1 + n) s) 0
    split true s = omega arith
    split false s = refl

    zero_less : first - 0 ≡ first
    zero_less = omega arith

range_agree : (f g : ℕ → ℕ) (a n : ℕ) → ((k : ℕ) → a ≤ k → k < a + n → f k ≡ g k) → sum_by f (range_with_len a n) ≡ sum_by g (range_with_len a n)
range_agree f g a zero same = refl
range_agree f g a (suc n) same =
    omega (arith, sum_by-cons f a (range_with_len (a + 1) n), sum_by-cons g a (range_with_len (a + 1) n), same a (omega arith) (omega arith), range_agree f g (a + 1) n (λ k least most. same k (omega arith) (omega arith)))

range_split : (f : ℕ → ℕ) (a m n : ℕ) → sum_by f (range_with_len a (m + n)) ≡ sum_by f (range_with_len a m) + sum_by f (range_with_len (a + m) n)
range_split f a zero n =
    let e : 0 + n ≡ n = omega arith in
    let g : a + 0 ≡ a = omega arith in
    rw (e, g) (omega arith)
range_split f a (suc m) n =
    let e : suc m + n ≡ suc (m + n) = omega arith in
    let g : a + 1 + m ≡ a + suc m = omega arith in
    rw e (sum_by-cons f a (range_with_len (a + 1) (m + n)) ∙ ap (λ q. f a + q) (range_split f (a + 1) m n ∙ ap (λ k. sum_by f (range_with_len (a + 1) m) + sum_by f (range_with_len k n)) g)
    ∙ omega (arith, sum_by-cons f a (range_with_len (a + 1) m)))

-- over the requirements that pass
units_required : {A : Type 0} (test : A → Bool) (c : ℕ → ℕ) (a : ℕ) (row : List (Amount A))
    → sum_by (λ n. cond (test n.of) (sum_by c (range_with_len n.first (n.past - n.first))) 0) (spans_from a row)
    ≡ sum_by (λ k. cond (is_for test (slice_get (units row) (k - a))) (c k) 0) (range_with_len a (total row))
unfolding spans_from units
units_required test c a [] = refl
units_required {A} test c a (x ∷ row) =
    sum_by-cons (λ (n : Span A). cond (test n.of) (sum_by c (range_with_len n.first (n.past - n.first))) 0) one (spans_from (a + x.quantity) row)
    ∙ ap (λ q. q + sum_by (λ n. cond (test n.of) (sum_by c (range_with_len n.first (n.past - n.first))) 0) (spans_from (a + x.quantity) row)) head
    ∙ ap (λ q. sum_by g (range_with_len a x.quantity) + q) (units_required test c (a + x.quantity) row ∙ sym tail)
    ∙ sym (range_split g a x.quantity (total row))
    ∙ ap (λ n. sum_by g (range_with_len a n)) (sym (sum_by-cons (λ (y : Amount A). y.quantity) x row))
  where
    one : Span A
    one = record { of = x.of; first = a; past = a + x.quantity }

    all : List A
    all = replicate x.quantity x.of ++ units row

    g : ℕ → ℕ
    g k = cond (is_for test (slice_get (replicate x.quantity x.of ++ units row) (k - a))) (c k) 0

    own : (k : ℕ) → a ≤ k → k < a + x.quantity → cond (test x.of) (c k) 0 ≡ g k
    own k least most =
        ap (λ u. cond (is_for test u) (c k) 0) (sym (own_unit x.quantity (k - a) x.of (units row) (omega arith)))

    long : a + x.quantity - a ≡ x.quantity
    long = omega arith

    head : cond (test x.of) (sum_by c (range_with_len a (a + x.quantity - a))) 0 ≡ sum_by g (range_with_len a x.quantity)
    head =
        ap (λ n. cond (test x.of) (sum_by c (range_with_len a n)) 0) long ∙ sym (sum_by-cond (test x.of) c (range_with_len a x.quantity))
        ∙ range_agree (λ k. cond (test x.of) (c k) 0) g a x.quantity own

    later : (k : ℕ) → a + x.quantity ≤ k → k < a + x.quantity + total row → g k ≡ cond (is_for test (slice_get (units row) (k - (a + x.quantity)))) (c k) 0
    later k least most =
        let moved : k - a - x.quantity ≡ k - (a + x.quantity) = omega arith in
        ap (λ u. cond (is_for test u) (c k) 0) (later_unit x.quantity (k - a) x.of (units row) (omega arith) ∙ ap (slice_get (units row)) moved)

    tail : sum_by g (range_with_len (a + x.quantity) (total row)) ≡ sum_by (λ k. cond (is_for test (slice_get (units row) (k - (a + x.quantity)))) (c k) 0) (range_with_len (a + x.quantity) (total row))
    tail = range_agree g (λ k. cond (is_for test (slice_get (units row) (k - (a + x.quantity)))) (c k) 0) (a + x.quantity) (total row) later

pub matched_units : {A B : Type 0} (test : A → Bool) (other : B → Bool) (needs : List (Amount A)) (supplies : List (Amount B))
    → sum_by (λ m. m.quantity) (filter (λ m. is_for test m.need && other m.supply) (matches needs supplies)) ≡ count_by (serves test other (units needs) (units supplies)) (range_with_len 0 (total needs))
matched_units {A} {B} test other needs supplies =
    let f : Match A B → ℕ = λ m. cond (is_for test m.need && other m.supply) m.quantity 0 in
    sum_by-kept (λ (m : Match A B). is_for test m.need && other m.supply) (λ m. m.quantity) (matches needs supplies)
    ∙ weights f (λ m e. zero_cond (is_for test m.need && other m.supply) m.quantity e) needs supplies
    ∙ ap (λ n. sum_by (λ need. sum_by (λ supply. f (match_of need supply)) (spans supplies)) (spans needs) + n) (sum_by-none (spans supplies))
    ∙ plain (sum_by (λ need. sum_by (λ supply. f (match_of need supply)) (spans supplies)) (spans needs))
    ∙ sum_by-agree (λ need. sum_by (λ supply. f (match_of need supply)) (spans supplies)) (λ n. cond (test n.of) (sum_by c (range_with_len n.first (n.past - n.first))) 0) one (spans needs)
    ∙ units_required test c 0 needs
    ∙ range_agree (λ k. cond (is_for test (slice_get (units needs) (k - 0))) (c k) 0) (λ k. cond (serves test other (units needs) (units supplies) k) 1 0) 0 (total needs) (λ k least most. both k)
  where
    plain : (n : ℕ) → n + 0 ≡ n
    plain n = omega arith

    joined : (n : Span A) (b : Bool) → sum_by (λ supply. cond (b && other supply.of) (shared n supply) 0) (spans supplies) ≡ cond b (taken other n.first n.past (spans supplies)) 0
    joined n true = refl
    joined n false = sum_by-none (spans supplies)

    long : (n : Span A) → taken other n.first n.past (spans supplies) ≡ taken other n.first (n.first + (n.past - n.first)) (spans supplies)
    long n = sum_by-agree (λ s. cond (other s.of) (common n.first n.past s) 0) (λ s. cond (other s.of) (common n.first (n.first + (n.past - n.first)) s) 0)
        (λ s. let e : common n.first n.past s ≡ common n.first (n.first + (n.past - n.first)) s = omega arith in ap (λ q. cond (other s.of) q 0) e) (spans supplies)

    c : ℕ → ℕ
    c k = cond (is_for other (slice_get (units supplies) k)) 1 0

    one : (n : Span A) → sum_by (λ supply. cond (test n.of && other supply.of) (shared n supply) 0) (spans supplies)
        ≡ cond (test n.of) (sum_by c (range_with_len n.first (n.past - n.first))) 0
    one n = joined n (test n.of) ∙ ap (λ q. cond (test n.of) q 0) (long n ∙ units_taken other supplies n.first (n.past - n.first))

    anded : (p q : Bool) → ◌≡◌ {A = ℕ} (cond p (cond q 1 0) 0) (cond (p && q) 1 0)
    anded true q = refl
    anded false q = refl

    both : (k : ℕ) → cond (is_for test (slice_get (units needs) (k - 0))) (c k) 0 ≡ cond (serves test other (units needs) (units supplies) k) 1 0
    both k =
        let e : k - 0 ≡ k = omega arith in
        ap (λ j. cond (is_for test (slice_get (units needs) j)) (c k) 0) e
        ∙ anded (is_for test (slice_get (units needs) k)) (is_for other (slice_get (units supplies) k))
