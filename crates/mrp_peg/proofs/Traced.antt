-- The trace of a requirement: what it ends in, in order of the plan's pegs.
use Rattle.std.proofs.Common.{◌≡◌, ◌∙◌, ◌⊎◌, ℕ, zero, suc, ◌<◌, Bool, true, false, List, [], ◌∷◌, get_or, refl, sym, ap, arith, inl, inr, subst, Option, Some, None}
use Rattle.std.specs.Prelude.{AllPairs, Contains, fold, if◌then◌else◌}
use Rattle.std.specs.List.{list_any, position_or_len, range_with_len}
use Rattle.std.proofs.lemmas.List.Elements.{Contains-get_or}
use Rattle.std.proofs.lemmas.List.FromFn.{get_or-range_with_len, length-range_with_len}
use Rattle.mrp_peg.specs.declared.peg.Need.{Need}
use Rattle.mrp_peg.specs.declared.peg.NeedKind.{NeedKind}
use Rattle.mrp_peg.specs.declared.peg.NeedKind.TheVariants as kind
use Rattle.mrp_peg.specs.declared.peg.Peg.{Peg}
use Rattle.mrp_peg.specs.declared.peg.Cause.{Cause}
use Rattle.mrp_item.specs.Inputs.{Inputs, count, places}
use Rattle.mrp_peg.specs.Pegging.{pegs_of, plan_pegs}
use Rattle.mrp_peg.specs.Causes.{EndsIn, IsCause, IsTrace, Leads, ends_in, is_need_of, order_for, own_cause, place_of, same_cause, sources_of, tells}
use Rattle.mrp_peg.specs.Ends.{AreEnds}
use Rattle.mrp_peg.specs.Walk.{known, with_known}
use Rattle.mrp_peg.proofs.Members.{any_at, in_all, new_all, nothing, some_one, to_flat_map}
use Rattle.mrp_peg.proofs.Firsts.{first_place, in_order, is_told}
use Rattle.mrp_peg.proofs.Sourced.{some_value}
use Rattle.mrp_peg.proofs.Orders.{no_source, one_cause, own_cause_is}

pub a_place : (n i : ℕ) → i < n → Contains (range_with_len 0 n) i
a_place n i within = (i, omega (arith, within, length-range_with_len 0 n), get_or-range_with_len 0 n i i within ∙ omega arith)

pub is_known : (causes : List Cause) (o : Option Cause) (c : Cause) → known causes o ≡ Some c → Contains causes c × (o ≡ Some c)
is_known causes None c is = let none : Option Cause = None in let e : none ≡ Some c = is in absurd (cc)
is_known causes (Some d) c is = by (list_any (same_cause d) causes) refl is
  where
    by : (b : Bool) → list_any (same_cause d) causes ≡ b → (if b then Some d else None) ≡ Some c → Contains causes c × (Some d ≡ Some c)
    by true found is =
        let (x, inside, same) = some_one (same_cause d) causes found in
        (subst (Contains causes) (sym (one_cause d x same) ∙ some_value d c is) inside, is)
    by false fresh is = let none : Option Cause = None in let e : none ≡ Some c = is in absurd (cc)

to_known : (causes : List Cause) (o : Option Cause) (c : Cause) → Contains causes c → o ≡ Some c → known causes o ≡ Some c
to_known causes o c inside is =
    let found : list_any (same_cause c) causes ≡ true = any_at (same_cause c) causes c inside (own_cause_is c) in
    ap (known causes) is ∙ ap (λ b. if b then Some c else None) found

-- a cause that is known has the place of the first peg of the plan that ends in it
known_told : (causes : List Cause) (c : Cause) (o : Option Cause) → Contains causes c → is_told same_cause c (known causes o) ≡ tells c o
known_told causes c None inside = refl
known_told causes c (Some d) inside = by (list_any (same_cause d) causes) refl (same_cause c d) refl
  where
    by : (b : Bool) → list_any (same_cause d) causes ≡ b → (t : Bool) → same_cause c d ≡ t → is_told same_cause c (if b then Some d else None) ≡ same_cause c d
    by true found t is = refl
    by false none true is =
        let there : Contains causes d = subst (Contains causes) (one_cause c d is) inside in
        let found : list_any (same_cause d) causes ≡ true = any_at (same_cause d) causes d there (own_cause_is d) in
        let e : false ≡ true = sym none ∙ found in
        absurd (cc)
    by false none false is = sym is

known_place : (s : Inputs) (causes : List Cause) (c : Cause) → Contains causes c → first_place same_cause (λ g. known causes (ends_in g)) (plan_pegs s) c ≡ place_of s c
known_place s causes c inside = ap (λ (p : Peg → Bool). position_or_len p (plan_pegs s)) (λ k g. known_told causes c (ends_in g) inside k)

-- the cause that a peg ends in, if it is among these causes
abbrev told_of : List Cause → Peg → Option Cause
told_of causes g = known causes (ends_in g)

-- causes in order of the plan's pegs, each at the first that ends in it
abbrev ordered : Inputs → List Cause → List Cause
ordered s causes = fold (with_known causes) [] (plan_pegs s)

is_end : (s : Inputs) (causes : List Cause) (c : Cause) → Contains (ordered s causes) c → Contains causes c
is_end s causes c inside = by (in_all same_cause one_cause (told_of causes) (plan_pegs s) [] c inside)
  where
    by : Contains [] c ⊎ ((g : Peg) × Contains (plan_pegs s) g × (told_of causes g ≡ Some c)) → Contains causes c
    by (inl none) = absurd (nothing c none)
    by (inr (g, there, is)) = (is_known causes (ends_in g) c is).0

is_told_by : (s : Inputs) (n : Need) (causes : List Cause) → AreEnds s n causes → (c : Cause) → EndsIn s n c → Contains (ordered s causes) c
is_told_by s n causes ends c end =
    let (known_end, (i, g, within, inside, told_by)) = ends.all c end in
    let there : Contains (plan_pegs s) g = to_flat_map (pegs_of s) (places s) i g (a_place (count s) i within) inside in
    new_all same_cause one_cause (told_of causes) (plan_pegs s) [] g c there (to_known causes (ends_in g) c known_end told_by)

rises : (s : Inputs) (causes : List Cause) → AllPairs (λ c d. place_of s c < place_of s d) (ordered s causes)
rises s causes i j d before within =
    let lower = in_order same_cause one_cause own_cause_is (told_of causes) (plan_pegs s) i j d before within in
    let first = known_place s causes (get_or (ordered s causes) i d) (is_end s causes (get_or (ordered s causes) i d) (Contains-get_or (ordered s causes) i d (omega (arith, before, within)))) in
    let second = known_place s causes (get_or (ordered s causes) j d) (is_end s causes (get_or (ordered s causes) j d) (Contains-get_or (ordered s causes) j d within)) in
    omega (arith, lower, first, second)

-- the ends of a requirement of the plan that is for a parent's order, in order of the plan's pegs, are its trace
pub traced : (s : Inputs) (n : Need) (causes : List Cause) → is_need_of s n ≡ true → own_cause n n.kind ≡ None → AreEnds s n causes → IsTrace s n (fold (with_known causes) [] (plan_pegs s))
traced s n causes has alone ends = record {
  each = λ c. (λ inside. (has, inr (ends.ended c (is_end s causes c inside))), λ (is, why). found c why);
  order = rises s causes;
}
  where
    found : (c : Cause) → (own_cause n n.kind ≡ Some c) ⊎ EndsIn s n c → Contains (ordered s causes) c
    found c (inl own) = let none : Option Cause = None in let e : none ≡ Some c = sym alone ∙ own in absurd (cc)
    found c (inr end) = is_told_by s n causes ends c end

-- a requirement that is not one of the plan's has no trace
pub untraced : (s : Inputs) (n : Need) → is_need_of s n ≡ false → IsTrace s n []
untraced s n none = record {
  each = λ c. (λ inside. absurd (nothing c inside), λ (has, why). let e : true ≡ false = sym has ∙ none in absurd (cc));
  order = λ i j d before within. absurd (omega (arith, within));
}

stays : (s : Inputs) (n : Need) → sources_of s n ≡ [] → (steps : ℕ) (m : Need) → Leads s steps n m → n ≡ m
stays s n none zero m same = same
stays s n none (suc steps) m (via, g, leads, inside, serves) =
    let same = stays s n none steps via leads in
    absurd (nothing g (subst (λ l. Contains l g) (sym (ap (sources_of s) same) ∙ none) inside))

-- a booking, a forecast or a service row of the plan is its own trace
pub own_trace : (s : Inputs) (n : Need) (c : Cause) → is_need_of s n ≡ true → own_cause n n.kind ≡ Some c → IsTrace s n (c ∷ [])
own_trace s n c has own = record {
  each = λ d. (cause d, found d);
  order = λ i j d before within. absurd (omega (arith, before, within));
}
  where
    lone : (k : NeedKind) → own_cause n k ≡ Some c → order_for s.tables.bills k ≡ None
    lone (kind.Booking number) is = refl
    lone kind.Forecast is = refl
    lone (kind.Service number) is = refl
    lone (kind.Parent line number) is = let none : Option Cause = None in let e : none ≡ Some c = is in absurd (cc)

    none : sources_of s n ≡ []
    none = no_source s n (lone n.kind own)

    cause : (d : Cause) → Contains (c ∷ []) d → IsCause s n d
    cause d (zero, within, is) = (has, inl (own ∙ ap (λ (x : Cause). Some x) is))
    cause d (suc k, within, is) = absurd (omega (arith, within))

    found : (d : Cause) → IsCause s n d → Contains (c ∷ []) d
    found d (is, inl mine) = (0, omega arith, some_value c d (sym own ∙ mine))
    found d (is, inr (steps, m, g, leads, inside, told)) =
        let same = stays s n none steps m leads in
        absurd (nothing g (subst (λ l. Contains l g) (sym (ap (sources_of s) same) ∙ none) inside))
