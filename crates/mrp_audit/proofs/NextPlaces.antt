-- Each desk's next record, and what follows it.
use Rattle.std.proofs.Common.{◌≡◌, ◌≢◌, ◌∙◌, ℕ, zero, suc, ◌+◌, ◌<◌, ◌≤◌, ◌⊎◌, List, [], ◌∷◌, ◌++◌, length, take, get_or, set, replicate, Option, Some, sym, ap, subst, refl, arith, inl, inr, get_or-set_same, get_or-set_other, length-set}
use Rattle.std.proofs.lemmas.Bool.{cases_eq, eq-eqb, ne_eqb}
use Rattle.std.proofs.lemmas.List.{get_or-replicate}
use Rattle.std.proofs.lemmas.Option.{slice_get-get_or}
use Rattle.std.specs.Prelude.{slice_get, slice_index}
use Rattle.mrp_tables.specs.declared.limits.TheConstants.{MOST_DESKS}
use Rattle.mrp_book.specs.declared.call.Call.{Call}
use Rattle.mrp_engine.specs.day.RightDay.{asked_by}
use Rattle.mrp_script.specs.Script.{Script}
use Rattle.mrp_audit.specs.NextPlaces.{AreBehind, AreNext, HaveCome}
use Rattle.mrp_audit.specs.Parts.{IsNextPlace, IsSame}
use Rattle.mrp_audit.proofs.DeskRecords.{asked_by-next, asked_by-one, asked_by-other, none-left}

-- nothing is after the end
past : {X : Type 0} (xs : List X) (i : ℕ) (x : X) → length xs ≤ i → slice_get xs i ≡ Some x → ⊥
past [] i x all is = cc
past (y ∷ xs) zero x all is = absurd (omega (arith, all))
past (y ∷ xs) (suc i) x all is = past xs i x (omega (arith, all)) is

at-place : {X : Type 0} (xs : List X) (i : ℕ) (x : X) → i < length xs → x ≡ get_or xs i x → slice_get xs i ≡ Some x
at-place xs i x within is = slice_get-get_or xs i x within ∙ ap Some (sym is)

same-at : {X : Type 0} (o : Option X) (x y : X) → o ≡ Some x → o ≡ Some y → x ≡ y
same-at o x y a b = cc

-- from the end on there is no record
pub none-next : (script : Script) (heads behind : List ℕ) → heads ≡ replicate (MOST_DESKS + 1) (length script) → length heads ≡ MOST_DESKS + 1 → length behind ≡ length script → AreNext script (length script) heads behind
none-next script heads behind is desks size = record {
  desks = desks;
  size = size;
  first = λ desk low.
      let at : slice_index heads desk ≡ length script = ap (λ (x : List ℕ). slice_index x desk) is ∙ get_or-replicate (MOST_DESKS + 1) desk (length script) 0 (omega (arith, low)) in
      subst (IsNextPlace script desk (length script)) (sym at) (record {
        behind = omega arith;
        within = omega arith;
        none = refl;
        here = λ r there. absurd (past script (length script) r (omega arith) there);
      });
  next = λ place r from there low. absurd (past script place r from there);
}

-- a place before, whose record is another desk's
in-front : (script : Script) (desk p next : ℕ) (r : ℕ × Call) → p < length script → r ≡ get_or script p r → r.0 ≢ desk → IsNextPlace script desk (p + 1) next → IsNextPlace script desk p next
in-front script desk p next r within at other k = let behind = k.behind in record {
  behind = omega (arith, behind);
  within = k.within;
  none = k.none ∙ asked_by-next desk script p r within at ∙ asked_by-other desk (take p script) r (ne_eqb r.0 desk other);
  here = k.here;
}

-- one record more before
pub one-more : (script : Script) (p : ℕ) (heads behind : List ℕ) (r : ℕ × Call) → AreNext script (p + 1) heads behind → p < length script → r ≡ get_or script p r → r.0 ≤ MOST_DESKS
    → AreNext script p (set heads r.0 p) (set behind p (slice_index heads r.0))
one-more script p heads behind r k within at low = record {
  desks = length-set heads r.0 p ∙ k.desks;
  size = length-set behind p (slice_index heads r.0) ∙ k.size;
  first = λ desk is_low. first-of desk is_low (cases_eq r.0 desk);
  next = λ place q from there q_low. next-of place q from there q_low (cases_eq p place);
}
  where
    own : slice_get script p ≡ Some r
    own = at-place script p r within at

    here-own : IsNextPlace script r.0 p p
    here-own = record { behind = omega arith; within = omega (arith, within); none = refl; here = λ q there. ap (λ (x : ℕ × Call). x.0) (same-at (slice_get script p) q r there own) }

    first-of : (desk : ℕ) → desk ≤ MOST_DESKS → (r.0 ≡ desk) ⊎ (r.0 ≢ desk) → IsNextPlace script desk p (slice_index (set heads r.0 p) desk)
    first-of desk is_low (inl same) =
        let desks = k.desks in
        let put : slice_index (set heads r.0 p) r.0 ≡ p = get_or-set_same heads r.0 p 0 (omega (arith, low, desks)) in
        subst (λ (d : ℕ). IsNextPlace script d p (slice_index (set heads r.0 p) d)) same (subst (IsNextPlace script r.0 p) (sym put) here-own)
    first-of desk is_low (inr other) =
        subst (IsNextPlace script desk p) (sym (get_or-set_other heads r.0 desk p 0 (λ e. other (sym e)))) (in-front script desk p (slice_index heads desk) r within at other (k.first desk is_low))

    next-of : (place : ℕ) (q : ℕ × Call) → p ≤ place → slice_get script place ≡ Some q → q.0 ≤ MOST_DESKS → (p ≡ place) ⊎ (p ≢ place) → IsNextPlace script q.0 (place + 1) (slice_index (set behind p (slice_index heads r.0)) place)
    next-of place q from there q_low (inl same) =
        let size = k.size in
        let is : q ≡ r = same-at (slice_get script place) q r there (ap (slice_get script) (sym same) ∙ own) in
        let put : slice_index (set behind p (slice_index heads r.0)) p ≡ slice_index heads r.0 = get_or-set_same behind p (slice_index heads r.0) 0 (omega (arith, within, size)) in
        let first : IsNextPlace script r.0 (p + 1) (slice_index (set behind p (slice_index heads r.0)) p) = subst (IsNextPlace script r.0 (p + 1)) (sym put) (k.first r.0 low) in
        subst (λ (x : ℕ × Call). IsNextPlace script x.0 (place + 1) (slice_index (set behind p (slice_index heads r.0)) place)) (sym is)
        (subst (λ (x : ℕ). IsNextPlace script r.0 (x + 1) (slice_index (set behind p (slice_index heads r.0)) x)) same first)
    next-of place q from there q_low (inr other) =
        subst (IsNextPlace script q.0 (place + 1)) (sym (get_or-set_other behind p place (slice_index heads r.0) 0 (λ e. other (sym e)))) (k.next place q (omega (arith, from, other)) there q_low)

-- a record before, with a desk number that no desk has
pub none-more : (script : Script) (p : ℕ) (heads behind : List ℕ) (r : ℕ × Call) → AreNext script (p + 1) heads behind → p < length script → r ≡ get_or script p r → MOST_DESKS < r.0 → AreNext script p heads behind
none-more script p heads behind r k within at high = record {
  desks = k.desks;
  size = k.size;
  first = λ desk low. in-front script desk p (slice_index heads desk) r within at (λ same. absurd (omega (arith, same, low, high))) (k.first desk low);
  next = λ place q from there low. next-of place q from there low (cases_eq p place);
}
  where
    next-of : (place : ℕ) (q : ℕ × Call) → p ≤ place → slice_get script place ≡ Some q → q.0 ≤ MOST_DESKS → (p ≡ place) ⊎ (p ≢ place) → IsNextPlace script q.0 (place + 1) (slice_index behind place)
    next-of place q from there low (inl same) =
        let is : q ≡ r = same-at (slice_get script place) q r there (ap (slice_get script) (sym same) ∙ at-place script p r within at) in
        let who : q.0 ≡ r.0 = ap (λ (x : ℕ × Call). x.0) is in
        absurd (omega (arith, who, low, high))
    next-of place q from there low (inr other) = k.next place q (omega (arith, from, other)) there low

-- what follows each record of a script
pub behind-all : (script : Script) (heads behind : List ℕ) → AreNext script 0 heads behind → AreBehind script behind
behind-all script heads behind k = record { size = k.size; next = λ place r there low. k.next place r (omega arith) there low }

-- nobody has called yet
pub none-come : (script : Script) (heads behind : List ℕ) → AreNext script 0 heads behind → HaveCome script [] heads
none-come script heads behind k = λ desk low. (0, refl, k.first desk low)

-- one more call, of its desk's next record
pub one-come : (script made : Script) (heads behind : List ℕ) (who : ℕ) (c : Call) (p : ℕ) (r : ℕ × Call) → AreBehind script behind → length heads ≡ MOST_DESKS + 1 → who ≤ MOST_DESKS → p ≡ slice_index heads who → p < length script
    → r ≡ get_or script p r → r.1 ≡ c → HaveCome script made heads → HaveCome script (made ++ (who, c) ∷ []) (set heads who (slice_index behind p))
one-come script made heads behind who c p r k desks low head within at same-call come desk desk_low = by (cases_eq who desk)
  where
    by : (who ≡ desk) ⊎ (who ≢ desk) → (at : ℕ) × (asked_by desk (made ++ (who, c) ∷ []) ≡ asked_by desk (take at script)) × IsNextPlace script desk at (slice_index (set heads who (slice_index behind p)) desk)
    by (inl same) =
        let was = come who low in
        let next : IsNextPlace script who was.0 p = subst (IsNextPlace script who was.0) (sym head) was.2 in
        let there : slice_get script p ≡ Some r = at-place script p r within at in
        let its : r.0 ≡ who = next.here r there in
        let both : (who, c) ≡ r = ap (λ (n : ℕ). (n, c)) (sym its) ∙ ap (λ (x : Call). (r.0, x)) (sym same-call) in
        let put : slice_index (set heads who (slice_index behind p)) who ≡ slice_index behind p = get_or-set_same heads who (slice_index behind p) 0 (omega (arith, low, desks)) in
        let asked : asked_by who (made ++ (who, c) ∷ []) ≡ asked_by who (take (p + 1) script) =
        asked_by-one who made (who, c) (eq-eqb who who refl) ∙ ap (λ (x : Script). x ++ (who, c) ∷ []) (was.1 ∙ sym next.none)
        ∙ ap (λ (x : ℕ × Call). asked_by who (take p script) ++ x ∷ []) both
        ∙ sym (asked_by-next who script p r within at ∙ asked_by-one who (take p script) r (eq-eqb r.0 who its)) in
        let place : IsNextPlace script who (p + 1) (slice_index (set heads who (slice_index behind p)) who) =
        subst (IsNextPlace script who (p + 1)) (sym put) (subst (λ (n : ℕ). IsNextPlace script n (p + 1) (slice_index behind p)) its (k.next p r there (omega (arith, its, low)))) in
        subst (λ (d : ℕ). (at : ℕ) × (asked_by d (made ++ (who, c) ∷ []) ≡ asked_by d (take at script)) × IsNextPlace script d at (slice_index (set heads who (slice_index behind p)) d)) same (p + 1, asked, place)
    by (inr other) =
        let was = come desk desk_low in (
          was.0,
          asked_by-other desk made (who, c) (ne_eqb who desk other) ∙ was.1,
          subst (IsNextPlace script desk was.0) (sym (get_or-set_other heads who desk (slice_index behind p) 0 (λ e. other (sym e)))) was.2,
        )

-- no record is left
pub all-come : (script made : Script) (heads : List ℕ) (desk : ℕ) → HaveCome script made heads → desk ≤ MOST_DESKS → slice_index heads desk ≡ length script → IsSame made script desk
all-come script made heads desk come low end =
    let was = come desk low in
    was.1 ∙ sym (none-left script desk was.0 (slice_index heads desk) was.2 end)
