-- Lists of the lines to each item.
use Rattle.std.proofs.Common.{◌≡◌, ◌≢◌, ◌⊎◌, inl, inr, ℕ, ◌+◌, ◌<◌, ◌≤◌, List, [], ◌∷◌, ◌++◌, length, refl, sym, ap, subst, ◌∙◌, arith}
use Rattle.std.specs.Prelude.{Option, Some, None, replicate}
use Rattle.std.proofs.Math.ListN.{set}
use Rattle.std.proofs.lemmas.Bool.{cases_eq, cases_lt}
use Rattle.std.proofs.lemmas.List.{get_or-replicate, length-replicate, get_or-set_same, get_or-set_other, length-set, length-append, get_or_push, get_or_append_left}
use Rattle.mrp_loops.specs.declared.line.Line.{Line}
use Rattle.mrp_loops.specs.Needs.{line_at}
use Rattle.mrp_loops.specs.Links.{place_at, IsLastTo, AreListsTo}
use Rattle.mrp_loops.specs.Walk.{lines_left}

-- one more line, to another item
last-passes : (lines : List Line) (item end : ℕ) (place : Option ℕ) → IsLastTo lines item end place → (line_at lines end).component ≢ item → IsLastTo lines item (end + 1) place
last-passes lines item end None none other = λ k below is. by k below is (cases_lt k end)
  where
    by : (k : ℕ) → k < end + 1 → (line_at lines k).component ≡ item → (k < end) ⊎ (end ≤ k) → ⊥
    by k below is (inl less) = none k less is
    by k below is (inr most) =
        let same : end ≡ k = omega (arith, below, most) in
        other (ap (λ (j : ℕ). (line_at lines j).component) same ∙ is)
last-passes lines item end (Some place) (inside, to, after) other = (omega (arith, inside), to, λ k more below is. by k more below is (cases_lt k end))
  where
    by : (k : ℕ) → place < k → k < end + 1 → (line_at lines k).component ≡ item → (k < end) ⊎ (end ≤ k) → ⊥
    by k more below is (inl less) = after k more less is
    by k more below is (inr most) =
        let same : end ≡ k = omega (arith, below, most) in
        other (ap (λ (j : ℕ). (line_at lines j).component) same ∙ is)

-- one more line, to the item
last-here : (lines : List Line) (item end : ℕ) → (line_at lines end).component ≡ item → IsLastTo lines item (end + 1) (Some end)
last-here lines item end is = (omega arith, is, λ k more below. absurd (omega (arith, more, below)))

-- the lists of no line
pub lists-none : (count : ℕ) (lines : List Line) → AreListsTo count lines 0 (replicate count None) []
lists-none count lines = record {
  last_size = length-replicate count None;
  previous_size = refl;
  of_items = λ item inside. subst (λ (place : Option ℕ). IsLastTo lines item 0 place) (sym (get_or-replicate count item None None inside)) (λ k below. absurd (omega (arith, below)));
  of_lines = λ k below. absurd (omega (arith, below));
}

-- the lists of one more line
pub lists-more : (count : ℕ) (lines : List Line) (end : ℕ) (last previous : List (Option ℕ)) → AreListsTo count lines end last previous → (line_at lines end).component < count
    → AreListsTo count lines (end + 1) (set last (line_at lines end).component (Some end)) (previous ++ place_at last (line_at lines end).component ∷ [])
lists-more count lines end last previous are within = record {
  last_size = length-set last (line_at lines end).component (Some end) ∙ are.last_size;
  previous_size = omega (arith, length-append previous (place_at last (line_at lines end).component ∷ []), are.previous_size);
  of_items = λ item inside. last-more item inside (cases_eq item (line_at lines end).component);
  of_lines = λ k below. previous-more k below (cases_lt k end);
}
  where
    last-more : (item : ℕ) → item < count → (item ≡ (line_at lines end).component) ⊎ (item ≡ (line_at lines end).component → ⊥)
        → IsLastTo lines item (end + 1) (place_at (set last (line_at lines end).component (Some end)) item)
    last-more item inside (inl same) =
        let there : (line_at lines end).component < length last = omega (arith, within, are.last_size) in
        let put : place_at (set last (line_at lines end).component (Some end)) item ≡ Some end =
        ap (place_at (set last (line_at lines end).component (Some end))) same ∙ get_or-set_same last (line_at lines end).component (Some end) None there in
        subst (λ (place : Option ℕ). IsLastTo lines item (end + 1) place) (sym put) (last-here lines item end (sym same))
    last-more item inside (inr other) =
        let kept : place_at (set last (line_at lines end).component (Some end)) item ≡ place_at last item = get_or-set_other last (line_at lines end).component item (Some end) None other in
        subst (λ (place : Option ℕ). IsLastTo lines item (end + 1) place) (sym kept)
        (last-passes lines item end (place_at last item) (are.of_items item inside) (λ e. other (sym e)))

    previous-more : (k : ℕ) → k < end + 1 → (k < end) ⊎ (end ≤ k) → IsLastTo lines (line_at lines k).component k (place_at (previous ++ place_at last (line_at lines end).component ∷ []) k)
    previous-more k below (inl less) =
        let old : place_at (previous ++ place_at last (line_at lines end).component ∷ []) k ≡ place_at previous k =
        get_or_append_left previous (place_at last (line_at lines end).component ∷ []) None k (omega (arith, less, are.previous_size)) in
        subst (λ (place : Option ℕ). IsLastTo lines (line_at lines k).component k place) (sym old) (are.of_lines k less)
    previous-more k below (inr most) =
        let same : k ≡ end = omega (arith, below, most) in
        let put : place_at (previous ++ place_at last (line_at lines end).component ∷ []) k ≡ place_at last (line_at lines end).component =
        get_or_push previous (place_at last (line_at lines end).component) None k (omega (arith, same, are.previous_size)) in
        subst (λ (place : Option ℕ). IsLastTo lines (line_at lines k).component k place) (sym put)
        (subst (λ (j : ℕ). IsLastTo lines (line_at lines j).component j (place_at last (line_at lines end).component)) (sym same) (are.of_items (line_at lines end).component within))

-- The lines to an item are gone through from the last one on.

-- the lines to an item behind a place are done, and that line is one of them
abbrev pub AreDone : (ℕ → Type 0) → List Line → ℕ → Option ℕ → Type 0
AreDone P lines item None = (k : ℕ) → k < length lines → (line_at lines k).component ≡ item → P k
AreDone P lines item (Some place) = (place < length lines) × ((line_at lines place).component ≡ item) × ((k : ℕ) → place < k → k < length lines → (line_at lines k).component ≡ item → P k)

pub done-none : (P : ℕ → Type 0) (lines : List Line) (item : ℕ) (place : Option ℕ) → IsLastTo lines item (length lines) place → AreDone P lines item place
done-none P lines item None none = λ k below is. absurd (none k below is)
done-none P lines item (Some place) (inside, is, after) = (inside, is, λ k more below to. absurd (after k more below to))

pub done-more : (P Q : ℕ → Type 0) (lines : List Line) (item place : ℕ) (next : Option ℕ) → AreDone P lines item (Some place)
    → ((k : ℕ) → place < k → P k → Q k) → Q place → IsLastTo lines (line_at lines place).component place next → AreDone Q lines item next
done-more P Q lines item place next (inside, is, after) stays here last = by next (subst (λ (i : ℕ). IsLastTo lines i place next) is last)
  where
    from : (k : ℕ) → k < length lines → (line_at lines k).component ≡ item → place ≤ k → (place < k) ⊎ (k ≤ place) → Q k
    from k below to least (inl more) = stays k more (after k more below to)
    from k below to least (inr most) =
        let same : place ≡ k = omega (arith, least, most) in
        subst Q same here

    each : (k : ℕ) → k < length lines → (line_at lines k).component ≡ item → (k < place → ⊥) → (k < place) ⊎ (place ≤ k) → Q k
    each k below to none (inl less) = absurd (none less)
    each k below to none (inr least) = from k below to least (cases_lt place k)

    by : (next : Option ℕ) → IsLastTo lines item place next → AreDone Q lines item next
    by None none = λ k below to. each k below to (λ less. none k less to) (cases_lt k place)
    by (Some before) (less, given, between) =
        (omega (arith, less, inside), given, λ k more below to. each k below to (λ under. between k more under to) (cases_lt k place))

pub fewer-left : (lines : List Line) (item place : ℕ) (next : Option ℕ) → IsLastTo lines item place next → lines_left next < place + 1
fewer-left lines item place None none = omega arith
fewer-left lines item place (Some before) (less, given, between) = omega (arith, less)
