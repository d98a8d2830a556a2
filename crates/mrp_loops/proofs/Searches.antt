-- The steps of a search.
use Rattle.std.proofs.Common.{◌≡◌, ◌⊎◌, inl, inr, ℕ, ◌+◌, ◌<◌, ◌≤◌, List, [], ◌∷◌, length, refl, sym, ap, subst, ◌∙◌, arith}
use Rattle.std.specs.Prelude.{Option, Some, None, replicate, slice_index}
use Rattle.std.proofs.lemmas.Bool.{cases_eq, cases_lt}
use Rattle.std.proofs.lemmas.List.{ext_get_or, get_or-replicate, get_or-set_same, get_or-set_other, length-set, length-append, length-replicate, get_or_push, get_or_append_left}
use Rattle.std.proofs.lemmas.List.Folds.{sum_by-replicate}
use Rattle.std.proofs.lemmas.List.Sums.{sum_by-set}
use Rattle.std.proofs.lemmas.Option.{none-some, same_Some}
use Rattle.mrp_loops.specs.declared.line.Line.{Line}
use Rattle.mrp_loops.specs.declared.search.Met.{Met}
use Rattle.mrp_loops.specs.declared.search.Search.{Search}
use Rattle.mrp_loops.specs.Needs.{line_at, IsWay}
use Rattle.mrp_loops.specs.Search.{far_at, met_at, one_if_unmet, unmet, AreListed, Extends, IsClear, IsMet, IsPassed, IsSearch, Meets, MeetsNew}
use Rattle.mrp_loops.proofs.Listed.{AreDone}

pub extends-refl : (s : Search) → Extends s s
extends-refl s = record { longer = omega arith; kept = λ k below. refl }

pub extends-on : (a b c : Search) → Extends a b → Extends b c → Extends a c
extends-on a b c f g = record { longer = omega (arith, f.longer, g.longer); kept = λ k below. g.kept k (omega (arith, below, f.longer)) ∙ f.kept k below }

-- What one step gives.
pub record MeetsMore (lines : List Line) (ranks : List ℕ) (from next most place : ℕ) (s t : Search) : Type 0 where
  pub search : IsSearch lines ranks from next t
  pub extends : Extends s t
  pub stays : (k : ℕ) → IsPassed lines ranks from s.far.items most k → IsPassed lines ranks from t.far.items most k
  pub here : IsPassed lines ranks from t.far.items most place

module _ (s t : Search) (item d : ℕ) (m : Meets s t item d) where
  longer : length t.met.items ≡ length s.met.items + 1
  longer = ap length m.met ∙ length-append s.met.items (record { item = item; far = d } ∷ [])

  front : (k : ℕ) → k < length s.met.items → met_at t.met.items k ≡ met_at s.met.items k
  front k below = ap (λ (met : List Met). met_at met k) m.met ∙ get_or_append_left s.met.items (record { item = item; far = d } ∷ []) (record { item = 0; far = 0 }) k below

  end : (k : ℕ) → length s.met.items ≡ k → met_at t.met.items k ≡ record { item = item; far = d }
  end k is = ap (λ (met : List Met). met_at met k) m.met ∙ get_or_push s.met.items (record { item = item; far = d }) (record { item = 0; far = 0 }) k is

  put : item < length s.far.items → far_at t.far.items item ≡ Some d
  put inside = ap (λ (far : List (Option ℕ)). far_at far item) m.far ∙ get_or-set_same s.far.items item (Some d) None inside

  apart : (one : ℕ) → (one ≡ item → ⊥) → far_at t.far.items one ≡ far_at s.far.items one
  apart one other = ap (λ (far : List (Option ℕ)). far_at far one) m.far ∙ get_or-set_other s.far.items item one (Some d) None other

  kept : far_at s.far.items item ≡ None → (one far : ℕ) → far_at s.far.items one ≡ Some far → far_at t.far.items one ≡ Some far
  kept free one far is = by (cases_eq one item)
    where
      by : (one ≡ item) ⊎ (one ≡ item → ⊥) → far_at t.far.items one ≡ Some far
      by (inl same) = absurd (none-some far (sym free ∙ ap (far_at s.far.items) (sym same) ∙ is))
      by (inr other) = apart one other ∙ is

  sized : length t.far.items ≡ length s.far.items
  sized = ap length m.far ∙ length-set s.far.items item (Some d)

  -- nothing was found before
  pub search-begins : (lines : List Line) (ranks : List ℕ) → IsClear (length ranks) s → item < length ranks → d ≡ 0 → IsSearch lines ranks item 0 t
  search-begins lines ranks clear within none = record {
    size = sized ∙ clear.size;
    work = rw m.far (omega (arith, longer, empty, clear.unmet, clear.size, length-set s.far.items item (Some d), sum_by-set one_if_unmet s.far.items item (Some d) None (omega (arith, within, clear.size)), ap one_if_unmet (clear.far item)));
    some = omega (arith, longer);
    first = only 0 (omega (arith, longer, empty));
    met = λ k below. subst (λ (one : Met). far_at t.far.items one.item ≡ Some one.far) (sym (only k below)) (put (omega (arith, within, clear.size)) ∙ ap (λ (n : ℕ). Some n) none);
    listed = λ one far is. (0, omega (arith, longer), listed one far is (cases_eq one item));
    ways = λ k below. subst (λ (one : Met). (way : List ℕ) × (length way ≡ one.far) × IsWay lines one.item way item) (sym (only k below)) ([], refl, refl);
    small = λ k below. omega (arith, ap (λ (one : Met). one.far) (only k below));
    rising = λ j k least below. omega (arith, ap (λ (one : Met). one.far) (only k below), ap (λ (one : Met). one.far) (only j (omega (arith, least, below))));
    span = λ k below some. omega (arith, ap (λ (one : Met). one.far) (only k below));
    passed = λ k place below. absurd (omega (arith, below));
  }
    where
      empty : length s.met.items ≡ 0
      empty = ap length clear.met

      only : (k : ℕ) → k < length t.met.items → met_at t.met.items k ≡ record { item = item; far = 0 }
      only k below = end k (omega (arith, below, longer, empty)) ∙ ap (λ (n : ℕ). record { item = item; far = n }) none

      listed : (one far : ℕ) → far_at t.far.items one ≡ Some far → (one ≡ item) ⊎ (one ≡ item → ⊥) → (met_at t.met.items 0).item ≡ one
      listed one far is (inl same) = ap (λ (m : Met). m.item) (only 0 (omega (arith, longer))) ∙ sym same
      listed one far is (inr other) = absurd (none-some far (sym (clear.far one) ∙ sym (apart one other) ∙ is))

  module _ (lines : List Line) (ranks : List ℕ) (from next : ℕ) (k : IsSearch lines ranks from next s) (free : far_at s.far.items item ≡ None) (inside : item < length s.far.items) (at : next < length s.met.items)
      (is : d ≡ (met_at s.met.items next).far + 1) (way : List ℕ) (long : length way ≡ d) (leads : IsWay lines item way from) where
    cases : (n : ℕ) → n < length t.met.items → (n < length s.met.items) ⊎ (length s.met.items ≡ n)
    cases n below = by (cases_lt n (length s.met.items))
      where
        by : (n < length s.met.items) ⊎ (length s.met.items ≤ n) → (n < length s.met.items) ⊎ (length s.met.items ≡ n)
        by (inl less) = inl less
        by (inr most) = inr (omega (arith, below, most, longer))

    far-front : (n : ℕ) → n < length s.met.items → (met_at t.met.items n).far ≡ (met_at s.met.items n).far
    far-front n less = ap (λ (one : Met). one.far) (front n less)

    far-end : (n : ℕ) → length s.met.items ≡ n → (met_at t.met.items n).far ≡ d
    far-end n same = ap (λ (one : Met). one.far) (end n same)

    pub passed-stays : (most place : ℕ) → IsPassed lines ranks from s.far.items most place → IsPassed lines ranks from t.far.items most place
    passed-stays most place passed = λ rank. let (e, there, least) = passed rank in (e, kept free (line_at lines place).parent e there, least)

    pub search-meets : IsSearch lines ranks from next t
    search-meets = record {
      size = sized ∙ k.size;
      work = rw m.far (omega (arith, longer, k.work, length-set s.far.items item (Some d), sum_by-set one_if_unmet s.far.items item (Some d) None inside, ap one_if_unmet free));
      some = omega (arith, longer);
      first = front 0 k.some ∙ k.first;
      met = λ n below. met n (cases n below);
      listed = λ one far found. listed one far found (cases_eq one item);
      ways = λ n below. ways n (cases n below);
      small = λ n below. small n (cases n below);
      rising = λ i n least below. rising i n least (cases i (omega (arith, least, below))) (cases n below);
      span = λ n below some. span n (cases n below);
      passed = λ n place below within to.
          let less : n < length s.met.items = omega (arith, below, at) in
          subst (λ (one : Met). IsPassed lines ranks from t.far.items (one.far + 1) place) (sym (front n less))
          (passed-stays ((met_at s.met.items n).far + 1) place (k.passed n place below within (to ∙ ap (λ (one : Met). one.item) (front n less))));
    }
      where
        met : (n : ℕ) → (n < length s.met.items) ⊎ (length s.met.items ≡ n) → far_at t.far.items (met_at t.met.items n).item ≡ Some (met_at t.met.items n).far
        met n (inl less) = subst (λ (one : Met). far_at t.far.items one.item ≡ Some one.far) (sym (front n less)) (kept free (met_at s.met.items n).item (met_at s.met.items n).far (k.met n less))
        met n (inr same) = subst (λ (one : Met). far_at t.far.items one.item ≡ Some one.far) (sym (end n same)) (put inside)

        listed : (one far : ℕ) → far_at t.far.items one ≡ Some far → (one ≡ item) ⊎ (one ≡ item → ⊥) → (n : ℕ) × (n < length t.met.items) × ((met_at t.met.items n).item ≡ one)
        listed one far found (inl same) = (length s.met.items, omega (arith, longer), ap (λ (m : Met). m.item) (end (length s.met.items) refl) ∙ sym same)
        listed one far found (inr other) =
            let (n, below, there) = k.listed one far (sym (apart one other) ∙ found) in
            (n, omega (arith, below, longer), ap (λ (m : Met). m.item) (front n below) ∙ there)

        ways : (n : ℕ) → (n < length s.met.items) ⊎ (length s.met.items ≡ n) → (way : List ℕ) × (length way ≡ (met_at t.met.items n).far) × IsWay lines (met_at t.met.items n).item way from
        ways n (inl less) = subst (λ (one : Met). (way : List ℕ) × (length way ≡ one.far) × IsWay lines one.item way from) (sym (front n less)) (k.ways n less)
        ways n (inr same) = subst (λ (one : Met). (way : List ℕ) × (length way ≡ one.far) × IsWay lines one.item way from) (sym (end n same)) (way, long, leads)

        small : (n : ℕ) → (n < length s.met.items) ⊎ (length s.met.items ≡ n) → (met_at t.met.items n).far ≤ n
        small n (inl less) = omega (arith, far-front n less, k.small n less)
        small n (inr same) = omega (arith, far-end n same, is, k.small next at, at, same)

        rising : (i n : ℕ) → i ≤ n → (i < length s.met.items) ⊎ (length s.met.items ≡ i) → (n < length s.met.items) ⊎ (length s.met.items ≡ n) → (met_at t.met.items i).far ≤ (met_at t.met.items n).far
        rising i n least (inl one) (inl two) = omega (arith, far-front i one, far-front n two, k.rising i n least two)
        rising i n least (inl one) (inr two) = omega (arith, far-front i one, far-end n two, k.span i one at, is)
        rising i n least (inr one) (inl two) = absurd (omega (arith, least, one, two))
        rising i n least (inr one) (inr two) = omega (arith, far-end i one, far-end n two)

        span : (n : ℕ) → (n < length s.met.items) ⊎ (length s.met.items ≡ n) → (met_at t.met.items n).far ≤ (met_at t.met.items next).far + 1
        span n (inl less) = omega (arith, far-front n less, far-front next at, k.span n less at)
        span n (inr same) = omega (arith, far-end n same, far-front next at, is)

-- the parent in a line is found, if it is to be found
pub meets-more : (lines : List Line) (ranks : List ℕ) (from next most place : ℕ) (s t : Search) → IsSearch lines ranks from next s → next < length s.met.items
    → most ≡ (met_at s.met.items next).far + 1 → place < length lines → (line_at lines place).component ≡ (met_at s.met.items next).item → (line_at lines place).parent < length ranks
    → MeetsNew ranks (slice_index ranks from) s t (line_at lines place).parent most → MeetsMore lines ranks from next most place s t
meets-more lines ranks from next most place s t k at is inside to within (inl (same, met)) =
    subst (λ (u : Search). MeetsMore lines ranks from next most place s u) (sym same)
    (record { search = k; extends = extends-refl s; stays = λ n passed. passed; here = λ rank. old (met rank) })
  where
    old : IsMet s (line_at lines place).parent → (d : ℕ) × (far_at s.far.items (line_at lines place).parent ≡ Some d) × (d ≤ most)
    old (d, there) =
        let (n, below, item) = k.listed (line_at lines place).parent d there in
        let exact : (met_at s.met.items n).far ≡ d = same_Some (met_at s.met.items n).far d (sym (k.met n below) ∙ ap (far_at s.far.items) item ∙ there) in
        (d, there, omega (arith, exact, k.span n below at, is))
meets-more lines ranks from next most place s t k at is inside to within (inr (free, m)) =
    let (way, long, leads) = k.ways next at in
    let here : (line_at lines place).parent < length s.far.items = omega (arith, within, k.size) in
    let on : IsWay lines (line_at lines place).parent (place ∷ way) from = (inside, refl, subst (λ (i : ℕ). IsWay lines i way from) (sym to) leads) in
    record {
      search = search-meets s t (line_at lines place).parent most m lines ranks from next k free here at is (place ∷ way) (omega (arith, long, is)) on;
      extends = record { longer = omega (arith, longer s t (line_at lines place).parent most m); kept = front s t (line_at lines place).parent most m };
      stays = passed-stays s t (line_at lines place).parent most m lines ranks from next k free here at is (place ∷ way) (omega (arith, long, is)) on most;
      here = λ rank. (most, put s t (line_at lines place).parent most m here, omega arith);
    }

-- all lines to the next item were passed
pub search-next : (lines : List Line) (ranks : List ℕ) (from next : ℕ) (s : Search) → IsSearch lines ranks from next s → next < length s.met.items
    → AreDone (IsPassed lines ranks from s.far.items ((met_at s.met.items next).far + 1)) lines (met_at s.met.items next).item None → IsSearch lines ranks from (next + 1) s
search-next lines ranks from next s k at done = record {
  size = k.size;
  work = k.work;
  some = k.some;
  first = k.first;
  met = k.met;
  listed = k.listed;
  ways = k.ways;
  small = k.small;
  rising = k.rising;
  span = λ n below some. omega (arith, k.span n below at, k.rising next (next + 1) (omega arith) some);
  passed = λ n place below. passed n place (cases_lt n next) below;
}
  where
    passed : (n place : ℕ) → (n < next) ⊎ (next ≤ n) → n < next + 1 → place < length lines → (line_at lines place).component ≡ (met_at s.met.items n).item
        → IsPassed lines ranks from s.far.items ((met_at s.met.items n).far + 1) place
    passed n place (inl less) below within to = k.passed n place less within to
    passed n place (inr most) below within to =
        let same : next ≡ n = omega (arith, below, most) in
        subst (λ (j : ℕ). IsPassed lines ranks from s.far.items ((met_at s.met.items j).far + 1) place) same
        (done place within (to ∙ ap (λ (j : ℕ). (met_at s.met.items j).item) (sym same)))

-- nothing is found any more
pub all-clear : (s t : Search) → AreListed s → s.met.items ≡ [] → t.far.items ≡ s.far.items → t.met.items ≡ [] → IsClear (length s.far.items) t
all-clear s t are empty far met = record {
  size = ap length far;
  far = λ item. ap (λ (f : List (Option ℕ)). far_at f item) far ∙ none item;
  unmet = omega (arith, ap unmet far, ap unmet same, sum_by-replicate one_if_unmet (length s.far.items) None);
  met = met;
}
  where
    by : (item : ℕ) (far : Option ℕ) → far_at s.far.items item ≡ far → far_at s.far.items item ≡ None
    by item None is = is
    by item (Some d) is =
        let (k, below, there) = are.listed item d is in
        absurd (omega (arith, below, ap length empty))

    none : (item : ℕ) → far_at s.far.items item ≡ None
    none item = by item (far_at s.far.items item) refl

    same : s.far.items ≡ replicate (length s.far.items) None
    same =
        ext_get_or None s.far.items (replicate (length s.far.items) None) (sym (length-replicate (length s.far.items) None))
        (λ i inside. none i ∙ sym (get_or-replicate (length s.far.items) i None None inside))
