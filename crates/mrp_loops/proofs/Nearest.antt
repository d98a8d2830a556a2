-- How far the items are that a search has found.
use Rattle.std.proofs.Common.{◌≡◌, ◌⊎◌, inl, inr, ℕ, ◌<◌, ◌≤◌, List, [], ◌∷◌, ◌++◌, length, map, sym, ap, subst, ◌∙◌, arith}
use Rattle.std.specs.Prelude.{Option, Some, None, slice_index}
use Rattle.std.proofs.lemmas.Bool.{cases_lt}
use Rattle.std.proofs.lemmas.List.{get_or_past}
use Rattle.std.proofs.lemmas.Option.{none-some, same_Some}
use Rattle.mrp_loops.specs.declared.line.Line.{Line}
use Rattle.mrp_loops.specs.declared.search.Met.{Met}
use Rattle.mrp_loops.specs.declared.search.Search.{Search}
use Rattle.mrp_loops.specs.Needs.{line_at, IsWay}
use Rattle.mrp_loops.specs.Links.{turned}
use Rattle.mrp_loops.specs.Ranks.{NeverRise}
use Rattle.mrp_loops.specs.Search.{far_at, met_at, AreListed, AreNearest, IsSearched}
use Rattle.mrp_loops.proofs.Ways.{way-push, way-turned_back}

pub far-inside : (far : List (Option ℕ)) (item d : ℕ) → far_at far item ≡ Some d → item < length far
far-inside far item d is = by (cases_lt item (length far))
  where
    by : (item < length far) ⊎ (length far ≤ item) → item < length far
    by (inl inside) = inside
    by (inr past) = absurd (none-some d (sym (get_or_past far item None past) ∙ is))

-- items with ways to one another have one rank
abbrev pub SameRank : List Line → List ℕ → Type 0
SameRank lines ranks = (a b : ℕ) (down up : List ℕ) → IsWay lines a down b → IsWay lines b up a → slice_index ranks a ≡ slice_index ranks b

rank-falls : (lines : List Line) (ranks : List ℕ) → NeverRise lines ranks → (top bottom : ℕ) (way : List ℕ) → IsWay lines top way bottom → slice_index ranks bottom ≤ slice_index ranks top
rank-falls lines ranks never top bottom [] same = omega (arith, ap (slice_index ranks) same)
rank-falls lines ranks never top bottom (place ∷ rest) (inside, is, more) =
    omega (arith, rank-falls lines ranks never (line_at lines place).component bottom rest more, never place inside, ap (slice_index ranks) is)

pub same-up : (lines : List Line) (ranks : List ℕ) → NeverRise lines ranks → SameRank lines ranks
same-up lines ranks never = λ a b down up there back. omega (arith, rank-falls lines ranks never a b down there, rank-falls lines ranks never b a up back)

pub same-down : (lines : List Line) (ranks : List ℕ) → NeverRise lines ranks → SameRank (map turned lines) ranks
same-down lines ranks never = λ a b down up there back.
    let (one, first) = way-turned_back lines a b down there in
    let (two, second) = way-turned_back lines b a up back in
    omega (arith, rank-falls lines ranks never b a one first, rank-falls lines ranks never a b two second)

module _ (lines : List Line) (ranks : List ℕ) (from : ℕ) (s : Search) (same : SameRank lines ranks) (searched : IsSearched lines ranks from s) where
  first : far_at s.far.items from ≡ Some 0
  first =
      let is = searched.met 0 searched.some in
      ap (λ (m : Met). far_at s.far.items m.item) (sym searched.first) ∙ is ∙ ap (λ (m : Met). Some m.far) searched.first

  -- the one that was found there
  found : (item d : ℕ) → far_at s.far.items item ≡ Some d → (k : ℕ) × (k < length s.met.items) × ((met_at s.met.items k).item ≡ item) × ((met_at s.met.items k).far ≡ d)
  found item d is =
      let (k, below, there) = searched.listed item d is in
      (k, below, there, same_Some (met_at s.met.items k).far d (sym (searched.met k below) ∙ ap (far_at s.far.items) there ∙ is))

  near : (other : ℕ) (way back : List ℕ) → IsWay lines other way from → IsWay lines from back other → (d : ℕ) × (far_at s.far.items other ≡ Some d) × (d ≤ length way)
  near other [] back leads up = (0, ap (far_at s.far.items) leads ∙ first, omega arith)
  near other (place ∷ rest) back (inside, is, more) up =
      let (d, far, most) = near (line_at lines place).component rest (back ++ place ∷ []) more (way-push lines from other place back up inside is) in
      let (k, below, there, exact) = found (line_at lines place).component d far in
      let rank : slice_index ranks (line_at lines place).parent ≡ slice_index ranks from = ap (slice_index ranks) is ∙ same other from (place ∷ rest) back (inside, is, more) up in
      let (e, near_by, least) = searched.passed k place below inside (sym there) rank in
      (e, ap (far_at s.far.items) (sym is) ∙ near_by, omega (arith, least, most, exact))

  pub nearest : AreNearest lines from s.far.items
  nearest = record {
    first = first;
    ways = λ other d is.
        let (k, below, there, exact) = found other d is in
        let (way, long, leads) = searched.ways k below in
        (way, long ∙ exact, subst (λ (i : ℕ). IsWay lines i way from) there leads);
    small = λ other d is.
        let (k, below, there, exact) = found other d is in
        omega (arith, searched.small k below, below, exact, searched.work);
    near = near;
  }

  pub searched-listed : AreListed s
  searched-listed = record {
    within = λ k below. far-inside s.far.items (met_at s.met.items k).item (met_at s.met.items k).far (searched.met k below);
    listed = searched.listed;
  }
