-- The shortest way back.
use Rattle.std.proofs.Common.{◌≡◌, ◌≢◌, ◌⊎◌, inl, inr, ℕ, suc, ◌+◌, ◌<◌, ◌≤◌, List, [], ◌∷◌, ◌++◌, length, map, refl, sym, ap, subst, ◌∙◌, arith}
use Rattle.std.specs.Prelude.{⊤, Option, Some, None}
use Rattle.std.proofs.lemmas.Bool.{cases_lt}
use Rattle.std.proofs.lemmas.List.{length-append, length-map}
use Rattle.std.proofs.lemmas.Option.{same_Some}
use Rattle.mrp_loops.specs.declared.line.Line.{Line}
use Rattle.mrp_loops.specs.Needs.{line_at, IsWay, Needs}
use Rattle.mrp_loops.specs.Links.{turned}
use Rattle.mrp_loops.specs.Loops.{IsBefore, IsWayBack}
use Rattle.mrp_loops.specs.Search.{far_at, AreNearest}
use Rattle.mrp_loops.specs.Best.{HasNoLine, IsBestLine}
use Rattle.mrp_loops.specs.Way.{IsWayTo}
use Rattle.mrp_loops.proofs.Ways.{way-append, way-push, parent-turned, component-turned}

abbrev pub steps_in : Option ℕ → ℕ
steps_in None = 0
steps_in (Some d) = d

-- a place that is not later
not-later : (place another : ℕ) (other : List ℕ) → place ≤ another → IsBefore (place ∷ []) (another ∷ other)
not-later place another other least = by (cases_lt place another)
  where
    by : (place < another) ⊎ (another ≤ place) → (place < another) ⊎ ((place ≡ another) × ⊤)
    by (inl less) = inl less
    by (inr most) = inr (omega (arith, least, most), tt)

-- one more place before
before-more : (lines : List Line) (item bottom place count : ℕ) → ((another : ℕ) (rest : List ℕ) → IsWay lines bottom (another ∷ rest) item → length rest ≡ count → place ≤ another)
    → (top : ℕ) (way other : List ℕ) → IsWay lines top way bottom → IsWay lines top other item → length other ≡ length way + suc count → IsBefore way other → IsBefore (way ++ place ∷ []) other
before-more lines item bottom place count first top [] [] same leads long before = absurd (omega (arith, long))
before-more lines item bottom place count first top [] (another ∷ rest) same leads long before =
    not-later place another rest (first another rest (subst (λ (i : ℕ). IsWay lines i (another ∷ rest) item) same leads) (omega (arith, long)))
before-more lines item bottom place count first top (one ∷ way) [] there leads long before = absurd before
before-more lines item bottom place count first top (one ∷ way) (another ∷ rest) (inside, is, more) (within, at, leads) long (inl less) = inl less
before-more lines item bottom place count first top (one ∷ way) (another ∷ rest) (inside, is, more) (within, at, leads) long (inr (same, later)) =
    inr (
      same,
      before-more lines item bottom place count first (line_at lines one).component way rest more
          (subst (λ (k : ℕ). IsWay lines (line_at lines k).component rest item) (sym same) leads) (omega (arith, long)) later,
    )

module _ (lines : List Line) (far : List (Option ℕ)) (item : ℕ) (near : AreNearest lines item far) where
  -- a way back from an item to which a way leads has a line whose component was found
  leads-on : (at another : ℕ) (way rest : List ℕ) → IsWay lines item way at → IsWay lines at (another ∷ rest) item → (d : ℕ) × (far_at far (line_at lines another).component ≡ Some d) × (d ≤ length rest)
  leads-on at another way rest leads (inside, is, more) = near.near (line_at lines another).component rest (way ++ another ∷ []) more (way-push lines item at another way leads inside is)

  -- the best line is no farther than any way back, and no later than one as short
  best-least : (at place another : ℕ) (way rest : List ℕ) (best : IsBestLine (map turned lines) far at place) → IsWay lines item way at → IsWay lines at (another ∷ rest) item
      → (best.least ≤ length rest) × (length rest ≡ best.least → place ≤ another)
  best-least at place another way rest best leads (inside, is, more) =
      let (d, there, most) = leads-on at another way rest leads (inside, is, more) in
      by d most (best.best another d (omega (arith, inside, length-map lines turned)) (component-turned lines another ∙ is) (ap (far_at far) (parent-turned lines another) ∙ there))
    where
      by : (d : ℕ) → d ≤ length rest → (best.least < d) ⊎ ((best.least ≡ d) × (place ≤ another)) → (best.least ≤ length rest) × (length rest ≡ best.least → place ≤ another)
      by d most (inl less) = (omega (arith, less, most), λ same. absurd (omega (arith, less, most, same)))
      by d most (inr (same, first)) = (omega (arith, same, most), λ long. first)

  -- there is no way on without a line whose component was found
  no-way : (at another : ℕ) (way rest : List ℕ) → HasNoLine (map turned lines) far at → IsWay lines item way at → IsWay lines at (another ∷ rest) item → ⊥
  no-way at another way rest none leads (inside, is, more) =
      let (d, there, most) = leads-on at another way rest leads (inside, is, more) in
      none another d (omega (arith, inside, length-map lines turned)) (component-turned lines another ∙ is) (ap (far_at far) (parent-turned lines another) ∙ there)

  pub none-back : HasNoLine (map turned lines) far item → Needs lines item item → ⊥
  none-back none ([], some, leads) = omega (arith, some)
  none-back none (another ∷ rest, some, leads) = no-way item another [] rest none refl leads

  -- the first line of a way back
  pub way-begins : (place : ℕ) → IsBestLine (map turned lines) far item place → IsWayTo lines far item (place ∷ []) (line_at lines place).component
  way-begins place best = record {
    some = omega arith;
    leads = (omega (arith, best.inside, length-map lines turned), sym (component-turned lines place) ∙ best.to_item, refl);
    left = best.least;
    is_far = ap (far_at far) (sym (parent-turned lines place)) ∙ best.is_far;
    fewest = fewest;
    earliest = earliest;
  }
    where
      fewest : (other : List ℕ) → 0 < length other → IsWay lines item other item → 1 + best.least ≤ length other
      fewest [] some leads = absurd (omega (arith, some))
      fewest (another ∷ rest) some leads = omega (arith, (best-least item place another [] rest best refl leads).0)

      earliest : (other : List ℕ) → length other ≡ 1 + best.least → IsWay lines item other item → IsBefore (place ∷ []) other
      earliest [] long leads = absurd (omega (arith, long))
      earliest (another ∷ rest) long leads = not-later place another rest ((best-least item place another [] rest best refl leads).1 (omega (arith, long)))

  module _ (way : List ℕ) (at : ℕ) (t : IsWayTo lines far item way at) (apart : at ≢ item) where
    -- the way back from there
    rest-of : (another : ℕ) × (rest : List ℕ) × (suc (length rest) ≡ t.left) × IsWay lines at (another ∷ rest) item
    rest-of = let (back, long, leads) = near.ways at t.left t.is_far in by back long leads
      where
        by : (back : List ℕ) → length back ≡ t.left → IsWay lines at back item → (another : ℕ) × (rest : List ℕ) × (suc (length rest) ≡ t.left) × IsWay lines at (another ∷ rest) item
        by [] long leads = absurd (apart leads)
        by (another ∷ rest) long leads = (another, rest, long, leads)

    pub never-none : HasNoLine (map turned lines) far at → ⊥
    never-none none = let (another, rest, long, leads) = rest-of in no-way at another way rest none t.leads leads

    module _ (place : ℕ) (best : IsBestLine (map turned lines) far at place) where
      next-inside : place < length lines
      next-inside = omega (arith, best.inside, length-map lines turned)

      next-parent : (line_at lines place).parent ≡ at
      next-parent = sym (component-turned lines place) ∙ best.to_item

      next-far : far_at far (line_at lines place).component ≡ Some best.least
      next-far = ap (far_at far) (sym (parent-turned lines place)) ∙ best.is_far

      one-less : t.left ≡ best.least + 1
      one-less =
          let (another, rest, long, leads) = rest-of in
          let (back, short, on) = near.ways (line_at lines place).component best.least next-far in
          let whole = t.fewest (way ++ place ∷ back) (omega (arith, length-append way (place ∷ back))) (way-append lines item at item way (place ∷ back) t.leads (next-inside, next-parent, on)) in
          omega (arith, (best-least at place another way rest best t.leads leads).0, long, short, whole, length-append way (place ∷ back))

      pub way-more : IsWayTo lines far item (way ++ place ∷ []) (line_at lines place).component
      way-more = record {
        some = omega (arith, length-append way (place ∷ []));
        leads = way-push lines item at place way t.leads next-inside next-parent;
        left = best.least;
        is_far = next-far;
        fewest = λ other some leads. omega (arith, t.fewest other some leads, one-less, length-append way (place ∷ []));
        earliest = λ other long leads.
            let same : length other ≡ length way + t.left = omega (arith, long, one-less, length-append way (place ∷ [])) in
            before-more lines item at place best.least (λ another rest on short. (best-least at place another way rest best t.leads on).1 short)
            item way other t.leads leads (omega (arith, same, one-less)) (t.earliest other same leads);
      }

      pub way-nearer : steps_in (far_at far (line_at lines place).component) < steps_in (far_at far at)
      way-nearer = omega (arith, ap steps_in next-far, ap steps_in t.is_far, one-less)

  -- a way that is back at the item
  pub way-ends : (way : List ℕ) (at : ℕ) → IsWayTo lines far item way at → at ≡ item → IsWayBack lines item way
  way-ends way at t same =
      let none : t.left ≡ 0 = same_Some t.left 0 (sym t.is_far ∙ ap (far_at far) same ∙ near.first) in
      record {
        some = t.some;
        leads = subst (λ (i : ℕ). IsWay lines item way i) same t.leads;
        fewest = λ other some leads. omega (arith, t.fewest other some leads);
        earliest = λ other long leads. t.earliest other (omega (arith, long, none)) leads;
      }
