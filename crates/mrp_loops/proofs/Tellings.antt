-- The loops of the first items, and of one more.
use Rattle.std.proofs.Common.{◌≡◌, ◌⊎◌, inl, inr, ℕ, ◌+◌, ◌<◌, ◌≤◌, false, List, [], ◌∷◌, ◌++◌, length, map, sym, ap, subst, ◌∙◌, arith}
use Rattle.std.specs.Prelude.{Vec, All, slice_index, slice_index_or}
use Rattle.std.specs.declared.alloc.Global.{Global}
use Rattle.std.specs.List.{Contains}
use Rattle.std.proofs.lemmas.Bool.{cases_lt}
use Rattle.std.proofs.lemmas.List.{get_or_push, get_or_append_left, length-append, map_push}
use Rattle.std.proofs.lemmas.List.Elements.{All-cons, All-nil, All-push, All-weaker, Contains-append_left, Contains-push, Contains-push_cases}
use Rattle.mrp_loops.specs.declared.line.Line.{Line}
use Rattle.mrp_loops.specs.declared.line.Loop.{Loop}
use Rattle.mrp_loops.specs.declared.search.Search.{Search}
use Rattle.mrp_loops.specs.declared.telling.Telling.{Telling}
use Rattle.mrp_loops.specs.Needs.{AreWithin, line_at, IsWay, IsFirst, Needs, NeedEachOther}
use Rattle.mrp_loops.specs.Links.{turned}
use Rattle.mrp_loops.specs.Loops.{AreRising, IsTold, IsWayBack, IsWithin, items_of}
use Rattle.mrp_loops.specs.Ranks.{NeverRise}
use Rattle.mrp_loops.specs.Search.{met_at, AreNearest, IsClear, IsMarked, IsMet, IsSearched, MarksBoth}
use Rattle.mrp_loops.specs.Telling.{IsTelling, TellsIfAny, TellsLoop}
use Rattle.mrp_loops.proofs.Nearest.{nearest, same-down}
use Rattle.mrp_loops.proofs.Ways.{needs-on, way-append, way-turned, way-turned_back}

-- what needs another item is an item
pub needs-inside : (count : ℕ) (lines : List Line) (item other : ℕ) → AreWithin count lines → Needs lines item other → item < count
needs-inside count lines item other within ([], some, leads) = absurd (omega (arith, some))
needs-inside count lines item other within (place ∷ rest, some, (inside, is, leads)) = omega (arith, is, (within place (record { parent = 0; component = 0 }) inside).0)

-- the searches up and down mark the items of a set
pub tells-loop : (lines : List Line) (ranks : List ℕ) (item : ℕ) (way : Vec ℕ Global) (s t : Telling) (found : Search) → NeverRise lines ranks → IsSearched (map turned lines) ranks item found
    → length s.told.items ≡ length ranks → MarksBoth found s.above s.told.items t.told.items → t.above ≡ s.above → IsClear (length found.far.items) t.below
    → t.loops.items ≡ s.loops.items ++ (record { item = item; way = way } ∷ []) → TellsLoop lines (length ranks) item way s t
tells-loop lines ranks item way s t found never searched size marks above below loops = record {
  above = above;
  below = subst (λ (n : ℕ). IsClear n t.below) searched.size below;
  size = marks.size ∙ size;
  kept = marks.kept;
  only = λ other marked. only other (marks.only other marked);
  both = λ other down up met there back.
      let (one, first) = way-turned lines item other down there in
      let (two, second) = way-turned lines other item up back in
      let (d, far, most) = near.near other one two first second in
      let (k, inside, is) = searched.listed other d far in
      subst (IsMarked t.told.items) is (marks.both k inside (subst (IsMet s.above) (sym is) met));
  loops = loops;
}
  where
    near : AreNearest (map turned lines) item found.far.items
    near = nearest (map turned lines) ranks item found (same-down lines ranks never) searched

    only : (other : ℕ) → IsMarked s.told.items other ⊎ ((k : ℕ) × (k < length found.met.items) × ((met_at found.met.items k).item ≡ other) × IsMet s.above other)
        → IsMarked s.told.items other ⊎ (IsMet s.above other × ((down : List ℕ) × IsWay lines item down other))
    only other (inl old) = inl old
    only other (inr (k, inside, is, met)) =
        let (one, long, leads) = searched.ways k inside in
        inr (met, way-turned_back lines other item one (subst (λ (i : ℕ). IsWay (map turned lines) i one item) is leads))

pub above-kept : (lines : List Line) (count item : ℕ) (s t : Telling) → TellsIfAny lines count item s t → t.above ≡ s.above
above-kept lines count item s t (inl (same, none)) = ap (λ (one : Telling). one.above) same
above-kept lines count item s t (inr (way, back, tells)) = tells.above

module _ (lines : List Line) (count item : ℕ) (s : Telling) (above cleared : Search) (is : IsTelling lines count item s) (clear : IsClear count cleared) where
  -- the item does not need itself
  none-more : (t : Telling) → t ≡ record { above = above; below = s.below; told = s.told; loops = s.loops } → (Needs lines item item → ⊥)
      → IsTelling lines count (item + 1) (record { above = cleared; below = t.below; told = t.told; loops = t.loops })
  none-more t same none =
      subst (λ (u : Telling). IsTelling lines count (item + 1) (record { above = cleared; below = u.below; told = u.told; loops = u.loops })) (sym same)
      (record {
        above = clear;
        below = is.below;
        size = is.size;
        ways = is.ways;
        firsts = is.firsts;
        rising = is.rising;
        ended = All-weaker (λ one. one < item) (λ one. one < item + 1) (λ one less. omega (arith, less)) (items_of s.loops.items) is.ended;
        told = is.told;
        marked = is.marked;
        all = λ one below needs. all one below needs (cases_lt one item);
      })
    where
      all : (one : ℕ) → one < item + 1 → Needs lines one one → (one < item) ⊎ (item ≤ one) → IsMarked s.told.items one
      all one below needs (inl less) = is.all one less needs
      all one below needs (inr most) =
          let here : one ≡ item = omega (arith, below, most) in
          absurd (none (subst (λ (i : ℕ). Needs lines i i) here needs))

  module _ (t : Telling) (way : Vec ℕ Global) (back : IsWayBack lines item way.items) (near : AreNearest lines item above.far.items) (free : slice_index_or s.told.items item false ≡ false)
      (tells : TellsLoop lines count item way (record { above = above; below = s.below; told = s.told; loops = s.loops }) t) where
    itself : Needs lines item item
    itself = (way.items, back.some, back.leads)

    items : items_of t.loops.items ≡ items_of s.loops.items ++ item ∷ []
    items = ap items_of tells.loops ∙ map_push (λ (one : Loop). one.item) s.loops.items (record { item = item; way = way })

    is-first : IsFirst lines item
    is-first = record { itself = itself; first = λ other both. first other both (cases_lt other item) }
      where
        first : (other : ℕ) → NeedEachOther lines item other → (other < item) ⊎ (item ≤ other) → item ≤ other
        first other both (inr most) = most
        first other (there, again) (inl less) =
            let (one, contains, (down, up)) = is.told other (is.all other less (needs-on lines other item other again there)) in
            let marked = is.marked item (one, contains, (needs-on lines item other one there down, needs-on lines one other item up again)) in
            absurd (cc)

    told : (other : ℕ) → IsMarked t.told.items other → IsTold lines (items_of s.loops.items ++ item ∷ []) other
    told other marked = by (tells.only other marked)
      where
        by : IsMarked s.told.items other ⊎ (IsMet above other × ((down : List ℕ) × IsWay lines item down other)) → IsTold lines (items_of s.loops.items ++ item ∷ []) other
        by (inl old) = let (one, contains, both) = is.told other old in (one, Contains-append_left (items_of s.loops.items) (item ∷ []) one contains, both)
        by (inr ((d, far), (down, leads))) =
            let (up, long, there) = near.ways other d far in (
              item,
              Contains-push (items_of s.loops.items) item,
              (
                (up ++ way.items, omega (arith, length-append up way.items, back.some), way-append lines other item item up way.items there back.leads),
                (way.items ++ down, omega (arith, length-append way.items down, back.some), way-append lines item item other way.items down back.leads leads),
              ),
            )

    marked : (other : ℕ) → IsTold lines (items_of s.loops.items ++ item ∷ []) other → IsMarked t.told.items other
    marked other (one, contains, both) = by both (Contains-push_cases (items_of s.loops.items) item one contains)
      where
        here : NeedEachOther lines other item → IsMarked t.told.items other
        here ((up, some, there), (down, more, leads)) =
            let (d, far, most) = near.near other up down there leads in
            tells.both other down up (d, far) leads there

        by : NeedEachOther lines other one → Contains (items_of s.loops.items) one ⊎ (item ≡ one) → IsMarked t.told.items other
        by both (inl old) = tells.kept other (is.marked other (one, old, both))
        by both (inr same) = here (subst (NeedEachOther lines other) (sym same) both)

    rising : AreRising (items_of s.loops.items ++ item ∷ [])
    rising j k less below = by (cases_lt k (length (items_of s.loops.items)))
      where
        front : (i : ℕ) → i < length (items_of s.loops.items) → slice_index (items_of s.loops.items ++ item ∷ []) i ≡ slice_index (items_of s.loops.items) i
        front i inside = get_or_append_left (items_of s.loops.items) (item ∷ []) 0 i inside

        by : (k < length (items_of s.loops.items)) ⊎ (length (items_of s.loops.items) ≤ k) → slice_index (items_of s.loops.items ++ item ∷ []) j < slice_index (items_of s.loops.items ++ item ∷ []) k
        by (inl inside) = omega (arith, front j (omega (arith, less, inside)), front k inside, is.rising j k less inside)
        by (inr past) =
            let end : length (items_of s.loops.items) ≡ k = omega (arith, below, past, length-append (items_of s.loops.items) (item ∷ [])) in
            omega (arith, front j (omega (arith, less, end)), get_or_push (items_of s.loops.items) item 0 k end, is.ended j 0 (omega (arith, less, end)))

    tells-more : IsTelling lines count (item + 1) (record { above = cleared; below = t.below; told = t.told; loops = t.loops })
    tells-more = record {
      above = clear;
      below = tells.below;
      size = tells.size;
      ways = subst (All (λ (one : Loop). IsWayBack lines one.item one.way.items)) (sym tells.loops)
          (All-push (λ (one : Loop). IsWayBack lines one.item one.way.items) s.loops.items (record { item = item; way = way }) is.ways back);
      firsts = subst (All (IsFirst lines)) (sym items) (All-push (IsFirst lines) (items_of s.loops.items) item is.firsts is-first);
      rising = subst AreRising (sym items) rising;
      ended = subst (All (λ one. one < item + 1)) (sym items)
          (All-push (λ one. one < item + 1) (items_of s.loops.items) item (All-weaker (λ one. one < item) (λ one. one < item + 1) (λ one less. omega (arith, less)) (items_of s.loops.items) is.ended) (omega arith));
      told = λ other m. subst (λ (firsts : List ℕ). IsTold lines firsts other) (sym items) (told other m);
      marked = λ other m. marked other (subst (λ (firsts : List ℕ). IsTold lines firsts other) items m);
      all = λ one below needs. all one below needs (cases_lt one item);
    }
      where
        all : (one : ℕ) → one < item + 1 → Needs lines one one → (one < item) ⊎ (item ≤ one) → IsMarked t.told.items one
        all one below needs (inl less) = tells.kept one (is.all one less needs)
        all one below needs (inr most) =
            let here : item ≡ one = omega (arith, below, most) in
            subst (IsMarked t.told.items) here (marked item (item, Contains-push (items_of s.loops.items) item, (itself, itself)))

  pub telling-more : (t : Telling) → AreNearest lines item above.far.items → slice_index_or s.told.items item false ≡ false
      → TellsIfAny lines count item (record { above = above; below = s.below; told = s.told; loops = s.loops }) t
      → IsTelling lines count (item + 1) (record { above = cleared; below = t.below; told = t.told; loops = t.loops })
  telling-more t near free (inl (same, none)) = none-more t same none
  telling-more t near free (inr (way, back, tells)) = tells-more t way back near free tells

-- all loops are told
pub all-told : (lines : List Line) (count : ℕ) (t : Telling) → AreWithin count lines → IsTelling lines count count t → (item : ℕ) → Needs lines item item → IsTold lines (items_of t.loops.items) item
all-told lines count t within is item needs = is.told item (is.all item (needs-inside count lines item item within needs) needs)

-- the places of a way are those of lines
way-within : (lines : List Line) (top bottom : ℕ) (way : List ℕ) → IsWay lines top way bottom → All (λ place. place < length lines) way
way-within lines top bottom [] leads = All-nil (λ (place : ℕ). place < length lines)
way-within lines top bottom (place ∷ rest) (inside, is, more) =
    All-cons (λ (one : ℕ). one < length lines) place rest inside (way-within lines (line_at lines place).component bottom rest more)

pub loop-within : (lines : List Line) (count : ℕ) → AreWithin count lines → (told : Loop) → IsWayBack lines told.item told.way.items → IsWithin count (length lines) told
loop-within lines count within told back =
    (needs-inside count lines told.item told.item within (told.way.items, back.some, back.leads), way-within lines told.item told.item told.way.items back.leads)
