-- The steps of a walk.
use Rattle.std.proofs.Common.{◌≡◌, ◌≢◌, ◌⊎◌, inl, inr, ℕ, suc, ◌-◌, ◌<◌, ◌≤◌, true, false, List, [], ◌∷◌, ◌++◌, length, get_or, take, sym, ap, subst, ◌∙◌, arith, sum, sum_by}
use Rattle.std.proofs.Math.Bool.{or-false, or-true}
use Rattle.std.proofs.Math.ListN.{set}
use Rattle.std.proofs.lemmas.Bool.{cases_eq, cases_lt}
use Rattle.std.proofs.lemmas.List.{get_or-set_same, get_or-set_other, length-set, length-append, get_or_push, get_or-take, get_or_default, length-take-le}
use Rattle.std.proofs.lemmas.List.Sums.{sum_by-set}
use Rattle.mrp_bill.specs.declared.climb.Stage.{Stage}
use Rattle.mrp_bill.specs.declared.climb.Stage.TheVariants.{New, Open, Placed}
use Rattle.mrp_bill.specs.declared.climb.Climb.{Climb}
use Rattle.mrp_bill.specs.Climb.{stage_at, moves, work, ArePassed, IsSettled, IsLinked, IsClimb, Opens, Places, Passes}
use Rattle.mrp_bill.specs.Links.{Links, Leads}
use Rattle.mrp_bill.specs.Grouped.{listed, IsListed}
use Rattle.mrp_bill.proofs.Listed.{listed-contains}
use Rattle.mrp_bill.proofs.Linked.{links-before, links-down}
use Rattle.mrp_bill.proofs.Stages.{at-push, stage-other, stages-open, stages-place}

-- parents that were passed stay placed
passed-kept : (parents : List (List ℕ)) (left : List ℕ) (stages : List Stage) (item : ℕ) (s : Stage) → ArePassed parents left stages
    → ((place : ℕ) → stage_at stages item ≡ Placed place → ⊥) → ArePassed parents left (set stages item s)
passed-kept parents left stages item s passed not_placed i k h low high =
    let (place, is) = passed i k (omega (arith, length-set stages item s)) low high in
    let p : ℕ = get_or (listed parents i) k 0 in
    let other : p ≢ item = λ e. not_placed place (subst (λ (x : ℕ). stage_at stages x ≡ Placed place) e is) in
    (place, stage-other stages item p s other ∙ is)

-- a stack with one more item stays linked
linked-push : (R : ℕ → ℕ → Type 0) (stack : List ℕ) (item : ℕ) → IsLinked R stack → (0 < length stack → R item (get_or stack (length stack - 1) 0)) → IsLinked R (stack ++ item ∷ [])
linked-push R stack item linked top k h = by (cases_lt (suc k) (length stack))
  where
    by : (suc k < length stack) ⊎ (length stack ≤ suc k) → R (get_or (stack ++ item ∷ []) (suc k) 0) (get_or (stack ++ item ∷ []) k 0)
    by (inl lt) =
        let e = at-push stack item (suc k) lt in
        let f = at-push stack item k (omega arith) in
        rw (e, f) (linked k lt)
    by (inr ge) =
        let last : suc k ≡ length stack = omega (arith, length-append stack (item ∷ [])) in
        let e : get_or (stack ++ item ∷ []) (suc k) 0 ≡ item = get_or_push stack item 0 (suc k) (sym last) in
        let f = at-push stack item k (omega arith) in
        let before : k ≡ length stack - 1 = omega arith in
        rw (e, f) (subst (λ (n : ℕ). R item (get_or stack n 0)) (sym before) (top (omega arith)))

pub climb-visit : (parents : List (List ℕ)) (c d : Climb) (item : ℕ) → IsClimb parents c → Opens c d item → item < length c.stages.items → stage_at c.stages.items item ≡ New
    → (0 < length c.stack.items → IsListed parents item (get_or c.stack.items (length c.stack.items - 1) 0)) → IsClimb parents d
climb-visit parents c d item k o within new top =
    let not_placed : (place : ℕ) → stage_at c.stages.items item ≡ Placed place → ⊥ = λ place e. absurd (cc) in
    record {
      size = rw o.stages (length-set c.stages.items item (Open (length c.stack.items)) ∙ k.size);
      sizes = rw o.left k.sizes;
      stages = rw (o.stages, o.stack, o.order) (stages-open c.stages.items c.stack.items c.order.items item k.stages within new);
      linked = rw o.stack (linked-push (IsListed parents) c.stack.items item k.linked top);
      within = rw o.left k.within;
      passed = λ e. rw (o.left, o.stages) (passed-kept parents c.left.items c.stages.items item (Open (length c.stack.items)) (k.passed (sym o.closed ∙ e)) not_placed);
      settled = λ e. rw o.order (k.settled (sym o.closed ∙ e));
      loops = λ e. k.loops (sym o.closed ∙ e);
    }

-- an item whose parents are all placed moves to the end of the order
settled-push : (parents : List (List ℕ)) (c : Climb) (item : ℕ) → IsClimb parents c → item < length c.stages.items → get_or c.left.items item 0 ≡ 0 → c.closed ≡ false
    → ((p i : ℕ) → IsListed parents p i → p < length parents) → IsSettled (IsListed parents) (c.order.items ++ item ∷ [])
settled-push parents c item k inside none unclosed within n p h link = by (cases_lt n (length c.order.items))
  where
    by : (n < length c.order.items) ⊎ (length c.order.items ≤ n) → (j : ℕ) × (j < n) × (get_or (c.order.items ++ item ∷ []) j 0 ≡ p)
    by (inl lt) =
        let e = at-push c.order.items item n lt in
        let (j, before, is) = k.settled unclosed n p lt (rw e at link) in
        (j, before, at-push c.order.items item j (omega arith) ∙ is)
    by (inr ge) =
        let last : n ≡ length c.order.items = omega (arith, length-append c.order.items (item ∷ [])) in
        let e : get_or (c.order.items ++ item ∷ []) n 0 ≡ item = get_or_push c.order.items item 0 n (sym last) in
        let (m, high, is) = rw e at link in
        let here : get_or (listed parents item) m 0 ≡ p = get_or_default (listed parents item) m 0 p high ∙ is in
        let (place, stage) = k.passed unclosed item m inside (omega (arith, none)) high in
        let small : p < length c.stages.items = omega (arith, within p item (m, high, is), k.size) in
        let (before, at) = k.stages.placed p place small (subst (λ (x : ℕ). stage_at c.stages.items x ≡ Placed place) here stage) in
        (place, omega arith, at-push c.order.items item place before ∙ at)

linked-take : (R : ℕ → ℕ → Type 0) (stack : List ℕ) (n : ℕ) → n ≤ length stack → IsLinked R stack → IsLinked R (take n stack)
linked-take R stack n le linked k h =
    let size = length-take-le n stack le in
    let e = get_or-take n stack (suc k) 0 (omega arith) in
    let f = get_or-take n stack k 0 (omega arith) in
    rw (e, f) (linked k (omega arith))

pub climb-place : (parents : List (List ℕ)) (c d : Climb) (item : ℕ) → IsClimb parents c → Places c d item → 0 < length c.stack.items
    → item ≡ get_or c.stack.items (length c.stack.items - 1) 0 → get_or c.left.items item 0 ≡ 0
    → ((p i : ℕ) → IsListed parents p i → p < length parents) → IsClimb parents d
climb-place parents c d item k o some top none within =
    let last : ℕ = length c.stack.items - 1 in
    let at = k.stages.stacked last (omega arith) in
    let inside : item < length c.stages.items = omega (arith, top, at.0) in
    let is : stage_at c.stages.items item ≡ Open last = subst (λ (x : ℕ). stage_at c.stages.items x ≡ Open last) (sym top) at.1 in
    let not_placed : (place : ℕ) → stage_at c.stages.items item ≡ Placed place → ⊥ = λ place e. absurd (cc) in
    record {
      size = rw o.stages (length-set c.stages.items item (Placed (length c.order.items)) ∙ k.size);
      sizes = rw o.left k.sizes;
      stages = rw (o.stages, o.stack, o.order) (stages-place c.stages.items c.stack.items c.order.items item last k.stages (omega arith) top);
      linked = rw o.stack (linked-take (IsListed parents) c.stack.items last (omega arith) k.linked);
      within = rw o.left k.within;
      passed = λ e. rw (o.left, o.stages) (passed-kept parents c.left.items c.stages.items item (Placed (length c.order.items)) (k.passed (sym o.closed ∙ e)) not_placed);
      settled = λ e. rw o.order (settled-push parents c item k inside none (sym o.closed ∙ e) within);
      loops = λ e. k.loops (sym o.closed ∙ e);
    }

-- an item has passed one more parent, which is placed or closes a loop
pub climb-pass : (parents : List (List ℕ)) (c d : Climb) (item less : ℕ) → IsClimb parents c → item < length parents → get_or c.left.items item 0 ≡ suc less
    → d.stages.items ≡ c.stages.items → d.stack.items ≡ c.stack.items → d.order.items ≡ c.order.items → d.left.items ≡ set c.left.items item less
    → (d.closed ≡ false → (c.closed ≡ false) × ((place : ℕ) × (stage_at c.stages.items (get_or (listed parents item) less 0) ≡ Placed place)))
    → (d.closed ≡ true → (i : ℕ) × Leads (IsListed parents) i i) → IsClimb parents d
climb-pass parents c d item less k inside was stages stack order left passes closes = record {
  size = rw stages k.size;
  sizes = rw left (length-set c.left.items item less ∙ k.sizes);
  stages = rw (stages, stack, order) k.stages;
  linked = rw stack k.linked;
  within = rw left (λ i h. within i h (cases_eq i item));
  passed = λ e. let (unclosed, more) = passes e in rw (left, stages) (λ i n h low high. passed (k.passed unclosed) more i n h low high (cases_eq i item));
  settled = λ e. rw order (k.settled (passes e).0);
  loops = closes;
}
  where
    here : item < length c.left.items
    here = omega (arith, k.sizes)

    within : (i : ℕ) → i < length parents → (i ≡ item) ⊎ (i ≡ item → ⊥) → get_or (set c.left.items item less) i 0 ≤ length (listed parents i)
    within i h (inl same) =
        let e = get_or-set_same c.left.items item less 0 here in
        rw same (omega (arith, e, k.within item inside))
    within i h (inr ne) = rw (get_or-set_other c.left.items item i less 0 ne) (k.within i h)

    passed : ArePassed parents c.left.items c.stages.items → (place : ℕ) × (stage_at c.stages.items (get_or (listed parents item) less 0) ≡ Placed place)
        → (i n : ℕ) → i < length c.stages.items → get_or (set c.left.items item less) i 0 ≤ n → n < length (listed parents i) → (i ≡ item) ⊎ (i ≡ item → ⊥)
        → (place : ℕ) × (stage_at c.stages.items (get_or (listed parents i) n 0) ≡ Placed place)
    passed old more i n h low high (inr ne) =
        let e = get_or-set_other c.left.items item i less 0 ne in
        old i n h (omega (arith, e)) high
    passed old more i n h low high (inl same) =
        subst (λ (x : ℕ). (place : ℕ) × (stage_at c.stages.items (get_or (listed parents x) n 0) ≡ Placed place)) (sym same)
        (at (cases_eq n less))
      where
        at : (n ≡ less) ⊎ (n ≡ less → ⊥) → (place : ℕ) × (stage_at c.stages.items (get_or (listed parents item) n 0) ≡ Placed place)
        at (inl e) = subst (λ (m : ℕ). (place : ℕ) × (stage_at c.stages.items (get_or (listed parents item) m 0) ≡ Placed place)) (sym e) more
        at (inr ne) =
            let e = get_or-set_same c.left.items item less 0 here in
            let low' : get_or (set c.left.items item less) item 0 ≤ n = subst (λ (x : ℕ). get_or (set c.left.items item less) x 0 ≤ n) same low in
            let high' : n < length (listed parents item) = subst (λ (x : ℕ). n < length (listed parents x)) same high in
            old item n (omega (arith, k.size)) (omega (arith, was)) high'

-- a parent of the item on top of the stack that is on the stack closes a loop
pub climb-close : (parents : List (List ℕ)) (c : Climb) (item parent depth : ℕ) → IsClimb parents c → 0 < length c.stack.items → item ≡ get_or c.stack.items (length c.stack.items - 1) 0
    → parent < length c.stages.items → stage_at c.stages.items parent ≡ Open depth → IsListed parents parent item → (i : ℕ) × Leads (IsListed parents) i i
climb-close parents c item parent depth k some top within stage link =
    let (low, is) = k.stages.opened parent depth within stage in
    let last : ℕ = length c.stack.items - 1 in
    let down : Links (IsListed parents) (last - depth) (get_or c.stack.items last 0) (get_or c.stack.items depth 0) =
    links-down (IsListed parents) c.stack.items k.linked (last - depth) depth last (omega arith) (omega arith) in
    (parent, (last - depth, links-before (IsListed parents) (last - depth) parent item parent link (rw (← top, is) at down)))

-- the item on top of the stack is one of the items
pub top-inside : (parents : List (List ℕ)) (c : Climb) (item : ℕ) → IsClimb parents c → 0 < length c.stack.items → item ≡ get_or c.stack.items (length c.stack.items - 1) 0 → item < length parents
top-inside parents c item k some top = omega (arith, top, (k.stages.stacked (length c.stack.items - 1) (omega arith)).0, k.size)

pub left-is : (parents : List (List ℕ)) (c : Climb) (item left : ℕ) → IsClimb parents c → item < length parents → left ≡ get_or c.left.items item left → get_or c.left.items item 0 ≡ left
left-is parents c item left k inside is = get_or_default c.left.items item 0 left (omega (arith, k.sizes)) ∙ sym is

pub left-fits : (parents : List (List ℕ)) (c : Climb) (item left : ℕ) → IsClimb parents c → item < length parents → left ≡ get_or c.left.items item left → left ≤ length (listed parents item)
left-fits parents c item left k inside is = omega (arith, left-is parents c item left k inside is, k.within item inside)

-- the parent that was read
pub parent-is : (parents : List (List ℕ)) (item n : ℕ) (group : List ℕ) → group ≡ listed parents item → n < length group
    → (get_or group n 0 ≡ get_or (listed parents item) n 0) × IsListed parents (get_or group n 0) item
parent-is parents item n group same low = (ap (λ xs. get_or xs n 0) same, listed-contains parents item group n 0 same low)

-- a walk that pushes a new item onto the stack has one move less left
pub work-visit : (c d : Climb) (item : ℕ) → Opens c d item → item < length c.stages.items → stage_at c.stages.items item ≡ New → work d < work c
work-visit c d item o within new =
    omega (arith, ap (sum_by moves) o.stages, sum_by-set moves c.stages.items item (Open (length c.stack.items)) New within, ap moves new, ap sum o.left)

pub stage-read : (stages : List Stage) (i : ℕ) (s : Stage) → i < length stages → s ≡ get_or stages i s → stage_at stages i ≡ s
stage-read stages i s h is = get_or_default stages i New s h ∙ sym is

-- an item has passed a parent that is placed
pub climb-passes : (parents : List (List ℕ)) (c d : Climb) (item less place : ℕ) → IsClimb parents c → item < length parents → get_or c.left.items item 0 ≡ suc less
    → Passes c d item less false → stage_at c.stages.items (get_or (listed parents item) less 0) ≡ Placed place → IsClimb parents d
climb-passes parents c d item less place k inside was p placed =
    let same : d.closed ≡ c.closed = p.closed ∙ or-false c.closed in
    climb-pass parents c d item less k inside was p.stages p.stack p.order p.left (λ e. (sym same ∙ e, (place, placed))) (λ e. k.loops (sym same ∙ e))

-- an item has passed a parent that closes a loop
pub climb-closes : (parents : List (List ℕ)) (c d : Climb) (item less : ℕ) → IsClimb parents c → item < length parents → get_or c.left.items item 0 ≡ suc less
    → Passes c d item less true → ((i : ℕ) × Leads (IsListed parents) i i) → IsClimb parents d
climb-closes parents c d item less k inside was p loop =
    let same : d.closed ≡ true = p.closed ∙ or-true c.closed in
    climb-pass parents c d item less k inside was p.stages p.stack p.order p.left (λ e. absurd (cc)) (λ e. loop)
