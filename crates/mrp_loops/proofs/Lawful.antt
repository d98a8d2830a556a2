-- Laws of loops.
use Rattle.std.proofs.Common.{◌≡◌, ◌⊎◌, inl, inr, ℕ, zero, suc, ◌<◌, ◌≤◌, List, [], ◌∷◌, length, refl, sym, ap, subst, ◌∙◌, arith}
use Rattle.std.specs.Prelude.{All, slice_index}
use Rattle.std.specs.List.{Contains}
use Rattle.std.proofs.lemmas.Bool.{cases_lt, cases_order}
use Rattle.std.proofs.lemmas.List.{get_or_default}
use Rattle.std.proofs.lemmas.List.Elements.{All-contains, All-get_or}
use Rattle.mrp_loops.specs.declared.line.Line.{Line}
use Rattle.mrp_loops.specs.Needs.{line_at, IsFirst, IsWay, NeedEachOther, Needs}
use Rattle.mrp_loops.specs.Loops.{AreRising, IsBefore, IsTold, IsWayBack}

-- the first items of one set are one
pub firsts-same : (lines : List Line) (a b : ℕ) → IsFirst lines a → IsFirst lines b → NeedEachOther lines a b → a ≡ b
firsts-same lines a b one other (there, back) = omega (arith, one.first b (there, back), other.first a (back, there))

pub told-once : (lines : List Line) (firsts : List ℕ) → All (IsFirst lines) firsts → AreRising firsts → (j k : ℕ) → j < length firsts → k < length firsts
    → NeedEachOther lines (slice_index firsts j) (slice_index firsts k) → j ≡ k
told-once lines firsts each rising j k inside within both = by (cases_order j k)
  where
    same : slice_index firsts j ≡ slice_index firsts k
    same = firsts-same lines (slice_index firsts j) (slice_index firsts k) (All-get_or (IsFirst lines) firsts j 0 inside each) (All-get_or (IsFirst lines) firsts k 0 within each) both

    by : (j ≡ k) ⊎ ((j < k) ⊎ (k < j)) → j ≡ k
    by (inl is) = is
    by (inr (inl less)) = absurd (omega (arith, same, rising j k less within))
    by (inr (inr more)) = absurd (omega (arith, same, rising k j more inside))

pub none-told : (lines : List Line) (firsts : List ℕ) → All (IsFirst lines) firsts → ((item : ℕ) → Needs lines item item → IsTold lines firsts item)
    → (length firsts ≡ 0 → (item : ℕ) → Needs lines item item → ⊥) × (((item : ℕ) → Needs lines item item → ⊥) → length firsts ≡ 0)
none-told lines firsts each all = (λ empty item needs. there empty item (all item needs), λ none. back none (cases_lt 0 (length firsts)))
  where
    there : length firsts ≡ 0 → (item : ℕ) → IsTold lines firsts item → ⊥
    there empty item (first, (k, below, is), both) = omega (arith, empty, below)

    back : ((item : ℕ) → Needs lines item item → ⊥) → (0 < length firsts) ⊎ (length firsts ≤ 0) → length firsts ≡ 0
    back none (inl some) = absurd (none (slice_index firsts 0) (All-get_or (IsFirst lines) firsts 0 0 some each).itself)
    back none (inr empty) = omega (arith, empty)

-- two lists of one length each of which is before the other
same-before : (a b : List ℕ) → length a ≡ length b → IsBefore a b → IsBefore b a → a ≡ b
same-before [] [] long one other = refl
same-before [] (y ∷ b) long one other = absurd (omega (arith, long))
same-before (x ∷ a) [] long one other = absurd one
same-before (x ∷ a) (y ∷ b) long (inl less) (inl more) = absurd (omega (arith, less, more))
same-before (x ∷ a) (y ∷ b) long (inl less) (inr (same, more)) = absurd (omega (arith, less, same))
same-before (x ∷ a) (y ∷ b) long (inr (same, less)) (inl more) = absurd (omega (arith, same, more))
same-before (x ∷ a) (y ∷ b) long (inr (same, less)) (inr (again, more)) = ap (λ (i : ℕ). i ∷ a) same ∙ ap (λ (l : List ℕ). y ∷ l) (same-before a b (omega (arith, long)) less more)

pub ways-same : (lines : List Line) (item : ℕ) (a b : List ℕ) → IsWayBack lines item a → IsWayBack lines item b → a ≡ b
ways-same lines item a b one other =
    let long : length a ≡ length b = omega (arith, one.fewest b other.some other.leads, other.fewest a one.some one.leads) in
    same-before a b long (one.earliest b (sym long) other.leads) (other.earliest a long one.leads)

-- two rising lists of the same numbers
rising-rest : (x : ℕ) (a : List ℕ) → AreRising (x ∷ a) → AreRising a
rising-rest x a rising j k less below = rising (suc j) (suc k) (omega (arith, less)) (omega (arith, below))

-- what is in a rising list is its first number, or behind it and greater
rising-cases : (x : ℕ) (a : List ℕ) (z : ℕ) → AreRising (x ∷ a) → Contains (x ∷ a) z → (x ≡ z) ⊎ ((x < z) × Contains a z)
rising-cases x a z rising (zero, below, is) = inl is
rising-cases x a z rising (suc k, below, is) =
    let inside : k < length a = omega (arith, below) in
    let here : slice_index a k ≡ z = get_or_default a k 0 z inside ∙ is in
    inr (omega (arith, here, rising 0 (suc k) (omega arith) below), (k, inside, is))

rising-same : (a b : List ℕ) → AreRising a → AreRising b → ((z : ℕ) → Contains a z → Contains b z) → ((z : ℕ) → Contains b z → Contains a z) → a ≡ b
rising-same [] [] ra rb there back = refl
rising-same [] (y ∷ b) ra rb there back = let (k, below, is) = back y (0, omega arith, refl) in absurd (omega (arith, below))
rising-same (x ∷ a) [] ra rb there back = let (k, below, is) = there x (0, omega arith, refl) in absurd (omega (arith, below))
rising-same (x ∷ a) (y ∷ b) ra rb there back =
    ap (λ (i : ℕ). i ∷ a) same
    ∙ ap (λ (l : List ℕ). y ∷ l)
    (rising-same a b (rising-rest x a ra) (rising-rest y b rb) (λ z in_a. one z in_a (rising-cases y b z rb (there z (more x a z in_a)))) (λ z in_b. other z in_b (rising-cases x a z ra (back z (more y b z in_b)))))
  where
    more : (w : ℕ) (l : List ℕ) (z : ℕ) → Contains l z → Contains (w ∷ l) z
    more w l z (k, below, is) = (suc k, omega (arith, below), is)

    greater : (w : ℕ) (l : List ℕ) (z : ℕ) → AreRising (w ∷ l) → Contains l z → w < z
    greater w l z rising (k, below, is) =
        let here : slice_index l k ≡ z = get_or_default l k 0 z below ∙ is in
        omega (arith, here, rising 0 (suc k) (omega arith) (omega (arith, below)))

    first : (x ≡ y) ⊎ ((x < y) × Contains a y) → (y ≡ x) ⊎ ((y < x) × Contains b x) → x ≡ y
    first (inl is) other = is
    first (inr (less, in_a)) (inl is) = sym is
    first (inr (less, in_a)) (inr (greater_one, in_b)) = absurd (omega (arith, less, greater_one))

    same : x ≡ y
    same = first (rising-cases x a y ra (back y (0, omega arith, refl))) (rising-cases y b x rb (there x (0, omega arith, refl)))

    one : (z : ℕ) → Contains a z → (y ≡ z) ⊎ ((y < z) × Contains b z) → Contains b z
    one z in_a (inl is) = absurd (omega (arith, same, is, greater x a z ra in_a))
    one z in_a (inr (less, in_b)) = in_b

    other : (z : ℕ) → Contains b z → (x ≡ z) ⊎ ((x < z) × Contains a z) → Contains a z
    other z in_b (inl is) = absurd (omega (arith, same, is, greater y b z rb in_b))
    other z in_b (inr (less, in_a)) = in_a

pub firsts-are : (lines : List Line) (a b : List ℕ) → All (IsFirst lines) a → All (IsFirst lines) b → AreRising a → AreRising b
    → ((item : ℕ) → Needs lines item item → IsTold lines a item) → ((item : ℕ) → Needs lines item item → IsTold lines b item) → a ≡ b
firsts-are lines a b each every ra rb all both = rising-same a b ra rb (into a b each every both) (into b a every each all)
  where
    into : (a b : List ℕ) → All (IsFirst lines) a → All (IsFirst lines) b → ((item : ℕ) → Needs lines item item → IsTold lines b item) → (z : ℕ) → Contains a z → Contains b z
    into a b each every told z in_a =
        let own = All-contains (IsFirst lines) a z each in_a in
        let (first, in_b, both) = told z own.itself in
        subst (Contains b) (sym (firsts-same lines z first own (All-contains (IsFirst lines) b first every in_b) both)) in_b

-- the lines of a way
pub way-first : (lines : List Line) (top bottom : ℕ) (way : List ℕ) → IsWay lines top way bottom → 0 < length way → (line_at lines (slice_index way 0)).parent ≡ top
way-first lines top bottom [] leads some = absurd (omega (arith, some))
way-first lines top bottom (place ∷ rest) (inside, is, more) some = is

pub way-next : (lines : List Line) (top bottom k : ℕ) (way : List ℕ) → IsWay lines top way bottom → suc k < length way
    → (line_at lines (slice_index way k)).component ≡ (line_at lines (slice_index way (suc k))).parent
way-next lines top bottom k [] leads below = absurd (omega (arith, below))
way-next lines top bottom zero (place ∷ rest) (inside, is, more) below = sym (way-first lines (line_at lines place).component bottom rest more (omega (arith, below)))
way-next lines top bottom (suc k) (place ∷ rest) (inside, is, more) below = way-next lines (line_at lines place).component bottom k rest more (omega (arith, below))

pub way-last : (lines : List Line) (top bottom k : ℕ) (way : List ℕ) → IsWay lines top way bottom → suc k ≡ length way → (line_at lines (slice_index way k)).component ≡ bottom
way-last lines top bottom k [] leads end = absurd (omega (arith, end))
way-last lines top bottom zero (place ∷ []) (inside, is, same) end = same
way-last lines top bottom zero (place ∷ next ∷ rest) leads end = absurd (omega (arith, end))
way-last lines top bottom (suc k) (place ∷ rest) (inside, is, more) end = way-last lines (line_at lines place).component bottom k rest more (omega (arith, end))
