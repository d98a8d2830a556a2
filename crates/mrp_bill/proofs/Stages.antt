-- How a walk's stages change.
use Rattle.std.proofs.Common.{◌≡◌, ◌≢◌, ◌⊎◌, inl, inr, ℕ, suc, ◌<◌, ◌≤◌, List, [], ◌∷◌, ◌++◌, length, get_or, take, sym, ap, subst, ◌∙◌, arith}
use Rattle.std.proofs.Math.ListN.{set}
use Rattle.std.proofs.lemmas.Bool.{cases_eq, cases_lt}
use Rattle.std.proofs.lemmas.List.{get_or-set_same, get_or-set_other, length-set, length-append, get_or_push, get_or_append_left, get_or-take, length-take-le}
use Rattle.std.proofs.lemmas.List.Sums.{sum_by-set}
use Rattle.mrp_bill.specs.declared.climb.Stage.{Stage}
use Rattle.mrp_bill.specs.declared.climb.Stage.TheVariants.{New, Open, Placed}
use Rattle.mrp_bill.specs.Climb.{stage_at, moves, AreStages}

-- an element of a list, and of the list with one more
pub at-push : (xs : List ℕ) (x k : ℕ) → k < length xs → get_or (xs ++ x ∷ []) k 0 ≡ get_or xs k 0
at-push xs x k h = get_or_append_left xs (x ∷ []) 0 k h

pub stage-same : (stages : List Stage) (item : ℕ) (s : Stage) → item < length stages → stage_at (set stages item s) item ≡ s
stage-same stages item s h = get_or-set_same stages item s New h

pub stage-other : (stages : List Stage) (item i : ℕ) (s : Stage) → i ≢ item → stage_at (set stages item s) i ≡ stage_at stages i
stage-other stages item i s ne = get_or-set_other stages item i s New ne

pub stages-open : (stages : List Stage) (stack order : List ℕ) (item : ℕ) → AreStages stages stack order → item < length stages → stage_at stages item ≡ New
    → AreStages (set stages item (Open (length stack))) (stack ++ item ∷ []) order
stages-open stages stack order item s within new = record {
  opened = λ i depth h e. was_opened i depth (omega (arith, length-set stages item (Open (length stack)))) e (cases_eq i item);
  stacked = λ k h. was_stacked k (cases_lt k (length stack)) (omega (arith, length-append stack (item ∷ [])));
  placed = λ i place h e. was_placed i place (omega (arith, length-set stages item (Open (length stack)))) e (cases_eq i item);
  ordered = λ k h. (omega (arith, length-set stages item (Open (length stack)), s.ordered k h), stage-other stages item (get_or order k 0) (Open (length stack)) (λ e. let p = s.ordered k h in let q = ap (stage_at stages) e in absurd (cc)) ∙ (s.ordered k h).1);
  moved = omega (arith, length-set stages item (Open (length stack)), sum_by-set moves stages item (Open (length stack)) New within, ap moves new, length-append stack (item ∷ []), s.moved);
}
  where
    was_opened : (i depth : ℕ) → i < length stages → stage_at (set stages item (Open (length stack))) i ≡ Open depth → (i ≡ item) ⊎ (i ≡ item → ⊥)
        → (depth < length (stack ++ item ∷ [])) × (get_or (stack ++ item ∷ []) depth 0 ≡ i)
    was_opened i depth h e (inl same) =
        let q : stage_at (set stages item (Open (length stack))) item ≡ Open depth = subst (λ (x : ℕ). stage_at (set stages item (Open (length stack))) x ≡ Open depth) same e in
        let r = stage-same stages item (Open (length stack)) within in
        let d : depth ≡ length stack = cc in
        (omega (arith, length-append stack (item ∷ [])), get_or_push stack item 0 depth (sym d) ∙ sym same)
    was_opened i depth h e (inr ne) =
        let p = s.opened i depth h (sym (stage-other stages item i (Open (length stack)) ne) ∙ e) in
        (omega (arith, length-append stack (item ∷ []), p.0), at-push stack item depth p.0 ∙ p.1)

    was_stacked : (k : ℕ) → (k < length stack) ⊎ (length stack ≤ k) → k < suc (length stack)
        → (get_or (stack ++ item ∷ []) k 0 < length (set stages item (Open (length stack)))) × (stage_at (set stages item (Open (length stack))) (get_or (stack ++ item ∷ []) k 0) ≡ Open k)
    was_stacked k (inl lt) h =
        let p = s.stacked k lt in
        let e = at-push stack item k lt in
        let other : get_or stack k 0 ≢ item = λ q. let r = ap (stage_at stages) q in absurd (cc) in
        rw e (omega (arith, length-set stages item (Open (length stack)), p.0), stage-other stages item (get_or stack k 0) (Open (length stack)) other ∙ p.1)
    was_stacked k (inr ge) h =
        let last : k ≡ length stack = omega arith in
        let e : get_or (stack ++ item ∷ []) k 0 ≡ item = get_or_push stack item 0 k (sym last) in
        rw e (omega (arith, length-set stages item (Open (length stack))), stage-same stages item (Open (length stack)) within ∙ ap Open (sym last))

    was_placed : (i place : ℕ) → i < length stages → stage_at (set stages item (Open (length stack))) i ≡ Placed place → (i ≡ item) ⊎ (i ≡ item → ⊥)
        → (place < length order) × (get_or order place 0 ≡ i)
    was_placed i place h e (inl same) =
        let q : stage_at (set stages item (Open (length stack))) item ≡ Placed place = subst (λ (x : ℕ). stage_at (set stages item (Open (length stack))) x ≡ Placed place) same e in
        let r = stage-same stages item (Open (length stack)) within in
        absurd (cc)
    was_placed i place h e (inr ne) = s.placed i place h (sym (stage-other stages item i (Open (length stack)) ne) ∙ e)

pub stages-place : (stages : List Stage) (stack order : List ℕ) (item last : ℕ) → AreStages stages stack order → suc last ≡ length stack → item ≡ get_or stack last 0
    → AreStages (set stages item (Placed (length order))) (take last stack) (order ++ item ∷ [])
stages-place stages stack order item last s some top =
    let at = s.stacked last (omega arith) in
    let inside : item < length stages = omega (arith, top, at.0) in
    let is : stage_at stages item ≡ Open last = subst (λ (x : ℕ). stage_at stages x ≡ Open last) (sym top) at.1 in
    let size : length (take last stack) ≡ last = length-take-le last stack (omega arith) in
    record {
      opened = λ i depth h e. was_opened is inside i depth (omega (arith, length-set stages item (Placed (length order)))) e (cases_eq i item);
      stacked = λ k h. was_stacked is k (omega arith);
      placed = λ i place h e. was_placed inside i place (omega (arith, length-set stages item (Placed (length order)))) e (cases_eq i item);
      ordered = λ k h. was_ordered is inside k (cases_lt k (length order)) (omega (arith, length-append order (item ∷ [])));
      moved = omega (arith, length-set stages item (Placed (length order)), sum_by-set moves stages item (Placed (length order)) New inside, ap moves is, length-append order (item ∷ []), size, s.moved);
    }
  where
    was_stacked : stage_at stages item ≡ Open last → (k : ℕ) → k < last
        → (get_or (take last stack) k 0 < length (set stages item (Placed (length order)))) × (stage_at (set stages item (Placed (length order))) (get_or (take last stack) k 0) ≡ Open k)
    was_stacked is k lt =
        let p = s.stacked k (omega arith) in
        let e = get_or-take last stack k 0 lt in
        let other : get_or stack k 0 ≢ item = λ q. let r = ap (stage_at stages) q in let u : k ≡ last = cc (r, p.1, is) in absurd (omega arith) in
        rw e (omega (arith, length-set stages item (Placed (length order)), p.0), stage-other stages item (get_or stack k 0) (Placed (length order)) other ∙ p.1)

    was_opened : stage_at stages item ≡ Open last → item < length stages → (i depth : ℕ) → i < length stages → stage_at (set stages item (Placed (length order))) i ≡ Open depth → (i ≡ item) ⊎ (i ≡ item → ⊥)
        → (depth < length (take last stack)) × (get_or (take last stack) depth 0 ≡ i)
    was_opened is inside i depth h e (inl same) =
        let q : stage_at (set stages item (Placed (length order))) item ≡ Open depth = subst (λ (x : ℕ). stage_at (set stages item (Placed (length order))) x ≡ Open depth) same e in
        let r = stage-same stages item (Placed (length order)) inside in
        absurd (cc)
    was_opened is inside i depth h e (inr ne) =
        let (low, at) = s.opened i depth h (sym (stage-other stages item i (Placed (length order)) ne) ∙ e) in
        let other : depth ≢ last = λ q. ne (sym at ∙ ap (λ n. get_or stack n 0) q ∙ sym top) in
        let lt : depth < last = omega arith in
        (omega (arith, length-take-le last stack (omega arith)), get_or-take last stack depth 0 lt ∙ at)

    was_placed : item < length stages → (i place : ℕ) → i < length stages → stage_at (set stages item (Placed (length order))) i ≡ Placed place → (i ≡ item) ⊎ (i ≡ item → ⊥)
        → (place < length (order ++ item ∷ [])) × (get_or (order ++ item ∷ []) place 0 ≡ i)
    was_placed inside i place h e (inl same) =
        let q : stage_at (set stages item (Placed (length order))) item ≡ Placed place = subst (λ (x : ℕ). stage_at (set stages item (Placed (length order))) x ≡ Placed place) same e in
        let r = stage-same stages item (Placed (length order)) inside in
        let d : place ≡ length order = cc in
        (omega (arith, length-append order (item ∷ [])), get_or_push order item 0 place (sym d) ∙ sym same)
    was_placed inside i place h e (inr ne) =
        let p = s.placed i place h (sym (stage-other stages item i (Placed (length order)) ne) ∙ e) in
        (omega (arith, length-append order (item ∷ []), p.0), at-push order item place p.0 ∙ p.1)

    was_ordered : stage_at stages item ≡ Open last → item < length stages → (k : ℕ) → (k < length order) ⊎ (length order ≤ k) → k < suc (length order)
        → (get_or (order ++ item ∷ []) k 0 < length (set stages item (Placed (length order)))) × (stage_at (set stages item (Placed (length order))) (get_or (order ++ item ∷ []) k 0) ≡ Placed k)
    was_ordered is inside k (inl lt) h =
        let p = s.ordered k lt in
        let e = at-push order item k lt in
        let other : get_or order k 0 ≢ item = λ q. let r = ap (stage_at stages) q in absurd (cc) in
        rw e (omega (arith, length-set stages item (Placed (length order)), p.0), stage-other stages item (get_or order k 0) (Placed (length order)) other ∙ p.1)
    was_ordered is inside k (inr ge) h =
        let same : k ≡ length order = omega arith in
        let e : get_or (order ++ item ∷ []) k 0 ≡ item = get_or_push order item 0 k (sym same) in
        rw e (omega (arith, length-set stages item (Placed (length order))), stage-same stages item (Placed (length order)) inside ∙ ap Placed (sym same))
