-- The items that run out first: each item at most once, at its first such week, by week.
use Rattle.std.proofs.Common.{◌≡◌, ◌-◌, ◌<◌, ◌≤◌, ℕ, List, [], ◌∷◌, ◌++◌, codes, length, map, refl, ap, take}
use Rattle.std.specs.Prelude.{IsPermutation}
use Rattle.std.specs.List.Sorted.{IsNonDecreasingBy}
use Rattle.std.proofs.lemmas.Bool.{le-leb, lt-leb}
use Rattle.std.proofs.lemmas.List.Sorted.{IsPermutation-trans}
use Rattle.mrp_page.specs.declared.limits.TheConstants.{FEW_ROWS}
use Rattle.mrp_page.specs.Frame.{count_row}
use Rattle.mrp_page.specs.layout.Glance.{outs_note}
use Rattle.mrp_page.specs.Outs.{distance, falling_late, out_row, outs_first, outs_html, outs_table, short_weeks, sign}
use Rattle.mrp_page.specs.Row.{RowView}
use Rattle.mrp_page.specs.Scene.{SceneView}
use Rattle.mrp_page.specs.Shares.{week_rank}
use Rattle.mrp_page.specs.Sorted.{sorted_by}
use Rattle.mrp_page.specs.Template.{row_html}
use Rattle.mrp_page.proofs.ByKey.{sorted-non-decreasing, sorted-permutes}
use Rattle.mrp_page.proofs.Folds.{some-rows}

pub map-seen : {A B C : Type 0} (f : B → C) (view : A → B) (xs : List A) → map (λ x. f (view x)) xs ≡ map f (map view xs)
map-seen f view [] = refl
map-seen {A} {B} {C} f view (x ∷ xs) = ap (λ (t : List C). f (view x) ∷ t) (map-seen f view xs)

pub outs-once : (scene : SceneView) (plan : List RowView) → IsPermutation (map (out_row scene) (short_weeks plan)) (outs_first scene plan)
outs-once scene plan =
    let outs : List RowView = map (out_row scene) (short_weeks plan) in
    let first : List RowView = sorted_by falling_late outs in
    IsPermutation-trans outs first (sorted_by week_rank first) (sorted-permutes falling_late outs) (sorted-permutes week_rank first)

pub outs-rise : (scene : SceneView) (plan : List RowView) → IsNonDecreasingBy week_rank (outs_first scene plan)
outs-rise scene plan = sorted-non-decreasing week_rank (sorted_by falling_late (map (out_row scene) (short_weeks plan)))

pub left-over : (balance planned : ℕ) → planned ≤ balance → (sign balance planned ≡ []) × (distance balance planned ≡ balance - planned)
left-over balance planned less = rw (le-leb planned balance less) (refl, refl)

pub left-short : (balance planned : ℕ) → balance < planned → (sign balance planned ≡ codes "-") × (distance balance planned ≡ planned - balance)
left-short balance planned less = rw (lt-leb planned balance less) (refl, refl)

pub shown-are : (scene : SceneView) (missed : ℕ) (out : RowView) (outs : List RowView) → outs_html scene missed (out ∷ outs) ≡ row_html outs_note (count_row (length (out ∷ outs)) [] []) ++ outs_table scene (take FEW_ROWS (out ∷ outs))
unfolding outs_html
shown-are scene missed out outs = rw (some-rows out outs) refl
