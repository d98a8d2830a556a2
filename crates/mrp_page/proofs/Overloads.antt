-- The weeks that are over their capacity, each once, by week.
use Rattle.std.proofs.Common.{◌≡◌, ℕ, List, Option, [], ◌∷◌, ◌++◌, length, refl}
use Rattle.std.specs.Prelude.{IsPermutation}
use Rattle.std.specs.List.{filter}
use Rattle.std.specs.List.Sorted.{IsNonDecreasingBy}
use Rattle.std.proofs.lemmas.List.Sorted.{IsPermutation-trans}
use Rattle.mrp_page.specs.Centres.{explained_note, over_listing, over_or_none}
use Rattle.mrp_page.specs.Folded.{capped_html}
use Rattle.mrp_page.specs.Frame.{count_row}
use Rattle.mrp_page.specs.layout.Centres.{over_open}
use Rattle.mrp_page.specs.Row.{RowView}
use Rattle.mrp_page.specs.Scene.{SceneView}
use Rattle.mrp_page.specs.Shares.{falling_share, overloads_first, week_rank}
use Rattle.mrp_page.specs.Sorted.{sorted_by}
use Rattle.mrp_page.specs.Summary.{is_over, overloads}
use Rattle.mrp_page.specs.Template.{row_html}
use Rattle.mrp_page.specs.Work.{WorkView}
use Rattle.mrp_page.specs.declared.limits.TheConstants.{SOME_ROWS}
use Rattle.mrp_page.proofs.ByKey.{sorted-non-decreasing, sorted-permutes}
use Rattle.mrp_page.proofs.Folds.{some-rows}

pub once : (loads : List RowView) → IsPermutation (filter is_over loads) (overloads_first loads)
once loads =
    let over : List RowView = overloads loads in
    let first : List RowView = sorted_by falling_share over in
    IsPermutation-trans over first (sorted_by week_rank first) (sorted-permutes falling_share over) (sorted-permutes week_rank first)

pub in-order : (loads : List RowView) → IsNonDecreasingBy week_rank (overloads_first loads)
in-order loads = sorted-non-decreasing week_rank (sorted_by falling_share (overloads loads))

pub shown-is : (scene : SceneView) (work : Option WorkView) (missed : ℕ) (load : RowView) (rows : List RowView) → over_or_none scene work missed (load ∷ rows) ≡ row_html over_open (count_row (length (load ∷ rows)) [] []) ++ (explained_note work ++ capped_html (over_listing scene work) SOME_ROWS (load ∷ rows))
unfolding over_or_none
shown-is scene work missed load rows = rw (some-rows load rows) refl
