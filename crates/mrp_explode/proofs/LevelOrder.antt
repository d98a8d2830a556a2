-- Items are planned level by level: parents stand in earlier levels.
use Rattle.std.proofs.Common.{◌≡◌, ◌∙◌, ℕ, ◌<◌, ◌+◌, List, length, get_or, sym, subst, ap, inl, inr, arith}
use Rattle.std.proofs.lemmas.Bool.{cases_order}
use Rattle.std.proofs.lemmas.List.Elements.{filter_passes}
use Rattle.std.specs.Prelude.{All, Vec}
use Rattle.std.specs.List.{range_with_len}
use Rattle.std.specs.declared.alloc.Global.{Global}
use Rattle.mrp_tables.specs.declared.rows.BillLine.{BillLine}
use Rattle.mrp_bill.specs.Bill.{IsCode, is_parent, parents_of}
use Rattle.mrp_bill.proofs.Listed.{filter-range-below, listed-read}
use Rattle.mrp_explode.specs.Levels.{IsLevel, AreLevels}
use Rattle.mrp_explode.proofs.LevelLists.{code-rises}

-- the items of the first levels are done
abbrev pub AreDone : List BillLine → ℕ → ℕ → (ℕ → Type 0) → Type 0
AreDone lines count first Done = (i code : ℕ) → i < count → IsCode lines i code → code < first → Done i

-- the items of a list are those of its code
pub level-here : (lines : List BillLine) (count code : ℕ) (levels : List (Vec ℕ Global)) (level : Vec ℕ Global) (items : List ℕ) → AreLevels lines count levels → code < length levels
    → level ≡ get_or levels code level → items ≡ level.items → IsLevel lines count code items
level-here lines count code levels level items all within read is =
    subst (IsLevel lines count code) (listed-read levels code level within ∙ ap (λ (v : Vec ℕ Global). v.items) (sym read) ∙ sym is) (all.each code within)

pub level-items : (lines : List BillLine) (count code : ℕ) (items : List ℕ) → IsLevel lines count code items → All (λ i. i < count) items
level-items lines count code items level = λ k d h. (level.inside k d h).0

-- the parents of the next level's items are done
pub level-ready : (lines : List BillLine) (count code : ℕ) (levels : List (Vec ℕ Global)) (items : List ℕ) (Done : ℕ → Type 0) → AreLevels lines count levels → IsLevel lines count code items
    → AreDone lines count code Done → All (λ i. All Done (parents_of lines count i)) items
level-ready lines count code levels items Done all level done k d h place e low =
    let i = get_or items k d in
    let p = get_or (parents_of lines count i) place e in
    let below : p < count = filter-range-below (λ q. is_parent lines q i) count place e low in
    let link = filter_passes (λ q. is_parent lines q i) (range_with_len 0 count) place e low in
    let (m, within, above) = all.whole p below in
    done p m below above (code-rises lines p i m code link above (level.inside k d h).1)

-- one more level is done
pub level-done : (lines : List BillLine) (count code : ℕ) (items : List ℕ) (Done Now : ℕ → Type 0) → IsLevel lines count code items
    → AreDone lines count code Done → ((i : ℕ) → Done i → Now i) → All Now items → AreDone lines count (code + 1) Now
level-done lines count code items Done Now level done stays here i n below is low = elim (cases_order n code) [
  | inl same ↦
      let (place, within, at) = level.all i below (subst (λ (m : ℕ). IsCode lines i m) same is) in
      subst Now at (here place i within)
  | inr (inl less) ↦ stays i (done i n below is less)
  | inr (inr more) ↦ absurd (omega (arith, low, more))
]

-- every item is done
pub levels-done : (lines : List BillLine) (count first : ℕ) (levels : List (Vec ℕ Global)) (Done : ℕ → Type 0) → AreLevels lines count levels
    → ((code : ℕ) → code < length levels → code < first) → AreDone lines count first Done → (i : ℕ) → i < count → Done i
levels-done lines count first levels Done all passed done i below =
    let (n, within, is) = all.whole i below in
    done i n below is (passed n within)
