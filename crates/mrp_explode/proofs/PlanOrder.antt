-- Items are planned in an order in which parents stand before their components.
use Rattle.std.proofs.Common.{◌≡◌, ◌∙◌, ℕ, ◌+◌, ◌<◌, true, List, Option, Some, None, length, length-set, get_or, set, sym, ap, subst, inl, inr, refl, arith, get_or-set_same, get_or-set_other}
use Rattle.std.proofs.lemmas.Bool.{cases_order}
use Rattle.std.proofs.lemmas.List.Elements.{filter_passes}
use Rattle.std.specs.Prelude.{All, IsSome}
use Rattle.std.specs.List.{range_with_len, slice_index_or}
use Rattle.mrp_tables.specs.declared.rows.BillLine.{BillLine}
use Rattle.mrp_bill.specs.Bill.{IsOrder, is_parent, parents_of}
use Rattle.mrp_bill.proofs.Listed.{filter-range-below}
use Rattle.mrp_item.specs.Inputs.{Inputs, count}
use Rattle.mrp_item.specs.Made.{item_from}
use Rattle.mrp_item.specs.Places.{ItemOf}
use Rattle.mrp_board.specs.BoardState.{AreOwn}
use Rattle.mrp_explode.specs.Finished.{Finishes}
use Rattle.mrp_explode.proofs.LevelLists.{apart}

set-own : (s : Inputs) (xs : List (Option ItemOf)) (item : ℕ) (o : ItemOf) → item < length xs → o ≡ item_from s item
    → ((i : ℕ) (p : ItemOf) → slice_index_or xs i None ≡ Some p → p ≡ item_from s i)
    → (i : ℕ) (p : ItemOf) → slice_index_or (set xs item (Some o)) i None ≡ Some p → p ≡ item_from s i
set-own s xs item o within own others i p e = elim (cases_order i item) [
  | inl same ↦
      let here : slice_index_or (set xs item (Some o)) i None ≡ Some o = ap (λ k. slice_index_or (set xs item (Some o)) k None) same ∙ get_or-set_same xs item (Some o) None within in
      let outcome : o ≡ p = cc in
      sym outcome ∙ own ∙ ap (item_from s) (sym same)
  | inr other ↦ others i p (sym (get_or-set_other xs item i (Some o) None (apart i item other)) ∙ e)
]

set-here : (xs : List (Option ItemOf)) (item : ℕ) (o : ItemOf) → item < length xs → IsSome (slice_index_or (set xs item (Some o)) item None)
set-here xs item o within = subst (λ (x : Option ItemOf). IsSome x) (sym (get_or-set_same xs item (Some o) None within)) refl

set-others : (xs : List (Option ItemOf)) (item i : ℕ) (o : ItemOf) → item < length xs → IsSome (slice_index_or xs i None) → IsSome (slice_index_or (set xs item (Some o)) i None)
set-others xs item i o within there = elim (cases_order i item) [
  | inl same ↦ subst (λ (k : ℕ). IsSome (slice_index_or (set xs item (Some o)) k None)) (sym same) (set-here xs item o within)
  | inr other ↦ subst (λ (x : Option ItemOf). IsSome x) (sym (get_or-set_other xs item i (Some o) None (apart i item other))) there
]

-- one more outcome is put in its place
pub own-put : (s : Inputs) (xs : List (Option ItemOf)) (item : ℕ) (o : ItemOf) → AreOwn s xs → item < count s → o ≡ item_from s item → AreOwn s (set xs item (Some o))
own-put s xs item o own within is = record {
  size = length-set xs item (Some o) ∙ own.size;
  own = set-own s xs item o (omega (arith, own.size, within)) is own.own;
}

-- and its item is finished
pub finishes-put : (s : Inputs) (xs : List (Option ItemOf)) (item : ℕ) (o : ItemOf) → item < length xs → Finishes (record { inputs = s; outcomes = xs }) (record { inputs = s; outcomes = set xs item (Some o) }) item
finishes-put s xs item o within = record {
  inputs = refl;
  here = set-here xs item o within;
  others = λ i there. set-others xs item i o within there;
}

-- the parents of the next item stand before it
pub parents-ready : (lines : List BillLine) (count : ℕ) (order : List ℕ) (k : ℕ) (Done : ℕ → Type 0) → IsOrder lines count order → k < length order
    → ((j : ℕ) → j < k → Done (get_or order j 0)) → All Done (parents_of lines count (get_or order k 0))
parents-ready lines count order k Done o within done place d h =
    let p = get_or (parents_of lines count (get_or order k 0)) place d in
    let below : p < count = filter-range-below (λ q. is_parent lines q (get_or order k 0)) count place d h in
    let link = filter_passes (λ q. is_parent lines q (get_or order k 0)) (range_with_len 0 count) place d h in
    let (j, low, same) = o.all.each p below in
    subst Done same (done j (o.parents_first j k low within (subst (λ (q : ℕ). is_parent lines q (get_or order k 0) ≡ true) (sym same) link)))

-- all items stand in the order
pub all-done : (lines : List BillLine) (count : ℕ) (order : List ℕ) (Done : ℕ → Type 0) → IsOrder lines count order → ((j : ℕ) → j < length order → Done (get_or order j 0)) → (i : ℕ) → i < count → Done i
all-done lines count order Done o done i h =
    let (j, low, same) = o.all.each i h in
    subst Done same (done j low)

-- one more of a list is done, and what was done stays so
pub one-more-done : (items : List ℕ) (k item : ℕ) (Was Is : ℕ → Type 0) → item ≡ get_or items k 0 → ((j : ℕ) → j < k → Was (get_or items j 0)) → Is item → ((i : ℕ) → Was i → Is i)
    → (j : ℕ) → j < k + 1 → Is (get_or items j 0)
one-more-done items k item Was Is same before here others j h = elim (cases_order j k) [
  | inl at ↦ subst (λ (n : ℕ). Is (get_or items n 0)) (sym at) (subst Is same here)
  | inr other ↦ elim other [
    | inl low ↦ others (get_or items j 0) (before j low)
    | inr high ↦ absurd (omega (arith, h, high))
  ]
]
