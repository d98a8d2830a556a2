-- Lists of outcomes, outcome by outcome.
use Rattle.std.proofs.Common.{◌≡◌, ◌∙◌, ◌<◌, ◌+◌, ℕ, suc, List, [], ◌∷◌, ◌++◌, length, get_or, take, ap, sym, arith}
use Rattle.std.specs.List.{range_with_len}
use Rattle.std.proofs.lemmas.List.{map-append, take_more}
use Rattle.std.proofs.lemmas.List.FromFn.{get_or-map-range_with_len, length-map-range_with_len}
use Rattle.mrp_phase.proofs.WeekRows.{range_more}
use Rattle.mrp_item.specs.Inputs.{Inputs}
use Rattle.mrp_item.specs.Places.{ItemOf}
use Rattle.mrp_item.specs.Made.{item_from, items_from}

-- one more outcome
pub items-more : (s : Inputs) (old new : List ItemOf) (o : ItemOf) (items : List ℕ) (i : ℕ) → old ≡ items_from s items → new ≡ old ++ o ∷ [] → o ≡ item_from s i → new ≡ items_from s (items ++ i ∷ [])
items-more s old new o items i same adds is =
    adds ∙ ap (λ (x : ItemOf). old ++ x ∷ []) is ∙ ap (λ (xs : List ItemOf). xs ++ item_from s i ∷ []) same ∙ sym (map-append (item_from s) items (i ∷ []))

-- the outcome of the next of some items
pub items-next : (s : Inputs) (old new : List ItemOf) (o : ItemOf) (items : List ℕ) (k : ℕ) → k < length items → old ≡ items_from s (take k items) → new ≡ old ++ o ∷ []
    → o ≡ item_from s (get_or items k 0) → new ≡ items_from s (take (k + 1) items)
items-next s old new o items k h same adds is =
    items-more s old new o (take k items) (get_or items k 0) same adds is ∙ ap (items_from s) (sym (take_more items k 0 h))

-- one more place
pub places-more : (n : ℕ) → range_with_len 0 n ++ n ∷ [] ≡ range_with_len 0 (n + 1)
places-more n =
    let next : n + 1 ≡ suc n = omega arith in
    let here : 0 + n ≡ n = omega arith in
    sym (ap (range_with_len 0) next ∙ range_more 0 n ∙ ap (λ (x : ℕ). range_with_len 0 n ++ x ∷ []) here)

-- the outcome of the next place
pub places-next : (s : Inputs) (old new : List ItemOf) (o : ItemOf) (i : ℕ) → old ≡ items_from s (range_with_len 0 i) → new ≡ old ++ o ∷ [] → o ≡ item_from s i → new ≡ items_from s (range_with_len 0 (i + 1))
places-next s old new o i same adds is = items-more s old new o (range_with_len 0 i) i same adds is ∙ ap (items_from s) (places-more i)

-- as many outcomes as items
pub length-items : (s : Inputs) (n : ℕ) (os : List ItemOf) → os ≡ items_from s (range_with_len 0 n) → length os ≡ n
length-items s n os are = ap length are ∙ length-map-range_with_len (item_from s) 0 n

-- the outcome at an item's place is the item's
pub item-at : (s : Inputs) (n i : ℕ) (os : List ItemOf) (o : ItemOf) → os ≡ items_from s (range_with_len 0 n) → i < n → o ≡ get_or os i o → o ≡ item_from s i
item-at s n i os o are within is = is ∙ ap (λ (xs : List ItemOf). get_or xs i o) are ∙ get_or-map-range_with_len (item_from s) 0 n i i o within (omega arith)
