-- What is in a list of places, each of which holds something, is taken out from the first on.
use Rattle.std.proofs.Common.{◌≡◌, ◌∙◌, ◌<◌, ℕ, List, ◌++◌, Option, Some, None, length, get_or, map, ap, sym, subst, arith}
use Rattle.std.proofs.lemmas.List.{length-map, get_or-map, get_or_default, ext_get_or}
use Rattle.std.proofs.lemmas.List.FromFn.{get_or-map-range_with_len, length-map-range_with_len}
use Rattle.std.specs.Prelude.{All, IsSome}
use Rattle.std.specs.List.{slice_index_or}
use Rattle.mrp_item.specs.Inputs.{Inputs, count}
use Rattle.mrp_item.specs.Made.{all_from, item_from}
use Rattle.mrp_item.specs.Places.{ItemOf}
use Rattle.mrp_board.specs.BoardState.{AreOwn}

-- these were taken out of the places, and those are left
abbrev pub AreTaken : {X : Type 0} → List (Option X) → List X → List (Option X) → Type 0
AreTaken places taken left = places ≡ map Some taken ++ left

-- all items are finished, so each place holds an outcome
pub all-there : (s : Inputs) (places : List (Option ItemOf)) → AreOwn s places → ((i : ℕ) → i < count s → IsSome (slice_index_or places i None)) → All IsSome places
all-there s places own done k d h = subst (λ (x : Option ItemOf). IsSome x) (get_or_default places k None d h) (done k (omega (arith, own.size, h)))

-- and these are the outcomes of all items
pub all-own : (s : Inputs) (places : List (Option ItemOf)) (all : List ItemOf) → AreOwn s places → places ≡ map Some all → all ≡ all_from s
all-own s places all own are =
    let size : length all ≡ count s = sym (length-map all Some) ∙ sym (ap length are) ∙ own.size in
    let d : ItemOf = item_from s 0 in
    ext_get_or d all (all_from s) (size ∙ sym (length-map-range_with_len (item_from s) 0 (count s)))
    (λ i h. own.own i (get_or all i d) (ap (λ (xs : List (Option ItemOf)). get_or xs i None) are ∙ get_or-map Some all i d None h)
    ∙ sym (get_or-map-range_with_len (item_from s) 0 (count s) i i d (omega (arith, size, h)) (omega arith)))
