-- A fold over what each of the first numbers gives.
use Rattle.std.proofs.Common.{◌≡◌, ◌∙◌, ◌++◌, ◌+◌, ℕ, List, [], ◌∷◌, sym, ap, fold}
use Rattle.std.specs.Prelude.{flat_map}
use Rattle.std.specs.List.{range_with_len}
use Rattle.std.proofs.lemmas.List.{append-nil}
use Rattle.std.proofs.lemmas.List.Concat.{flat_map-append}
use Rattle.std.proofs.lemmas.List.Sums.{fold-append}
use Rattle.mrp_item.proofs.OutcomeLists.{places-more}

pub gathered : {A B : Type 0} (f : B → A → B) (a : B) (p : ℕ → List A) (i : ℕ) → fold f a (flat_map p (range_with_len 0 (i + 1))) ≡ fold f (fold f a (flat_map p (range_with_len 0 i))) (p i)
gathered {A} {B} f a p i =
    ap (λ (l : List ℕ). fold f a (flat_map p l)) (sym (places-more i))
    ∙ ap (λ (l : List A). fold f a l) (flat_map-append p (range_with_len 0 i) (i ∷ []))
    ∙ ap (λ (l : List A). fold f a (flat_map p (range_with_len 0 i) ++ l)) (append-nil (p i))
    ∙ fold-append f a (flat_map p (range_with_len 0 i)) (p i)
