-- Lines of warnings, one after another.
use Rattle.std.proofs.Common.{◌≡◌, ◌≢◌, ◌∙◌, ℕ, ◌+◌, ◌<◌, List, [], ◌∷◌, ◌++◌, append-nil, append_assoc, length, take, get_or, ap, codes, decimal, refl, sym}
use Rattle.std.specs.Prelude.{flat_map}
use Rattle.std.proofs.lemmas.Bool.{ne_eqb}
use Rattle.std.proofs.lemmas.List.{take_more}
use Rattle.std.proofs.lemmas.List.Concat.{flat_map-append}
use Rattle.mrp_warn.specs.declared.kind.Kind.{Kind}
use Rattle.mrp_warn.specs.declared.sheets.Sheet.{Sheet}
use Rattle.mrp_warn.specs.Kinds.{column_of, table_of}
use Rattle.mrp_warn.specs.Sheets.{file_of}
use Rattle.mrp_warn.specs.Words.{line_text, more_text}

-- one more element
pub flat_map-more : {A B : Type 0} (f : A → List B) (xs : List A) (k : ℕ) (x : A) → k < length xs → x ≡ get_or xs k x → flat_map f (take (k + 1) xs) ≡ flat_map f (take k xs) ++ f x
flat_map-more {A} {B} f xs k x within is =
    ap (flat_map f) (take_more xs k x within ∙ ap (λ (y : A). take k xs ++ y ∷ []) (sym is)) ∙ flat_map-append f (take k xs) (x ∷ []) ∙ ap (λ (t : List B). flat_map f (take k xs) ++ t) (append-nil (f x))

-- a text that grows by one more element
pub grows : {A B : Type 0} (f : A → List B) (xs : List A) (k : ℕ) (x : A) (start old new : List B) → k < length xs → x ≡ get_or xs k x → old ≡ start ++ flat_map f (take k xs) → new ≡ old ++ f x
    → new ≡ start ++ flat_map f (take (k + 1) xs)
grows {A} {B} f xs k x start old new within is so_far more =
    more ∙ ap (λ (t : List B). t ++ f x) so_far ∙ append_assoc start (flat_map f (take k xs)) (f x) ∙ ap (λ (t : List B). start ++ t) (sym (flat_map-more f xs k x within is))

-- lines, and what follows them
pub closes : {B : Type 0} (start lines more old new : List B) → old ≡ start ++ lines → new ≡ old ++ more → new ≡ start ++ (lines ++ more)
closes {B} start lines more old new so_far next = next ∙ ap (λ (t : List B). t ++ more) so_far ∙ append_assoc start lines more

-- the line for the rest, where there is one
pub more-line : (sheets : List Sheet) (kind : Kind) (rest : ℕ) → rest ≢ 0 → more_text sheets kind rest ≡ line_text (file_of sheets (table_of kind)) 0 (column_of kind) (decimal rest ++ codes " more like these")
more-line sheets kind rest some = rw (ne_eqb rest 0 some) refl
