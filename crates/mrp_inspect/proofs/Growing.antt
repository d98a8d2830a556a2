-- Lists that grow by one element.
use Rattle.std.proofs.Common.{◌≡◌, ◌∙◌, ℕ, ◌+◌, ◌<◌, ◌≤◌, List, [], ◌∷◌, ◌++◌, Option, Some, None, append-nil, append_assoc, length, take, get_or, map, ap, ap₂, refl, subst, sym}
use Rattle.std.specs.Prelude.{filter_map, flat_map}
use Rattle.std.specs.List.{All, AllZip}
use Rattle.std.specs.Option.{option_to_list}
use Rattle.std.proofs.lemmas.List.{map-append, take_all, take_more}
use Rattle.std.proofs.lemmas.List.Concat.{flat_map-append}
use Rattle.std.proofs.lemmas.List.Elements.{All-append, All-cons, All-nil, filter_map-append}
use Rattle.mrp_script.proofs.Zipped.{zip-push}

-- what each element is mapped to, of one element more
pub map-more : {A B : Type 0} (f : A → B) (xs : List A) (k : ℕ) (d : A) (now more : List B) (y : B) → k < length xs → more ≡ now ++ y ∷ [] → y ≡ f (get_or xs k d) → now ≡ map f (take k xs) → more ≡ map f (take (k + 1) xs)
map-more {A} {B} f xs k d now more y within grown is so_far =
    grown ∙ ap₂ (λ (ys : List B) (z : B). ys ++ z ∷ []) so_far is ∙ sym (map-append f (take k xs) (get_or xs k d ∷ [])) ∙ ap (map f) (sym (take_more xs k d within))

-- the same of all elements
pub map-all : {A B : Type 0} (f : A → B) (xs all : List A) (k : ℕ) (now : List B) → xs ≡ all → length xs ≤ k → now ≡ map f (take k xs) → now ≡ map f all
map-all {A} {B} f xs all k now is whole so_far = so_far ∙ ap (map f) (take_all k xs whole ∙ is)

-- the same of elements that are mapped too
pub maps-more : {A B C : Type 0} (g : C → B) (f : A → B) (xs : List A) (k : ℕ) (d : A) (now more : List C) (y : C) → k < length xs → more ≡ now ++ y ∷ [] → g y ≡ f (get_or xs k d) → map g now ≡ map f (take k xs) → map g more ≡ map f (take (k + 1) xs)
maps-more {A} {B} {C} g f xs k d now more y within grown is so_far =
    map-more f xs k d (map g now) (map g more) (g y) within (ap (map g) grown ∙ map-append g now (y ∷ [])) is so_far

pub filter_map-one : {A B : Type 0} (f : A → Option B) (x : A) → filter_map f (x ∷ []) ≡ option_to_list (f x)
filter_map-one {A} {B} f x = by (f x)
  where
    by : (o : Option B) → filter_map (λ (y : A). o) (x ∷ []) ≡ option_to_list o
    by None = refl
    by (Some y) = refl

-- what some elements are mapped to, of one element more, behind other elements
pub filter-more : {A B : Type 0} (f : A → Option B) (xs : List A) (k : ℕ) (d : A) (front now more : List B) → k < length xs → more ≡ now ++ option_to_list (f (get_or xs k d)) → now ≡ front ++ filter_map f (take k xs)
    → more ≡ front ++ filter_map f (take (k + 1) xs)
filter-more {A} {B} f xs k d front now more within grown so_far =
    grown ∙ ap (λ (ys : List B). ys ++ option_to_list (f (get_or xs k d))) so_far ∙ append_assoc front (filter_map f (take k xs)) (option_to_list (f (get_or xs k d)))
    ∙ ap (λ (ys : List B). front ++ ys) (ap (λ (ys : List B). filter_map f (take k xs) ++ ys) (sym (filter_map-one f (get_or xs k d))) ∙ sym (filter_map-append f (take k xs) (get_or xs k d ∷ [])) ∙ ap (filter_map f) (sym (take_more xs k d within)))

-- what each element gives, of one element more, behind other elements
pub flat-more : {A B : Type 0} (f : A → List B) (xs : List A) (k : ℕ) (d : A) (front now more : List B) → k < length xs → more ≡ now ++ f (get_or xs k d) → now ≡ front ++ flat_map f (take k xs) → more ≡ front ++ flat_map f (take (k + 1) xs)
flat-more {A} {B} f xs k d front now more within grown so_far =
    grown ∙ ap (λ (ys : List B). ys ++ f (get_or xs k d)) so_far ∙ append_assoc front (flat_map f (take k xs)) (f (get_or xs k d))
    ∙ ap (λ (ys : List B). front ++ ys) (ap (λ (ys : List B). flat_map f (take k xs) ++ ys) (sym (append-nil (f (get_or xs k d)))) ∙ sym (flat_map-append f (take k xs) (get_or xs k d ∷ [])) ∙ ap (flat_map f) (sym (take_more xs k d within)))

-- one element more beside one more
pub zip-more : {A B : Type 0} (R : A → B → Type 0) (xs : List A) (k : ℕ) (d : A) (now more : List B) (y : B) → k < length xs → more ≡ now ++ y ∷ [] → R (get_or xs k d) y → AllZip R (take k xs) now → AllZip R (take (k + 1) xs) more
zip-more {A} {B} R xs k d now more y within grown one are =
    subst (λ (ys : List B). AllZip R (take (k + 1) xs) ys) (sym grown)
    (subst (λ (zs : List A). AllZip R zs (now ++ y ∷ [])) (sym (take_more xs k d within)) (zip-push R (take k xs) now (get_or xs k d) y are one))

pub zip-all : {A B : Type 0} (R : A → B → Type 0) (xs all : List A) (k : ℕ) (now : List B) → xs ≡ all → length xs ≤ k → AllZip R (take k xs) now → AllZip R all now
zip-all {A} {B} R xs all k now is whole are = subst (λ (ys : List A). AllZip R ys now) (take_all k xs whole ∙ is) are

-- one element more of which it holds
pub all-more : {A : Type 0} (P : A → Type 0) (xs : List A) (k : ℕ) (d : A) → k < length xs → P (get_or xs k d) → All P (take k xs) → All P (take (k + 1) xs)
all-more {A} P xs k d within one are =
    subst (λ (ys : List A). All P ys) (sym (take_more xs k d within)) (All-append P (take k xs) (get_or xs k d ∷ []) are (All-cons P (get_or xs k d) [] one (All-nil P)))
