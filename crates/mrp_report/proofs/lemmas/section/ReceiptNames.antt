-- The names of open receipts, gathered row by row.
use Rattle.std.proofs.Common.{◌≡◌, ◌≢◌, ◌∙◌, ℕ, ◌<◌, true, false, List, [], ◌∷◌, ◌++◌, length, get_or, set, Option, Some, None, sym, ap, inl, inr, refl}
use Rattle.std.specs.Prelude.{◌==◌, find}
use Rattle.std.specs.Option.{is_some, option_map, option_or}
use Rattle.std.proofs.lemmas.Bool.Decides.{eqb_tells}
use Rattle.std.proofs.lemmas.List.{get_or-set_other, get_or-set_same}
use Rattle.std.proofs.lemmas.List.Folds.{find-append}
use Rattle.mrp_tables.specs.declared.rows.Receipt.{Receipt}
use Rattle.mrp_report.specs.section.ReceiptNames.{order_of}

abbrev pub IsKnown : List (Option (List ℕ)) → List Receipt → Type 0
IsKnown names rows = (number : ℕ) → get_or names number None ≡ order_of rows number

map-or : {A B : Type 0} (f : A → B) (x y : Option A) → option_map f (option_or x y) ≡ option_or (option_map f x) (option_map f y)
map-or f None y = refl
map-or f (Some x) y = refl

or-none : {A : Type 0} (x : Option A) → option_or x None ≡ x
or-none None = refl
or-none (Some x) = refl

order-more : (rows : List Receipt) (x : Receipt) (number : ℕ) → order_of (rows ++ x ∷ []) number ≡ option_or (order_of rows number) (order_of (x ∷ []) number)
order-more rows x number =
    ap (option_map (λ r. r.order)) (find-append (λ r. r.number == number) rows (x ∷ []))
    ∙ map-or (λ r. r.order) (find (λ r. r.number == number) rows) (find (λ r. r.number == number) (x ∷ []))

of-one : (x : Receipt) (number : ℕ) → (x.number == number) ≡ true → order_of (x ∷ []) number ≡ Some x.order
of-one x number e = rw e refl

of-other : (x : Receipt) (number : ℕ) → (x.number == number) ≡ false → order_of (x ∷ []) number ≡ None
of-other x number e = rw e refl

none-is : {A : Type 0} (x : Option A) → is_some x ≡ false → x ≡ None
none-is None free = refl
none-is (Some x) free = absurd (cc)

pub known-put : (names : List (Option (List ℕ))) (rows : List Receipt) (x : Receipt) → IsKnown names rows → x.number < length names → is_some (get_or names x.number None) ≡ false → IsKnown (set names x.number (Some x.order)) (rows ++ x ∷ [])
known-put names rows x known within free number = elim (eqb_tells x.number number) [
  | inl (hit, same) ↦
      ap (λ (n : ℕ). get_or (set names x.number (Some x.order)) n None) (sym same) ∙ get_or-set_same names x.number (Some x.order) None within
      ∙ sym (of-one x number hit) ∙ ap (λ (o : Option (List ℕ)). option_or o (order_of (x ∷ []) number)) (sym (none-is (get_or names x.number None) free) ∙ known x.number ∙ ap (order_of rows) same) ∙ sym (order-more rows x number)
  | inr (miss, differ) ↦
      let other : number ≢ x.number = λ e. differ (sym e) in
      get_or-set_other names x.number number (Some x.order) None other ∙ known number ∙ sym (or-none (order_of rows number))
      ∙ ap (option_or (order_of rows number)) (sym (of-other x number miss)) ∙ sym (order-more rows x number)
]

some-or : {A : Type 0} (x y : Option A) → is_some x ≡ true → option_or x y ≡ x
some-or None y taken = absurd (cc)
some-or (Some x) y taken = refl

pub known-kept : (names : List (Option (List ℕ))) (rows : List Receipt) (x : Receipt) → IsKnown names rows → is_some (get_or names x.number None) ≡ true → IsKnown names (rows ++ x ∷ [])
known-kept names rows x known taken number = elim (eqb_tells x.number number) [
  | inl (hit, same) ↦
      let there : is_some (order_of rows number) ≡ true = ap is_some (sym (ap (order_of rows) same) ∙ sym (known x.number)) ∙ taken in
      known number ∙ sym (some-or (order_of rows number) (order_of (x ∷ []) number) there) ∙ sym (order-more rows x number)
  | inr (miss, differ) ↦
      known number ∙ sym (or-none (order_of rows number)) ∙ ap (option_or (order_of rows number)) (sym (of-other x number miss)) ∙ sym (order-more rows x number)
]
