-- A list and a set of keys to which something new is added.
use Rattle.std.proofs.Common.{◌≡◌, ◌≢◌, ◌-◌, ◌++◌, ℕ, Bool, true, false, List, [], ◌∷◌, Result, Ok, Err, get_or, length, length-append, take, refl, ap, ◌∙◌, arith}
use Rattle.std.specs.Prelude.{IfOk, OnErr, if◌then◌else◌, is_err, map}
use Rattle.std.specs.Cmp.{IsEquivalence, and_equiv, nat_eq_equiv, on_equiv}
use Rattle.std.specs.Cmp.Lexicographic.{nat_list_eq_equiv}
use Rattle.std.specs.List.{list_any}
use Rattle.std.proofs.lemmas.List.{map-append}
use Rattle.std.proofs.Math.Seq.{take-append_seam}
use Rattle.std.proofs.lemmas.List.Folds.{list_any_at}
use Rattle.std.proofs.lemmas.List.Quantifiers.{all_pairs_push}
use Rattle.mrp_tables.specs.Facts.{AllDiffer}
use Rattle.mrp_tables.specs.Receipts.{same_order}
use Rattle.mrp_tables.specs.Routings.{same_operation}

grown : {X : Type 0} {same : X → X → Bool} → IsEquivalence same → (xs : List X) (x : X)
    → AllDiffer xs → list_any (same x) xs ≡ false → AllDiffer (xs ++ x ∷ [])
grown {X} {same} laws xs x differ new =
    all_pairs_push (λ a b. a ≢ b) xs x differ (λ k d within equal.
    let own : same x (get_or xs k d) ≡ true = ap (same x) equal ∙ laws.refl x in
    let found : list_any (same x) xs ≡ true = list_any_at (same x) xs k d within own in
    absurd cc)

pub same_order_equiv : IsEquivalence same_order
same_order_equiv = and_equiv (on_equiv (λ (o : ℕ × List ℕ). o.0) nat_eq_equiv) (on_equiv (λ (o : ℕ × List ℕ). o.1) nat_list_eq_equiv)

pub same_operation_equiv : IsEquivalence same_operation
same_operation_equiv = and_equiv (on_equiv (λ (o : ℕ × ℕ). o.0) nat_eq_equiv) (on_equiv (λ (o : ℕ × ℕ). o.1) nat_eq_equiv)

-- a field of each row, where a row is added whose field is new
pub grown_field : {X Y : Type 0} {same : X → X → Bool} → IsEquivalence same → (field : Y → X) (old new : List Y) (y : Y)
    → new ≡ old ++ y ∷ [] → AllDiffer (map field old) → list_any (same (field y)) (map field old) ≡ false → AllDiffer (map field new)
grown_field laws field old new y added differ fresh =
    rw (added, map-append field old (y ∷ [])) (grown laws (map field old) (field y) differ fresh)

-- the keys of a set, where a new one was added
pub added_key : {X E : Type 0} (same : X → X → Bool) (added : Result Bool E) (before after : List X) (x : X) → is_err added ≡ false
    → IfOk added (λ new. after ≡ (if list_any (same x) before then before else before ++ x ∷ [])) → list_any (same x) before ≡ false → after ≡ before ++ x ∷ []
added_key same (Ok new) before after x ok keys fresh = keys ∙ rw fresh refl
added_key same (Err refused) before after x ok keys fresh = absurd cc

-- what holds of a refusal, if there is one
pub where_refused : {X E P : Type 0} (r : Result X E) → is_err r ≡ true → OnErr r P → P
where_refused (Ok x) refused h = absurd cc
where_refused (Err e) refused h = h

-- what was pushed is popped again
pub popped : {X : Type 0} (xs pushed left : List X) (x : X) (count : ℕ) → pushed ≡ xs ++ x ∷ [] → count ≡ length pushed → left ≡ take (count - 1) pushed → left ≡ xs
popped xs pushed left x count grown size rest =
    let before : count - 1 ≡ length xs = omega (arith, size ∙ ap length grown ∙ length-append xs (x ∷ [])) in
    rest ∙ rw (before, grown) (take-append_seam xs (x ∷ []))
