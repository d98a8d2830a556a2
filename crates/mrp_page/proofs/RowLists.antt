-- Rows that belong together, and what is found among them.
use Rattle.std.proofs.Common.{◌≡◌, ◌∙◌, ◌+◌, ◌<◌, ◌≤◌, ℕ, Bool, true, false, not, nat_lt, Option, List, [], ◌∷◌, ◌++◌, length, take, drop, get_or, refl, sym, ap, add-one, arith, append_assoc, drop-cons, unwrap_or, Bor, map, min}
use Rattle.std.proofs.lemmas.List.{append-nil, drop_all, take-map, take_min, take_more}
use Rattle.std.proofs.lemmas.List.Sums.{prefix_len-le-length}
use Rattle.std.proofs.lemmas.Bool.{ltb-false}
use Rattle.std.specs.Prelude.{◌||◌}
use Rattle.std.specs.List.{before_first, fold, list_any, position, position_or_len}
use Rattle.std.specs.Option.{IfSome}
use Rattle.mrp_page.specs.Row.{RowView, cell_at}
use Rattle.mrp_page.specs.Rows.{last_name, leader_rows, leaders, stretch}

-- a place, or the length if there is none
pub position_or : {A : Type 0} (p : A → Bool) (xs : List A) → unwrap_or (position p xs) (length xs) ≡ position_or_len p xs
position_or p xs = by (nat_lt (position_or_len p xs) (length xs)) refl
  where
    by : (b : Bool) → nat_lt (position_or_len p xs) (length xs) ≡ b → unwrap_or (position p xs) (length xs) ≡ position_or_len p xs
    by true e = rw e refl
    by false e = rw e (omega (arith, ltb-false _ _ e, prefix_len-le-length (λ x. not (p x)) xs))

-- a place is within the list
pub position_within : {A : Type 0} (p : A → Bool) (xs : List A) → IfSome (position p xs) (λ i. i ≤ length xs)
position_within p xs = by (nat_lt (position_or_len p xs) (length xs)) refl
  where
    by : (b : Bool) → nat_lt (position_or_len p xs) (length xs) ≡ b → IfSome (position p xs) (λ i. i ≤ length xs)
    by true e = rw e (prefix_len-le-length (λ x. not (p x)) xs)
    by false e = rw e tt

-- the first stretch of elements that pass
pub stretch_is : {A : Type 0} (p : A → Bool) (xs rest found : List A) (from to : Option ℕ) → from ≡ position p xs → rest ≡ drop (unwrap_or from (length xs)) xs → to ≡ position (λ x. not (p x)) rest → found ≡ take (unwrap_or to (length rest)) rest → found ≡ stretch p xs
stretch_is {A} p xs rest found from to from_is rest_is to_is found_is =
    let e : rest ≡ drop (position_or_len p xs) xs = rest_is ∙ ap (λ (o : Option ℕ). drop (unwrap_or o (length xs)) xs) from_is ∙ ap (λ (n : ℕ). drop n xs) (position_or p xs) in
    found_is ∙ ap (λ (o : Option ℕ). take (unwrap_or o (length rest)) rest) to_is ∙ ap (λ (n : ℕ). take n rest) (position_or (λ x. not (p x)) rest)
    ∙ ap (λ (ys : List A). before_first (λ x. not (p x)) ys) e

-- one more element of what is left was taken
pub fold_next : {A X : Type 0} (f : A → X → A) (v : A) (xs : List X) (k : ℕ) (x d : X) → k < length xs → x ≡ get_or xs k d → fold f v (drop k xs) ≡ fold f (f v x) (drop (k + 1) xs)
fold_next f v xs k x d within is = rw (drop-cons xs k d within, is, add-one) refl

-- all were taken
pub fold_end : {A X : Type 0} (f : A → X → A) (v : A) (xs : List X) (k : ℕ) → k ≡ length xs → fold f v (drop k xs) ≡ v
fold_end f v xs k all = rw (drop_all k xs (omega arith)) refl

pub leaders-more : (previous : List ℕ) (rows : List RowView) (r : RowView) → leaders previous (rows ++ (r ∷ [])) ≡ leaders previous rows ++ leader_rows (last_name previous rows) r
unfolding leaders last_name
leaders-more previous [] r = append-nil (leader_rows previous r)
leaders-more previous (x ∷ rows) r =
    ap (λ (t : List RowView). leader_rows previous x ++ t) (leaders-more (cell_at x 0) rows r) ∙ sym (append_assoc (leader_rows previous x) (leaders (cell_at x 0) rows) (leader_rows (last_name (cell_at x 0) rows) r))

pub last-more : (previous : List ℕ) (rows : List RowView) (r : RowView) → last_name previous (rows ++ (r ∷ [])) ≡ cell_at r 0
unfolding last_name
last-more previous [] r = refl
last-more previous (x ∷ rows) r = last-more (cell_at x 0) rows r

one-more : (rows : List RowView) (k : ℕ) (r d : RowView) → k < length rows → r ≡ get_or rows k d → take (k + 1) rows ≡ take k rows ++ (r ∷ [])
one-more rows k r d within is = take_more rows k d within ∙ ap (λ (x : RowView). take k rows ++ (x ∷ [])) (sym is)

-- the first rows of the items so far, with one more row
pub leaders_next : (rows : List RowView) (k : ℕ) (r d : RowView) (previous : List ℕ) (found next : List RowView) → k < length rows → r ≡ get_or rows k d → previous ≡ last_name [] (take k rows) → found ≡ leaders [] (take k rows)
    → next ≡ found ++ leader_rows previous r → next ≡ leaders [] (take (k + 1) rows)
leaders_next rows k r d previous found next within is before so_far adds =
    adds ∙ ap (λ (t : List RowView). t ++ leader_rows previous r) so_far ∙ ap (λ (t : List ℕ). leaders [] (take k rows) ++ leader_rows t r) before
    ∙ sym (leaders-more [] (take k rows) r) ∙ ap (leaders []) (sym (one-more rows k r d within is))

pub last_next : (rows : List RowView) (k : ℕ) (r d : RowView) (name : List ℕ) → k < length rows → r ≡ get_or rows k d → name ≡ cell_at r 0 → name ≡ last_name [] (take (k + 1) rows)
last_next rows k r d name within is named = named ∙ sym (ap (last_name []) (one-more rows k r d within is) ∙ last-more [] (take k rows) r)

-- the first of some references
pub first-rows : (rows front : List (Bor RowView)) (most count : ℕ) → count ≡ min most (length rows) → front ≡ take count rows → map (λ r. r.now) front ≡ take most (map (λ r. r.now) rows)
first-rows rows front most count is front_is =
    ap (λ (rs : List (Bor RowView)). map (λ (r : Bor RowView). r.now) rs) (front_is ∙ ap (λ (n : ℕ). take n rows) is ∙ take_min most rows) ∙ sym (take-map (λ (r : Bor RowView). r.now) most rows)

-- one of what some things are seen as passes
pub any-map : {A B : Type 0} (p : B → Bool) (view : A → B) (xs : List A) → list_any (λ x. p (view x)) xs ≡ list_any p (map view xs)
any-map p view [] = refl
any-map p view (x ∷ xs) = ap (λ (b : Bool). p (view x) || b) (any-map p view xs)
