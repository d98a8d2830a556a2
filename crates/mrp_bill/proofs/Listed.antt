-- A list for each place of a list: of numbers, one for each item, and of others.
use Rattle.std.proofs.Common.{◌≡◌, ◌≢◌, ℕ, ◌+◌, ◌<◌, Bool, true, false, cond, eqb, subst, List, [], ◌∷◌, ◌++◌, length, get_or, map, filter, refl, sym, ap, ◌∙◌, arith}
use Rattle.std.proofs.Math.ListN.{set}
use Rattle.std.proofs.lemmas.List.{map-id, map-set, length-map, get_or-map, get_or-set_same, get_or-set_other, length-set, append-nil, length-append, get_or_push}
use Rattle.std.proofs.lemmas.Bool.{eqb-true, eqb-false}
use Rattle.std.specs.Prelude.{All}
use Rattle.std.proofs.lemmas.List.FromFn.{filter_of_map_range_with_len_more, get_or-range_with_len, length-range_with_len}
use Rattle.std.proofs.lemmas.List.Elements.{All-filter, Contains-get_or}
use Rattle.std.specs.List.{range_with_len, Contains}
use Rattle.std.specs.Prelude.{Vec}
use Rattle.std.specs.declared.alloc.Global.{Global}
use Rattle.mrp_bill.specs.Grouped as groups
use Rattle.mrp_bill.specs.Lists.{listed, Appends}

-- a list as it is read
pub listed-read : {X : Type 0} (lists : List (Vec X Global)) (i : ℕ) (d : Vec X Global) → i < length lists → listed lists i ≡ (get_or lists i d).items
listed-read lists i d h = get_or-map (λ v. v.items) lists i d [] h

pub listed-set_same : {X : Type 0} (lists : List (Vec X Global)) (i : ℕ) (v : Vec X Global) → i < length lists → listed (set lists i v) i ≡ v.items
listed-set_same {X} lists i v h =
    let k : i < length (map (λ (w : Vec X Global). w.items) lists) = omega (arith, length-map lists (λ (w : Vec X Global). w.items)) in
    rw (map-set (λ (w : Vec X Global). w.items) lists i v) (get_or-set_same (map (λ (w : Vec X Global). w.items) lists) i v.items [] k)

pub listed-set_other : {X : Type 0} (lists : List (Vec X Global)) (i j : ℕ) (v : Vec X Global) → j ≢ i → listed (set lists i v) j ≡ listed lists j
listed-set_other {X} lists i j v ne =
    rw (map-set (λ (w : Vec X Global). w.items) lists i v) (get_or-set_other (map (λ (w : Vec X Global). w.items) lists) i j v.items [] ne)

-- a list with one element appended
pub appends-set : {X : Type 0} (lists : List (Vec X Global)) (at : ℕ) (x : X) (old new : Vec X Global) → at < length lists → old ≡ get_or lists at old → new.items ≡ old.items ++ x ∷ [] → Appends lists (set lists at new) at x
appends-set {X} lists at x old new h read pushed = record {
  size = length-set lists at new;
  put = listed-set_same lists at new h ∙ pushed ∙ ap (λ (xs : List X). xs ++ x ∷ []) (ap (λ (v : Vec X Global). v.items) read ∙ sym (listed-read lists at old h));
  others = λ i ne. listed-set_other lists at i new ne;
}

-- what a test keeps of the numbers up to n
pub filter-range_more : (p : ℕ → Bool) (n : ℕ) → filter p (range_with_len 0 (n + 1)) ≡ filter p (range_with_len 0 n) ++ cond (p n) (n ∷ []) []
filter-range_more p n =
    ap (filter p) (sym (map-id (range_with_len 0 (n + 1)))) ∙ filter_of_map_range_with_len_more p (λ x. x) 0 n n (omega arith)
    ∙ ap (λ xs. filter p xs ++ cond (p n) (n ∷ []) []) (map-id (range_with_len 0 n))

-- one more element at the end of one list, said of each list
pub listed-appends : {X : Type 0} (old new : List (Vec X Global)) (at : ℕ) (x : X) → Appends old new at x → (i : ℕ) → listed new i ≡ listed old i ++ cond (eqb at i) (x ∷ []) []
listed-appends {X} old new at x a i = by (eqb at i) refl
  where
    by : (b : Bool) → eqb at i ≡ b → listed new i ≡ listed old i ++ cond b (x ∷ []) []
    by true e = let same : at ≡ i = eqb-true at i e in rw (← same) a.put
    by false e = a.others i (λ s. eqb-false at i e (sym s)) ∙ sym (append-nil (listed old i))

-- what a test keeps of the numbers up to n is below n
pub filter-range-below : (p : ℕ → Bool) (n : ℕ) → All (λ x. x < n) (filter p (range_with_len 0 n))
filter-range-below p n = All-filter p (λ x. x < n) (range_with_len 0 n) (λ k d h.
    let e = get_or-range_with_len 0 n k d (omega (arith, length-range_with_len 0 n)) in omega (arith, e, length-range_with_len 0 n))

-- a value that is read in a group is in it
pub listed-contains : (parts : List (List ℕ)) (i : ℕ) (xs : List ℕ) (k d : ℕ) → xs ≡ groups.listed parts i → k < length xs → groups.IsListed parts (get_or xs k d) i
listed-contains parts i xs k d same h = subst (λ (ys : List ℕ). Contains ys (get_or xs k d)) same (Contains-get_or xs k d h)

-- what holds of each element holds of the last
pub last-within : (xs ys : List ℕ) (x n : ℕ) → xs ≡ ys ++ x ∷ [] → All (λ i. i < n) xs → x < n
last-within xs ys x n same all =
    let within : length ys < length xs = omega (arith, ap (length {A = ℕ}) same, length-append ys (x ∷ [])) in
    let last : get_or xs (length ys) 0 ≡ x = rw same (get_or_push ys x 0 (length ys) refl) in
    omega (arith, all (length ys) 0 within, last)
