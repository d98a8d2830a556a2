-- What lists contain that are made by a map, a filter, a join, or by adding what is new.
use Rattle.std.proofs.Common.{◌≡◌, ◌∙◌, ◌⊎◌, zero, suc, ◌||◌, Bool, true, false, cond, List, [], ◌∷◌, ◌++◌, map, refl, sym, ap, arith, inl, inr, subst, Option, Some, None}
use Rattle.std.specs.Prelude.{Contains, filter, flat_map, fold, if◌then◌else◌}
use Rattle.std.specs.List.{list_any}
use Rattle.std.proofs.lemmas.List.Elements.{Contains-append_cases, Contains-append_left, Contains-append_right}
use Rattle.std.proofs.lemmas.List.Concat.{flat_map-cons}
use Rattle.indexmap.proofs.CallerLemmas.{Contains-insert_key}
use Rattle.indexmap.specs.IndexSet.{insert_key}
use Rattle.mrp_peg.specs.Walk.{with_any}

pub split : {X : Type 0} (x c : X) (xs : List X) → Contains (x ∷ xs) c → (x ≡ c) ⊎ Contains xs c
split x c xs (zero, within, is) = inl is
split x c xs (suc k, within, is) = inr (k, omega (arith, within), is)

pub here : {X : Type 0} (x c : X) (xs : List X) → x ≡ c → Contains (x ∷ xs) c
here x c xs is = (0, omega arith, is)

pub there : {X : Type 0} (x c : X) (xs : List X) → Contains xs c → Contains (x ∷ xs) c
there x c xs (k, within, is) = (suc k, omega (arith, within), is)

pub nothing : {X : Type 0} (c : X) → Contains [] c → ⊥
nothing c (k, within, is) = omega (arith, within)

pub only : {X : Type 0} (x c : X) → Contains (x ∷ []) c → x ≡ c
only x c (zero, within, is) = is
only x c (suc k, within, is) = absurd (omega (arith, within))

pub in_map : {X Y : Type 0} (f : X → Y) (xs : List X) (y : Y) → Contains (map f xs) y → (x : X) × Contains xs x × (f x ≡ y)
in_map f [] y inside = absurd (nothing y inside)
in_map {X} {Y} f (x ∷ xs) y inside = by (in_map f xs y) (split (f x) y (map f xs) inside)
  where
    by : (Contains (map f xs) y → (z : X) × Contains xs z × (f z ≡ y)) → (f x ≡ y) ⊎ Contains (map f xs) y → (z : X) × Contains (x ∷ xs) z × (f z ≡ y)
    by more (inl is) = (x, here x x xs refl, is)
    by more (inr rest) = let (z, inside, is) = more rest in (z, there x z xs inside, is)

pub in_filter : {X : Type 0} (test : X → Bool) (xs : List X) (c : X) → Contains (filter test xs) c → Contains xs c × (test c ≡ true)
in_filter test [] c inside = absurd (nothing c inside)
in_filter {X} test (x ∷ xs) c inside = by (in_filter test xs c) (test x) refl inside
  where
    first : (Contains (filter test xs) c → Contains xs c × (test c ≡ true)) → (test x ≡ true) → (x ≡ c) ⊎ Contains (filter test xs) c → Contains (x ∷ xs) c × (test c ≡ true)
    first more passes (inl is) = (here x c xs is, ap test (sym is) ∙ passes)
    first more passes (inr rest) = let (inside, e) = more rest in (there x c xs inside, e)

    by : (Contains (filter test xs) c → Contains xs c × (test c ≡ true)) → (b : Bool) → test x ≡ b → Contains (cond b (x ∷ filter test xs) (filter test xs)) c → Contains (x ∷ xs) c × (test c ≡ true)
    by more true e inside = first more e (split x c (filter test xs) inside)
    by more false e inside = let (inside, passes) = more inside in (there x c xs inside, passes)

pub to_filter : {X : Type 0} (test : X → Bool) (xs : List X) (c : X) → Contains xs c → test c ≡ true → Contains (filter test xs) c
to_filter test [] c inside passes = inside
to_filter {X} test (x ∷ xs) c inside passes = by (λ rest. to_filter test xs c rest passes) (test x) refl (split x c xs inside)
  where
    by : (Contains xs c → Contains (filter test xs) c) → (b : Bool) → test x ≡ b → (x ≡ c) ⊎ Contains xs c → Contains (cond b (x ∷ filter test xs) (filter test xs)) c
    by more true e (inl is) = here x c (filter test xs) is
    by more true e (inr rest) = there x c (filter test xs) (more rest)
    by more false e (inl is) = let f : false ≡ true = sym e ∙ ap test is ∙ passes in absurd (cc)
    by more false e (inr rest) = more rest

pub in_flat_map : {X Y : Type 0} (f : X → List Y) (xs : List X) (y : Y) → Contains (flat_map f xs) y → (x : X) × Contains xs x × Contains (f x) y
in_flat_map f [] y inside = absurd (nothing y inside)
in_flat_map {X} {Y} f (x ∷ xs) y inside = by (in_flat_map f xs y) (Contains-append_cases (f x) (flat_map f xs) y (subst (λ l. Contains l y) (flat_map-cons f x xs) inside))
  where
    by : (Contains (flat_map f xs) y → (z : X) × Contains xs z × Contains (f z) y) → Contains (f x) y ⊎ Contains (flat_map f xs) y → (z : X) × Contains (x ∷ xs) z × Contains (f z) y
    by more (inl first) = (x, here x x xs refl, first)
    by more (inr rest) = let (z, inside, is) = more rest in (z, there x z xs inside, is)

pub to_flat_map : {X Y : Type 0} (f : X → List Y) (xs : List X) (x : X) (y : Y) → Contains xs x → Contains (f x) y → Contains (flat_map f xs) y
to_flat_map f [] x y inside has = absurd (nothing x inside)
to_flat_map {X} {Y} f (z ∷ xs) x y inside has = subst (λ l. Contains l y) (sym (flat_map-cons f z xs)) (by (λ rest. to_flat_map f xs x y rest has) (split z x xs inside))
  where
    by : (Contains xs x → Contains (flat_map f xs) y) → (z ≡ x) ⊎ Contains xs x → Contains (f z ++ flat_map f xs) y
    by more (inl is) = Contains-append_left (f z) (flat_map f xs) y (subst (λ w. Contains (f w) y) (sym is) has)
    by more (inr rest) = Contains-append_right (f z) (flat_map f xs) y (more rest)

-- a test that some element passes
pub any_at : {X : Type 0} (test : X → Bool) (xs : List X) (x : X) → Contains xs x → test x ≡ true → list_any test xs ≡ true
any_at test [] x inside passes = absurd (nothing x inside)
any_at {X} test (y ∷ xs) x inside passes = by (λ rest. any_at test xs x rest passes) (test y) refl (split y x xs inside)
  where
    by : (Contains xs x → list_any test xs ≡ true) → (b : Bool) → test y ≡ b → (y ≡ x) ⊎ Contains xs x → (b || list_any test xs) ≡ true
    by more true e why = refl
    by more false e (inl is) = let f : false ≡ true = sym e ∙ ap test is ∙ passes in absurd (cc)
    by more false e (inr rest) = more rest

pub some_one : {X : Type 0} (test : X → Bool) (xs : List X) → list_any test xs ≡ true → (x : X) × Contains xs x × (test x ≡ true)
some_one test [] found = let f : false ≡ true = found in absurd (cc)
some_one {X} test (y ∷ xs) found = by (some_one test xs) (test y) refl found
  where
    by : (list_any test xs ≡ true → (x : X) × Contains xs x × (test x ≡ true)) → (b : Bool) → test y ≡ b → (b || list_any test xs) ≡ true → (x : X) × Contains (y ∷ xs) x × (test x ≡ true)
    by more true e found = (y, here y y xs refl, e)
    by more false e found = let (x, inside, passes) = more found in (x, there y x xs inside, passes)

module _ {K : Type 0} (eq : K → K → Bool) (same : (x y : K) → eq x y ≡ true → x ≡ y) where
  kept_one : (ks : List K) (k c : K) → Contains ks c → Contains (insert_key eq ks k) c
  kept_one ks k c inside = by (list_any (eq k) ks)
    where
      by : (b : Bool) → Contains (if b then ks else ks ++ k ∷ []) c
      by true = inside
      by false = Contains-append_left ks (k ∷ []) c inside

  in_one : (ks : List K) (k c : K) → Contains (insert_key eq ks k) c → Contains ks c ⊎ (k ≡ c)
  in_one ks k c inside = by (list_any (eq k) ks) inside
    where
      last : Contains ks c ⊎ Contains (k ∷ []) c → Contains ks c ⊎ (k ≡ c)
      last (inl old) = inl old
      last (inr (zero, within, is)) = inr is
      last (inr (suc j, within, is)) = absurd (omega (arith, within))

      by : (b : Bool) → Contains (if b then ks else ks ++ k ∷ []) c → Contains ks c ⊎ (k ≡ c)
      by true old = inl old
      by false more = last (Contains-append_cases ks (k ∷ []) c more)

  pub kept_any : (ks : List K) (k : Option K) (c : K) → Contains ks c → Contains (with_any eq ks k) c
  kept_any ks None c inside = inside
  kept_any ks (Some k) c inside = kept_one ks k c inside

  pub in_any : (ks : List K) (k : Option K) (c : K) → Contains (with_any eq ks k) c → Contains ks c ⊎ (k ≡ Some c)
  in_any ks None c inside = inl inside
  in_any ks (Some k) c inside = by (in_one ks k c inside)
    where
      by : Contains ks c ⊎ (k ≡ c) → Contains ks c ⊎ (Some k ≡ Some c)
      by (inl old) = inl old
      by (inr is) = inr (ap (λ (x : K). Some x) is)

  pub new_any : (ks : List K) (c : K) → Contains (with_any eq ks (Some c)) c
  new_any ks c = Contains-insert_key eq same ks c

  -- what was there stays there
  pub kept_all : {X : Type 0} (f : X → Option K) (xs : List X) (ks : List K) (c : K) → Contains ks c → Contains (fold (λ ks x. with_any eq ks (f x)) ks xs) c
  kept_all f [] ks c inside = inside
  kept_all f (x ∷ xs) ks c inside = kept_all f xs (with_any eq ks (f x)) c (kept_any ks (f x) c inside)

  -- what is there was there, or is what f says of an element
  pub in_all : {X : Type 0} (f : X → Option K) (xs : List X) (ks : List K) (c : K) → Contains (fold (λ ks x. with_any eq ks (f x)) ks xs) c
      → Contains ks c ⊎ ((x : X) × Contains xs x × (f x ≡ Some c))
  in_all f [] ks c inside = inl inside
  in_all {X} f (x ∷ xs) ks c inside = by (in_all f xs (with_any eq ks (f x)) c inside)
    where
      first : Contains ks c ⊎ (f x ≡ Some c) → Contains ks c ⊎ ((y : X) × Contains (x ∷ xs) y × (f y ≡ Some c))
      first (inl old) = inl old
      first (inr is) = inr (x, here x x xs refl, is)

      by : Contains (with_any eq ks (f x)) c ⊎ ((y : X) × Contains xs y × (f y ≡ Some c)) → Contains ks c ⊎ ((y : X) × Contains (x ∷ xs) y × (f y ≡ Some c))
      by (inl old) = first (in_any ks (f x) c old)
      by (inr (y, inside, is)) = inr (y, there x y xs inside, is)

  -- and all that f says is there
  pub new_all : {X : Type 0} (f : X → Option K) (xs : List X) (ks : List K) (x : X) (c : K) → Contains xs x → f x ≡ Some c
      → Contains (fold (λ ks x. with_any eq ks (f x)) ks xs) c
  new_all f [] ks x c inside is = absurd (nothing x inside)
  new_all {X} f (y ∷ xs) ks x c inside is = by (λ rest. new_all f xs (with_any eq ks (f y)) x c rest is) (split y x xs inside)
    where
      by : (Contains xs x → Contains (fold (λ ks x. with_any eq ks (f x)) (with_any eq ks (f y)) xs) c) → (y ≡ x) ⊎ Contains xs x → Contains (fold (λ ks x. with_any eq ks (f x)) (with_any eq ks (f y)) xs) c
      by more (inl e) = kept_all f xs (with_any eq ks (f y)) c (subst (λ o. Contains (with_any eq ks o) c) (sym (ap f e ∙ is)) (new_any ks c))
      by more (inr rest) = more rest
