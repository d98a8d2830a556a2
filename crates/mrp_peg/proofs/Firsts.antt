-- What the elements of a list say, each once, is in order of the first elements that say it.
use Rattle.std.proofs.Common.{◌≡◌, ◌∙◌, ◌⊎◌, ℕ, ◌+◌, ◌<◌, Bool, true, false, List, [], ◌∷◌, ◌++◌, length, get_or, refl, sym, ap, arith, inl, inr, subst, Option, Some, None, append_assoc}
use Rattle.std.specs.Prelude.{AllPairs, Contains, fold, if◌then◌else◌}
use Rattle.std.specs.List.{list_any, position_or_len}
use Rattle.std.proofs.lemmas.List.{append-nil, get_or_append_left, get_or-append-add, length-append}
use Rattle.std.proofs.lemmas.List.Elements.{Contains-append_cases, Contains-append_left, Contains-get_or, Contains-push}
use Rattle.std.proofs.lemmas.List.Quantifiers.{all_pairs_push}
use Rattle.std.proofs.lemmas.List.Sums.{position_or_len_is}
use Rattle.indexmap.proofs.CallerLemmas.{Contains-list_any}
use Rattle.mrp_peg.specs.Walk.{with_any}
use Rattle.mrp_peg.proofs.Members.{any_at, nothing, only}
use Rattle.mrp_peg.proofs.Sourced.{some_value}

-- whether something is said to be k
abbrev pub is_told : {K : Type 0} → (K → K → Bool) → K → Option K → Bool
is_told eq c None = false
is_told eq c (Some d) = eq c d

-- the place of the first element of a list that says k
abbrev pub first_place : {X K : Type 0} → (K → K → Bool) → (X → Option K) → List X → K → ℕ
first_place eq f all c = position_or_len (λ x. is_told eq c (f x)) all

-- what the elements so far say, each once
record AreFirsts {X K : Type 0} (eq : K → K → Bool) (f : X → Option K) (all done : List X) (ks : List K) : Type 0 where
  told : (x : X) (c : K) → Contains done x → f x ≡ Some c → Contains ks c
  placed : (c : K) → Contains ks c → first_place eq f all c < length done
  order : AllPairs (λ c d. first_place eq f all c < first_place eq f all d) ks

is_some_of : {K : Type 0} (eq : K → K → Bool) → ((x y : K) → eq x y ≡ true → x ≡ y) → (c : K) (o : Option K) → is_told eq c o ≡ true → o ≡ Some c
is_some_of {K} eq same c None e = let f : false ≡ true = e in absurd (cc)
is_some_of {K} eq same c (Some d) e = ap (λ (k : K). Some k) (sym (same c d e))

module _ {X K : Type 0} (eq : K → K → Bool) (same : (x y : K) → eq x y ≡ true → x ≡ y) (self : (x : K) → eq x x ≡ true) (f : X → Option K) (all : List X) where
  -- what none before says has the place of the element that says it
  at_place : (done rest : List X) (x : X) (c : K) → done ++ x ∷ rest ≡ all → f x ≡ Some c → ((y : X) → Contains done y → f y ≡ Some c → ⊥) → first_place eq f all c ≡ length done
  at_place done rest x c whole is new =
      let size : length done + length (x ∷ rest) ≡ length all = sym (length-append done (x ∷ rest)) ∙ ap length whole in
      position_or_len_is (λ y. is_told eq c (f y)) all (length done) x (omega (arith, size)) (λ k before. earlier k before (is_told eq c (f (get_or all k x))) refl) (λ within. here_told)
    where
      at : (k : ℕ) → k < length done → get_or all k x ≡ get_or done k x
      at k before = ap (λ l. get_or l k x) (sym whole) ∙ get_or_append_left done (x ∷ rest) x k before

      earlier : (k : ℕ) → k < length done → (b : Bool) → is_told eq c (f (get_or all k x)) ≡ b → is_told eq c (f (get_or all k x)) ≡ false
      earlier k before true e = absurd (new (get_or done k x) (Contains-get_or done k x before) (ap f (sym (at k before)) ∙ is_some_of eq same c (f (get_or all k x)) e))
      earlier k before false e = e

      there_is : get_or all (length done) x ≡ x
      there_is =
          let same : length done ≡ length done + 0 = omega arith in
          ap (λ l. get_or l (length done) x) (sym whole) ∙ ap (λ k. get_or (done ++ x ∷ rest) k x) same ∙ get_or-append-add done (x ∷ rest) 0 x

      here_told : is_told eq c (f (get_or all (length done) x)) ≡ true
      here_told = ap (λ y. is_told eq c (f y)) there_is ∙ ap (is_told eq c) is ∙ self c

  -- what an element says, of those so far and one more
  said : (done : List X) (x : X) (ks : List K) (o : Option K) → AreFirsts eq f all done ks → f x ≡ o → (y : X) (c : K) → f y ≡ Some c → Contains (done ++ x ∷ []) y → Contains ks c ⊎ (o ≡ Some c)
  said done x ks o so e y c is inside = by (Contains-append_cases done (x ∷ []) y inside)
    where
      by : Contains done y ⊎ Contains (x ∷ []) y → Contains ks c ⊎ (o ≡ Some c)
      by (inl old) = inl (so.told y c old is)
      by (inr new) = inr (sym e ∙ ap f (only x y new) ∙ is)

  -- one more element that says nothing new
  kept : (done : List X) (x : X) (ks : List K) (o : Option K) → AreFirsts eq f all done ks → f x ≡ o → ((c : K) → o ≡ Some c → Contains ks c) → AreFirsts eq f all (done ++ x ∷ []) ks
  kept done x ks o so e has = record {
    told = λ y c inside is. either c (said done x ks o so e y c is inside);
    placed = λ c inside. omega (arith, so.placed c inside, length-append done (x ∷ []));
    order = so.order;
  }
    where
      either : (c : K) → Contains ks c ⊎ (o ≡ Some c) → Contains ks c
      either c (inl old) = old
      either c (inr is) = has c is

  -- one that says something new
  added : (done rest : List X) (x : X) (ks : List K) (k : K) → done ++ x ∷ rest ≡ all → AreFirsts eq f all done ks → f x ≡ Some k → list_any (eq k) ks ≡ false → AreFirsts eq f all (done ++ x ∷ []) (ks ++ k ∷ [])
  added done rest x ks k whole so e fresh = record {
    told = λ y c inside is. either c (said done x ks (Some k) so e y c is inside);
    placed = λ c inside. both c (Contains-append_cases ks (k ∷ []) c inside);
    order = all_pairs_push (λ c d. first_place eq f all c < first_place eq f all d) ks k so.order (λ j d within. omega (arith, so.placed (get_or ks j d) (Contains-get_or ks j d within), place));
  }
    where
      new : (y : X) → Contains done y → f y ≡ Some k → ⊥
      new y inside is = let b : false ≡ true = sym fresh ∙ any_at (eq k) ks k (so.told y k inside is) (self k) in absurd (cc)

      place : first_place eq f all k ≡ length done
      place = at_place done rest x k whole e new

      either : (c : K) → Contains ks c ⊎ (Some k ≡ Some c) → Contains (ks ++ k ∷ []) c
      either c (inl old) = Contains-append_left ks (k ∷ []) c old
      either c (inr is) = subst (Contains (ks ++ k ∷ [])) (some_value k c is) (Contains-push ks k)

      both : (c : K) → Contains ks c ⊎ Contains (k ∷ []) c → first_place eq f all c < length (done ++ x ∷ [])
      both c (inl old) = omega (arith, so.placed c old, length-append done (x ∷ []))
      both c (inr last) = omega (arith, length-append done (x ∷ []), place, ap (first_place eq f all) (only k c last))

  one : (done rest : List X) (x : X) (ks : List K) (k : K) → done ++ x ∷ rest ≡ all → AreFirsts eq f all done ks → f x ≡ Some k
      → (b : Bool) → list_any (eq k) ks ≡ b → AreFirsts eq f all (done ++ x ∷ []) (if b then ks else ks ++ k ∷ [])
  one done rest x ks k whole so e true old = kept done x ks (Some k) so e (λ c is. subst (Contains ks) (some_value k c is) (Contains-list_any eq same ks k old))
  one done rest x ks k whole so e false fresh = added done rest x ks k whole so e fresh

  more : (done rest : List X) (x : X) (ks : List K) → done ++ x ∷ rest ≡ all → AreFirsts eq f all done ks → (o : Option K) → f x ≡ o → AreFirsts eq f all (done ++ x ∷ []) (with_any eq ks o)
  more done rest x ks whole so None e = kept done x ks None so e (λ c is. let none : Option K = None in let g : none ≡ Some c = is in absurd (cc))
  more done rest x ks whole so (Some k) e = one done rest x ks k whole so e (list_any (eq k) ks) refl

  rest_of : (done rest : List X) (ks : List K) → done ++ rest ≡ all → AreFirsts eq f all done ks → AreFirsts eq f all all (fold (λ ks x. with_any eq ks (f x)) ks rest)
  rest_of done [] ks whole so = subst (λ l. AreFirsts eq f all l ks) (sym (append-nil done) ∙ whole) so
  rest_of done (x ∷ rest) ks whole so = rest_of (done ++ x ∷ []) rest (with_any eq ks (f x)) (append_assoc done (x ∷ []) rest ∙ whole) (more done rest x ks whole so (f x) refl)

  pub in_order : AllPairs (λ c d. first_place eq f all c < first_place eq f all d) (fold (λ ks x. with_any eq ks (f x)) [] all)
  in_order =
      (rest_of [] all [] refl (record {
        told = λ x c inside is. absurd (nothing x inside);
        placed = λ c inside. absurd (nothing c inside);
        order = λ i j d before within. absurd (omega (arith, within));
      })).order
