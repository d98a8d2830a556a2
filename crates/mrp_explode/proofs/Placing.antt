-- What was made of items is put in place, one by one.
use Rattle.std.proofs.Common.{◌≡◌, ℕ, List, [], ◌∷◌, ◌++◌, length, map, ap, sym, subst, ◌∙◌, refl, arith}
use Rattle.std.proofs.lemmas.List.{append-nil, append_assoc}
use Rattle.std.proofs.lemmas.List.Elements.{All-push, All-nil, Contains-append_right}
use Rattle.std.specs.Prelude.{All}
use Rattle.std.specs.List.{Contains}

module _ {O : Type 0} (f : ℕ → O) where
  -- the first items are done, and what is left was made of the others
  pub record ArePlaced (items : List ℕ) (rest : List O) (Done : ℕ → Type 0) : Type 0 where
    pub done : List ℕ
    pub left : List ℕ
    pub split : items ≡ done ++ left
    pub these : rest ≡ map f left
    pub here : All Done done

  pub none-placed : (items : List ℕ) (rest made : List O) (Done : ℕ → Type 0) → rest ≡ made → made ≡ map f items → ArePlaced items rest Done
  none-placed items rest made Done is these = record { done = []; left = items; split = refl; these = is ∙ these; here = All-nil Done }

  heads : (o : O) (more : List O) (left : List ℕ) → o ∷ more ≡ map f left → (i : ℕ) × (others : List ℕ) × (left ≡ i ∷ others) × (o ≡ f i) × (more ≡ map f others)
  heads o more [] e = absurd (cc)
  heads o more (i ∷ others) e = (i, others, refl, cc, cc)

  -- the next one is of one of the items
  pub next-placed : (items : List ℕ) (rest : List O) (Done : ℕ → Type 0) (o : O) (more : List O) → ArePlaced items rest Done → rest ≡ o ∷ more → (i : ℕ) × Contains items i × (o ≡ f i)
  next-placed items rest Done o more p is =
      let (i, others, left, same, tail) = heads o more p.left (sym is ∙ p.these) in
      let here : Contains (p.done ++ i ∷ others) i = Contains-append_right p.done (i ∷ others) i (0, omega arith, refl) in
      (i, subst (λ (xs : List ℕ). Contains xs i) (sym (p.split ∙ ap (λ (xs : List ℕ). p.done ++ xs) left)) here, same)

  -- one more is put in its place
  pub one-placed : (items : List ℕ) (rest : List O) (Done Now : ℕ → Type 0) (o : O) (more : List O) → ArePlaced items rest Done → rest ≡ o ∷ more
      → ((i : ℕ) → o ≡ f i → Now i) → ((i : ℕ) → Done i → Now i) → ArePlaced items more Now
  one-placed items rest Done Now o more p is here stays =
      let (i, others, left, same, tail) = heads o more p.left (sym is ∙ p.these) in
      record {
        done = p.done ++ i ∷ [];
        left = others;
        split = p.split ∙ ap (λ (xs : List ℕ). p.done ++ xs) left ∙ sym (append_assoc p.done (i ∷ []) others);
        these = tail;
        here = All-push Now p.done i (λ k d h. stays _ (p.here k d h)) (here i same);
      }

  pub all-placed : (items : List ℕ) (rest : List O) (Done : ℕ → Type 0) → ArePlaced items rest Done → length rest ≡ 0 → All Done items
  all-placed items (o ∷ more) Done p none = absurd (omega (arith, none))
  all-placed items [] Done p none = by p.left p.split p.these
    where
      by : (left : List ℕ) → items ≡ p.done ++ left → [] ≡ map f left → All Done items
      by [] split e = subst (All Done) (sym (split ∙ append-nil p.done)) p.here
      by (i ∷ others) split e = absurd (cc)
