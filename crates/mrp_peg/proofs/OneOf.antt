-- The pegs of one requirement add up to it, and those of one supply.
use Rattle.std.proofs.Common.{◌≡◌, ◌≢◌, ◌∙◌, ◌⊎◌, ℕ, suc, ◌<◌, ◌≤◌, Bool, true, false, cond, List, [], ◌∷◌, inl, inr, refl, sym, ap, arith}
use Rattle.std.specs.Prelude.{All, AllPairs, Contains, filter, sum_by}
use Rattle.mrp_tables.specs.Facts.{NumbersRise, RowsRise}
use Rattle.mrp_item.specs.declared.supplies.Supplied.{Supplied}
use Rattle.mrp_item.specs.Inputs.{Inputs}
use Rattle.mrp_peg.specs.declared.peg.Need.{Need}
use Rattle.mrp_peg.specs.Laws.{IsTestOf}
use Rattle.mrp_peg.specs.Pegging.{pegs_of, requirements, supplies}
use Rattle.mrp_peg.specs.Units.{Amount, is_for, total}
use Rattle.mrp_peg.proofs.ItemSums.{to-requirements, to-supplies}
use Rattle.mrp_peg.proofs.Members.{nothing, split}
use Rattle.mrp_peg.proofs.NeedsDiffer.{needs-differ}
use Rattle.mrp_peg.proofs.SuppliesDiffer.{supplies-differ}

module _ {A : Type 0} (test : A → Bool) where
  none-left : (xs : List (Amount A)) → All (λ x. test x.of ≢ true) xs → filter (λ x. test x.of) xs ≡ []
  none-left [] all = refl
  none-left (x ∷ xs) all = by (test x.of) refl (none-left xs (λ k d h. all (suc k) d (omega (arith, h))))
    where
      by : (b : Bool) → test x.of ≡ b → filter (λ y. test y.of) xs ≡ [] → cond b (x ∷ filter (λ y. test y.of) xs) (filter (λ y. test y.of) xs) ≡ []
      by true e none = absurd (all 0 x (omega arith) e)
      by false e none = none

  -- of things that differ the test of one leaves that one
  one-left : (xs : List (Amount A)) (a : Amount A) → AllPairs (λ x y. x.of ≢ y.of) xs → Contains xs a → IsTestOf test a.of → filter (λ x. test x.of) xs ≡ a ∷ []
  one-left [] a apart inside is = absurd (nothing a inside)
  one-left (x ∷ xs) a apart inside is =
      by (test x.of) refl (split x a xs inside) (λ rest. one-left xs a (λ i j d lt h. apart (suc i) (suc j) d (omega (arith, lt)) (omega (arith, h))) rest is)
      (λ j d h. apart 0 (suc j) d (omega arith) (omega (arith, h)))
    where
      by : (b : Bool) → test x.of ≡ b → (x ≡ a) ⊎ Contains xs a → (Contains xs a → filter (λ y. test y.of) xs ≡ a ∷ []) → All (λ y. x.of ≢ y.of) xs
          → cond b (x ∷ filter (λ y. test y.of) xs) (filter (λ y. test y.of) xs) ≡ a ∷ []
      by true e (inl same) more later =
          let of_a : x.of ≡ a.of = ap (λ (y : Amount A). y.of) same in
          ap (λ (l : List (Amount A)). x ∷ l) (none-left xs (λ k d h passes. later k d h (of_a ∙ sym (is.1 _ passes)))) ∙ ap (λ (y : Amount A). y ∷ []) same
      by true e (inr (k, within, at)) more later = absurd (later k a within (is.1 x.of e ∙ ap (λ (y : Amount A). y.of) (sym at)))
      by false e (inl same) more later = let f : true ≡ false = sym is.0 ∙ ap (λ (y : Amount A). test y.of) (sym same) ∙ e in absurd (cc)
      by false e (inr rest) more later = more rest

  one-sum : (xs : List (Amount A)) (a : Amount A) → AllPairs (λ x y. x.of ≢ y.of) xs → Contains xs a → IsTestOf test a.of → sum_by (λ x. x.quantity) (filter (λ x. test x.of) xs) ≡ a.quantity
  one-sum xs a apart inside is = ap (sum_by (λ (x : Amount A). x.quantity)) (one-left xs a apart inside is) ∙ omega arith

pub one-supply : (s : Inputs) (i : ℕ) (test : Supplied → Bool) (a : Amount Supplied) → NumbersRise s.tables.receipts → Contains (supplies s i) a → IsTestOf test a.of
    → sum_by (λ g. g.quantity) (filter (λ g. test g.supply) (pegs_of s i)) ≡ a.quantity
one-supply s i test a rising inside is = to-supplies s i test ∙ one-sum test (supplies s i) a (supplies-differ s i rising) inside is

pub one-requirement : (s : Inputs) (i : ℕ) (test : Need → Bool) (a : Amount Need) → AllPairs (λ a b. a.number < b.number) s.standing → RowsRise s.tables.master → total (requirements s i) ≤ total (supplies s i)
    → Contains (requirements s i) a → IsTestOf test a.of → sum_by (λ g. g.quantity) (filter (λ g. is_for test g.need) (pegs_of s i)) ≡ a.quantity
one-requirement s i test a rising numbered covered inside is = to-requirements s i covered test ∙ one-sum test (requirements s i) a (needs-differ s i rising numbered) inside is
