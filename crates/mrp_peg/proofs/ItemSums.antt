-- The pegs of an item add up to its requirements and to its supplies.
use Rattle.std.proofs.Common.{◌≡◌, ◌∙◌, ℕ, Bool, true, false, cond, List, [], ◌∷◌, refl, ap, sym, ◌+◌, ◌≤◌}
use Rattle.std.specs.Prelude.{map, filter, sum_by}
use Rattle.std.proofs.lemmas.List.Sums.{sum_by-cons}
use Rattle.mrp_item.specs.Inputs.{Inputs}
use Rattle.mrp_peg.specs.declared.peg.Peg.{Peg}
use Rattle.mrp_peg.specs.Laws.{AddUpToRequirements, AddUpToSupplies}
use Rattle.mrp_peg.specs.Units.{matches, is_for, total}
use Rattle.mrp_peg.specs.Pegging.{requirements, supplies, pegs_of}
use Rattle.mrp_peg.specs.Matching.{peg_of}
use Rattle.mrp_peg.proofs.Sums.{covered, supplied}

-- what passes adds up to the same before and after a change that keeps the quantities
mapped : {X Y : Type 0} (f : Y → ℕ) (test : Y → Bool) (g : X → Y) (xs : List X) → sum_by f (filter test (map g xs)) ≡ sum_by (λ x. f (g x)) (filter (λ x. test (g x)) xs)
mapped f test g [] = refl
mapped {X} {Y} f test g (x ∷ xs) = by (test (g x)) (mapped f test g xs)
  where
    by : (b : Bool) → sum_by f (filter test (map g xs)) ≡ sum_by (λ y. f (g y)) (filter (λ y. test (g y)) xs)
        → sum_by f (cond b (g x ∷ filter test (map g xs)) (filter test (map g xs))) ≡ sum_by (λ y. f (g y)) (cond b (x ∷ filter (λ y. test (g y)) xs) (filter (λ y. test (g y)) xs))
    by true e = sum_by-cons f (g x) (filter test (map g xs)) ∙ ap (λ n. f (g x) + n) e ∙ sym (sum_by-cons (λ y. f (g y)) x (filter (λ y. test (g y)) xs))
    by false e = e

pub to-requirements : (s : Inputs) (i : ℕ) → total (requirements s i) ≤ total (supplies s i) → AddUpToRequirements s i (pegs_of s i)
unfolding pegs_of
to-requirements s i enough = λ test.
    mapped (λ (g : Peg). g.quantity) (λ g. is_for test g.need) (peg_of i) (matches (requirements s i) (supplies s i)) ∙ covered test (requirements s i) (supplies s i) enough

pub to-supplies : (s : Inputs) (i : ℕ) → AddUpToSupplies s i (pegs_of s i)
unfolding pegs_of
to-supplies s i = λ test.
    mapped (λ (g : Peg). g.quantity) (λ g. test g.supply) (peg_of i) (matches (requirements s i) (supplies s i)) ∙ supplied test (requirements s i) (supplies s i)
