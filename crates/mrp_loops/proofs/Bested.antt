-- The best line.
use Rattle.std.proofs.Common.{◌≡◌, ◌⊎◌, inl, inr, ℕ, ◌<◌, List, length, sym, subst, ◌∙◌}
use Rattle.std.specs.Prelude.{⊤, Option, Some, None}
use Rattle.mrp_loops.specs.declared.line.Line.{Line}
use Rattle.mrp_loops.specs.declared.best.Best.{Best}
use Rattle.mrp_loops.specs.Needs.{line_at}
use Rattle.mrp_loops.specs.Search.{far_at}
use Rattle.mrp_loops.specs.Best.{Beats, HasNoLine, IsBestLine, IsBetter}
use Rattle.mrp_loops.proofs.Listed.{AreDone}

-- the best line so far is a line to the item, and its parent is so far
abbrev pub IsLineTo : List Line → List (Option ℕ) → ℕ → Option Best → Type 0
IsLineTo lines far item None = ⊤
IsLineTo lines far item (Some best) = (best.place < length lines) × ((line_at lines best.place).component ≡ item) × (far_at far (line_at lines best.place).parent ≡ Some best.far)

pub line-better : (lines : List Line) (far : List (Option ℕ)) (item place : ℕ) (best new : Option Best) (own : Option ℕ) → IsLineTo lines far item best → place < length lines
    → (line_at lines place).component ≡ item → far_at far (line_at lines place).parent ≡ own → IsBetter best own place new → IsLineTo lines far item new
line-better lines far item place best new own line inside to is better = by better.one
  where
    by : (new ≡ best) ⊎ ((d : ℕ) × (own ≡ Some d) × (new ≡ Some (record { far = d; place = place }))) → IsLineTo lines far item new
    by (inl same) = subst (IsLineTo lines far item) (sym same) line
    by (inr (d, some, same)) = subst (IsLineTo lines far item) (sym same) (inside, to, is ∙ some)

-- all lines to the item were gone through
pub none-best : (lines : List Line) (far : List (Option ℕ)) (item : ℕ) → AreDone (λ (k : ℕ). Beats None (far_at far (line_at lines k).parent) k) lines item None → HasNoLine lines far item
none-best lines far item done = λ k d below to is. subst (λ (o : Option ℕ). Beats None o k) is (done k below to)

pub one-best : (lines : List Line) (far : List (Option ℕ)) (item : ℕ) (best : Best) → IsLineTo lines far item (Some best)
    → AreDone (λ (k : ℕ). Beats (Some best) (far_at far (line_at lines k).parent) k) lines item None → IsBestLine lines far item best.place
one-best lines far item best (inside, to, is) done = record {
  inside = inside;
  to_item = to;
  least = best.far;
  is_far = is;
  best = λ k d below to is. subst (λ (o : Option ℕ). Beats (Some best) o k) is (done k below to);
}
