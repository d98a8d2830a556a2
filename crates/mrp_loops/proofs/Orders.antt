-- Orders of items in which each line leads to a later one.
use Rattle.std.proofs.Common.{ℕ, ◌+◌, ◌≤◌, List, [], ◌∷◌, length, ap, arith}
use Rattle.std.specs.Prelude.{slice_index}
use Rattle.mrp_loops.specs.declared.line.Line.{Line}
use Rattle.mrp_loops.specs.Needs.{line_at, IsWay, Needs}
use Rattle.mrp_loops.specs.Ranks.{AlwaysRise}

place-rises : (lines : List Line) (places : List ℕ) → AlwaysRise lines places → (top bottom : ℕ) (way : List ℕ) → IsWay lines top way bottom → slice_index places top + length way ≤ slice_index places bottom
place-rises lines places always top bottom [] same = omega (arith, ap (slice_index places) same)
place-rises lines places always top bottom (place ∷ rest) (inside, is, more) =
    omega (arith, place-rises lines places always (line_at lines place).component bottom rest more, always place inside, ap (slice_index places) is)

-- no item needs itself
pub no-loop : (lines : List Line) (places : List ℕ) → AlwaysRise lines places → (item : ℕ) → Needs lines item item → ⊥
no-loop lines places always item (way, some, leads) = omega (arith, some, place-rises lines places always item item way leads)
