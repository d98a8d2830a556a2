-- Ways, and ways along exchanged lines.
use Rattle.std.proofs.Common.{◌≡◌, ℕ, zero, suc, ◌<◌, List, [], ◌∷◌, ◌++◌, length, map, refl, sym, ap, subst, ◌∙◌, arith}
use Rattle.std.proofs.lemmas.List.{length-append, length-map}
use Rattle.mrp_loops.specs.declared.line.Line.{Line}
use Rattle.mrp_loops.specs.Needs.{line_at, IsWay, Needs}
use Rattle.mrp_loops.specs.Links.{turned}

-- two ways one after the other
pub way-append : (lines : List Line) (top middle bottom : ℕ) (a b : List ℕ) → IsWay lines top a middle → IsWay lines middle b bottom → IsWay lines top (a ++ b) bottom
way-append lines top middle bottom [] b same way = subst (λ (i : ℕ). IsWay lines i b bottom) (sym same) way
way-append lines top middle bottom (place ∷ rest) b (inside, is, more) way = (inside, is, way-append lines (line_at lines place).component middle bottom rest b more way)

-- one more line
pub way-push : (lines : List Line) (top bottom place : ℕ) (way : List ℕ) → IsWay lines top way bottom → place < length lines → (line_at lines place).parent ≡ bottom → IsWay lines top (way ++ place ∷ []) (line_at lines place).component
way-push lines top bottom place way leads inside is = way-append lines top bottom (line_at lines place).component way (place ∷ []) leads (inside, is, refl)

-- what is needed through another item
pub needs-on : (lines : List Line) (a b c : ℕ) → Needs lines a b → Needs lines b c → Needs lines a c
needs-on lines a b c (u, some, first) (v, more, second) = (u ++ v, omega (arith, some, length-append u v), way-append lines a b c u v first second)

pub at-turned : (lines : List Line) (k : ℕ) → line_at (map turned lines) k ≡ turned (line_at lines k)
at-turned [] k = refl
at-turned (line ∷ lines) zero = refl
at-turned (line ∷ lines) (suc k) = at-turned lines k

turned-twice : (lines : List Line) → map turned (map turned lines) ≡ lines
turned-twice [] = refl
turned-twice (line ∷ lines) = ap (λ (rest : List Line). line ∷ rest) (turned-twice lines)

pub parent-turned : (lines : List Line) (k : ℕ) → (line_at (map turned lines) k).parent ≡ (line_at lines k).component
parent-turned lines k = ap (λ (line : Line). line.parent) (at-turned lines k)

pub component-turned : (lines : List Line) (k : ℕ) → (line_at (map turned lines) k).component ≡ (line_at lines k).parent
component-turned lines k = ap (λ (line : Line). line.component) (at-turned lines k)

-- a way leads back along exchanged lines
pub way-turned : (lines : List Line) (top bottom : ℕ) (way : List ℕ) → IsWay lines top way bottom → (back : List ℕ) × IsWay (map turned lines) bottom back top
way-turned lines top bottom [] same = ([], sym same)
way-turned lines top bottom (place ∷ rest) (inside, is, more) =
    let (back, leads) = way-turned lines (line_at lines place).component bottom rest more in (
      back ++ place ∷ [],
      way-append (map turned lines) bottom (line_at lines place).component top back (place ∷ []) leads
          (omega (arith, inside, length-map lines turned), parent-turned lines place, component-turned lines place ∙ is),
    )

pub way-turned_back : (lines : List Line) (top bottom : ℕ) (way : List ℕ) → IsWay (map turned lines) top way bottom → (back : List ℕ) × IsWay lines bottom back top
way-turned_back lines top bottom way leads =
    let (back, there) = way-turned (map turned lines) top bottom way leads in
    (back, subst (λ (l : List Line). IsWay l bottom back top) (turned-twice lines) there)
