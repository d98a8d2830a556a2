-- The values of results, one for each element of a list.
use Rattle.std.proofs.Common.{◌≡◌, ◌∙◌, List, Result, Ok, Err, map, ap}
use Rattle.std.specs.Prelude.{IfOk, MatchResult, Vec}
use Rattle.std.specs.List.{AllZip, Contains}
use Rattle.std.specs.declared.alloc.Global.{Global}
use Rattle.mrp_item.proofs.Results.{results-are}

module _ {X Y V E : Type 0} (v : Y → V) (f : X → V) where
  -- if none is refused, each is made from its element
  pub gathered : (xs : List X) (rs : List (Result Y E)) (r : Result (Vec Y Global) E) → AllZip (λ x s. IfOk s (λ y. v y ≡ f x)) xs rs
      → MatchResult r (λ c. (ys : List Y) × (rs ≡ map Ok ys) × (c.items ≡ ys)) (λ e. Contains rs (Err e)) → IfOk r (λ c. map v c.items ≡ map f xs)
  gathered xs rs (Ok c) h (ys, e, is) = ap (map v) is ∙ results-are v f xs rs ys h e
  gathered xs rs (Err refused) h m = tt
