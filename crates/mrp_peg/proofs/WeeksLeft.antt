-- The requirements of the weeks that are left.
use Rattle.std.proofs.Common.{◌≡◌, ℕ, suc, ◌+◌, ◌-◌, ◌<◌, ◌≤◌, [], ◌++◌, ap, arith}
use Rattle.std.specs.Prelude.{flat_map}
use Rattle.std.specs.List.{range_with_len}
use Rattle.mrp_item.specs.Inputs.{Inputs, horizon}
use Rattle.mrp_peg.specs.Left.{required_after}
use Rattle.mrp_peg.specs.Pegging.{needs_in, requirements}

pub after_all : (s : Inputs) (i : ℕ) → required_after s i 0 ≡ requirements s i
unfolding requirements
after_all s i =
    let all : horizon s - 0 ≡ horizon s = omega arith in
    ap (λ n. flat_map (needs_in s i) (range_with_len 1 n)) all

pub after_next : (s : Inputs) (i week : ℕ) → week < horizon s → required_after s i week ≡ needs_in s i (week + 1) ++ required_after s i (week + 1)
after_next s i week within =
    let one : horizon s - week ≡ suc (horizon s - (week + 1)) = omega (arith, within) in
    ap (λ n. flat_map (needs_in s i) (range_with_len (week + 1) n)) one

pub after_last : (s : Inputs) (i week : ℕ) → horizon s ≤ week → required_after s i week ≡ []
after_last s i week past =
    let none : horizon s - week ≡ 0 = omega (arith, past) in
    ap (λ n. flat_map (needs_in s i) (range_with_len (week + 1) n)) none
