-- Texts are written one after the other.
use Rattle.std.proofs.Common.{ℕ, ◌+◌, List, [], ◌++◌, Option, subst, inl, inr, arith}
use Rattle.mrp_rows.specs.declared.told.Told.{Told}
use Rattle.mrp_rows.specs.Told.{inner_of, failures_of, interrupted_of, HasRisenBy}
use Rattle.mrp_rows.specs.Streams.{RisesBy}
use Rattle.mrp_rows.proofs.StreamFronts.{front-longer, front-after}
use Rattle.mrp_report.specs.Taken.{HasTakenAll}
use Rattle.mrp_report.specs.Written.{HasGivenUp, HasTakenFront, HasTakenWhole}
use Rattle.mrp_report.proofs.Progress.{taken-both, taken-none}

risen-after : (m n a b c : ℕ) → RisesBy m a b → HasRisenBy n b c → HasRisenBy n a c
risen-after m n a b c p q = omega (arith, p.0, p.1, q)

-- nothing is taken yet
pub all-none : {W : Type 0} (contents : W → Option (List ℕ)) (w : Told W) → HasTakenAll contents w w []
all-none contents w = (0, taken-none contents w)

-- a text is taken, and then one more
pub all-both : {W : Type 0} (contents : W → Option (List ℕ)) (a b c : Told W) (s t : List ℕ) → HasTakenAll contents a b s → HasTakenAll contents b c t → HasTakenAll contents a c (s ++ t)
all-both contents a b c s t (m, p) (n, q) = (m + n, taken-both contents a b c s t m n p q)

pub all-of-one : {W : Type 0} (contents : W → Option (List ℕ)) (a b : Told W) (s : List ℕ) → HasTakenWhole contents a b s → HasTakenAll contents a b s
all-of-one contents a b s (m, few, taken) = (m, taken)

-- a text is taken, and then a prefix of the next
pub front-then : {W : Type 0} (contents : W → Option (List ℕ)) (a b c : Told W) (s t : List ℕ) → HasTakenAll contents a b s → HasTakenFront contents b c t → HasTakenFront contents a c (s ++ t)
front-then contents a b c s t (m, taken) front =
    front-after (contents (inner_of a)) (contents (inner_of b)) (contents (inner_of c)) s t taken.bytes front

-- a prefix of a text is one of a longer text
pub front-of-more : {W : Type 0} (contents : W → Option (List ℕ)) (a b : Told W) (s t : List ℕ) → HasTakenFront contents a b s → HasTakenFront contents a b (s ++ t)
front-of-more contents a b s t front = front-longer (contents (inner_of a)) (contents (inner_of b)) s t front

-- a writer that gave up in a later part gave up in the whole
pub given-up-later : {W : Type 0} (contents : W → Option (List ℕ)) (a b c : Told W) (s : List ℕ) (tries : ℕ) → HasTakenAll contents a b s → HasGivenUp b c tries → HasGivenUp a c tries
given-up-later contents a b c s tries (m, taken) (inl failed) = inl (subst (λ (n : ℕ). HasRisenBy 1 n (failures_of c)) taken.failures failed)
given-up-later contents a b c s tries (m, taken) (inr more) =
    inr (risen-after m (tries + 1) (interrupted_of a) (interrupted_of b) (interrupted_of c) taken.interrupted more)
