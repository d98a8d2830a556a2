-- Causes are the same by `==` exactly if they are by their definition.
use Rattle.std.proofs.Common.{◌≡◌, List, refl}
use Rattle.std.specs.List.{list_any}
use Rattle.indexmap.specs.IndexSet.{insert_key}
use Rattle.mrp_peg.specs.contracts.peg.CausePartialEq.TheImpl as derived
use Rattle.mrp_peg.specs.declared.peg.Cause.{Cause}
use Rattle.mrp_peg.specs.declared.peg.Cause.TheVariants as cause
use Rattle.mrp_peg.specs.Causes.{same_cause}

pub equal_causes : (c d : Cause) → (derived.ghosts).eq c d ≡ same_cause c d
equal_causes (cause.Booking i m) (cause.Booking j n) = refl
equal_causes (cause.Booking i m) (cause.Forecast j n) = refl
equal_causes (cause.Booking i m) (cause.Service j n) = refl
equal_causes (cause.Booking i m) (cause.Surplus j n) = refl
equal_causes (cause.Forecast i m) (cause.Booking j n) = refl
equal_causes (cause.Forecast i m) (cause.Forecast j n) = refl
equal_causes (cause.Forecast i m) (cause.Service j n) = refl
equal_causes (cause.Forecast i m) (cause.Surplus j n) = refl
equal_causes (cause.Service i m) (cause.Booking j n) = refl
equal_causes (cause.Service i m) (cause.Forecast j n) = refl
equal_causes (cause.Service i m) (cause.Service j n) = refl
equal_causes (cause.Service i m) (cause.Surplus j n) = refl
equal_causes (cause.Surplus i m) (cause.Booking j n) = refl
equal_causes (cause.Surplus i m) (cause.Forecast j n) = refl
equal_causes (cause.Surplus i m) (cause.Service j n) = refl
equal_causes (cause.Surplus i m) (cause.Surplus j n) = refl

-- so a set of causes grows by its definition
pub grown : (ks : List Cause) (c : Cause) → insert_key ((derived.ghosts).eq) ks c ≡ insert_key same_cause ks c
grown ks c = λ i. insert_key (λ x y. equal_causes x y i) ks c

-- and contains the same causes
pub held : (ks : List Cause) (c : Cause) → list_any ((derived.ghosts).eq c) ks ≡ list_any (same_cause c) ks
held ks c = λ i. list_any (λ x. equal_causes c x i) ks
