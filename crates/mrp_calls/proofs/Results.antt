-- Steps of a reading that have a value or a fault.
use Rattle.std.proofs.Common.{◌≡◌, Result, Ok, Err, refl}
use Rattle.mrp_qty.specs.Reading.{◌>>=◌}
use Rattle.mrp_rows.specs.declared.fault.Fault.{Fault}

pub ok-same : {A : Type 0} (a b : A) → ◌≡◌ {A = Result A Fault} (Ok a) (Ok b) → a ≡ b
ok-same a b e = cc

pub err-same : {A : Type 0} (f g : Fault) → ◌≡◌ {A = Result A Fault} (Err f) (Err g) → f ≡ g
err-same f g e = cc

-- behind a value the reading goes on with it
pub bound : {A B : Type 0} (o : Result A Fault) (f : A → Result B Fault) (x : A) → o ≡ Ok x → (o >>= f) ≡ f x
bound o f x e = rw e refl

-- and behind a fault it ends
pub bound-err : {A B : Type 0} (o : Result A Fault) (f : A → Result B Fault) (g : Fault) → o ≡ Err g → (o >>= f) ≡ Err g
bound-err o f g e = rw e refl
