-- A row whose pair of an item and a name or a number is new.
use Rattle.std.proofs.Common.{◌≡◌, Bool, true, false, List, Result, Ok, Err, refl}
use Rattle.std.specs.Prelude.{IfOk, if◌then◌else◌}
use Rattle.std.specs.List.{list_any}
use Rattle.mrp_qty.specs.Reading.{◌>>=◌}
use Rattle.mrp_rows.specs.declared.fault.Fault.{Fault}

-- what was seen before is refused; all else is placed
abbrev pub unless_seen : {X Y : Type 0} → (X → Bool) → Fault → (X → Result Y Fault) → X → Result Y Fault
unless_seen {X} seen f place x = (if seen x then Err f else Ok x) >>= place

pub repeated : {X Y : Type 0} (read : Result X Fault) (seen : X → Bool) (f : Fault) (place : X → Result Y Fault) (x : X)
    → read ≡ Ok x → seen x ≡ true → (read >>= unless_seen seen f place) ≡ Err f
repeated read seen f place x is found = rw (is, found) refl

pub placed : {X Y : Type 0} (read : Result X Fault) (seen : X → Bool) (f : Fault) (place : X → Result Y Fault) (x : X)
    → read ≡ Ok x → seen x ≡ false → (read >>= unless_seen seen f place) ≡ place x
placed read seen f place x is new = rw (is, new) refl

-- a row that keeps both
pub still_new : {Y A B : Type 0} (same : A × B → A × B → Bool) (first : Y → A) (second : Y → B) (seen : List (A × B)) (a : A) (b : B)
    → list_any (same (a, b)) seen ≡ false → (result : Result Y Fault)
    → IfOk result (λ row. first row ≡ a) → IfOk result (λ row. second row ≡ b)
    → IfOk result (λ row. list_any (same (first row, second row)) seen ≡ false)
still_new same first second seen a b new (Ok row) one other = rw (one, other) new
still_new same first second seen a b new (Err f) one other = tt
