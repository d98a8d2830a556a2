-- What a cell is read as, if it is spelled as a day spells it.
use Rattle.std.proofs.Common.{◌≡◌, ◌∙◌, ℕ, ◌<◌, ◌^◌, List, Result, Ok, sym, ap, arith}
use Rattle.std.specs.Prelude.{decimal}
use Rattle.std.specs.Int.{IsInRange}
use Rattle.mrp_qty.specs.Digits.{number_of}
use Rattle.mrp_qty.proofs.Numerals.{decimal-read}

-- a number within limits is read from its decimal text
pub number-there : (least most n : ℕ) (cell : List ℕ) → most < 2 ^ 64 → IsInRange least most n → cell ≡ decimal n → number_of most cell ≡ Ok n
number-there least most n cell fits within spelled = ap (number_of most) spelled ∙ decimal-read most n within.1 (omega (arith, within.1, fits))

ok-is : {X Y : Type 0} (a b : X) → ◌≡◌ {A = Result X Y} (Ok a) (Ok b) → a ≡ b
ok-is a b e = cc

-- and from no other
pub number-read : (least most n read : ℕ) (cell : List ℕ) → most < 2 ^ 64 → IsInRange least most n → cell ≡ decimal n → number_of most cell ≡ Ok read → read ≡ n
number-read least most n read cell fits within spelled is = ok-is read n (sym is ∙ number-there least most n cell fits within spelled)
