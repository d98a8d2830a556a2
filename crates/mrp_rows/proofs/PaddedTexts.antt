-- Printable bytes of a text that stands in front of zeros.
use Rattle.std.proofs.Common.{◌≡◌, ℕ, zero, suc, ◌+◌, Bool, true, false, cond, eqb, List, [], ◌∷◌, ◌++◌, length, replicate, arith, refl}
use Rattle.std.specs.Prelude.{◌&&◌}
use Rattle.std.specs.List.{list_all, prefix_len}
use Rattle.std.proofs.lemmas.Bool.{ne_eqb}
use Rattle.mrp_rows.specs.Name.{is_printable}

-- all of a text is printable where the first byte that is not stands behind it
pub printable-in-front : (text : List ℕ) (n : ℕ) → eqb (prefix_len is_printable (text ++ replicate n 0)) (length text) ≡ list_all is_printable text
printable-in-front [] zero = refl
printable-in-front [] (suc n) = refl
printable-in-front (byte ∷ rest) n = by (is_printable byte) (printable-in-front rest n)
  where
    front : ℕ
    front = prefix_len is_printable (rest ++ replicate n 0)

    by : (is : Bool) → eqb front (length rest) ≡ list_all is_printable rest → eqb (cond is (1 + front) 0) (suc (length rest)) ≡ (is && list_all is_printable rest)
    by true more = grind (arith, more)
    by false more = ne_eqb 0 (suc (length rest)) (λ e. absurd (omega (arith, e)))
