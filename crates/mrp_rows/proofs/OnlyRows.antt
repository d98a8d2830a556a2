-- What a text's first record and the text behind it say of its only record.
use Rattle.std.proofs.Common.{arith, eq-eqb, take, ◌≡◌, ◌≢◌, ◌∙◌, ℕ, true, false, List, [], ◌∷◌, length, Some, None, refl, suc}
use Rattle.std.specs.Prelude.{◌==◌, not}
use Rattle.std.proofs.lemmas.Bool.{ne_eqb}
use Rattle.std.proofs.lemmas.List.{take_all}
use Rattle.mrp_rows.specs.declared.fault.Table.{Table}
use Rattle.mrp_rows.specs.Columns.{columns_of}
use Rattle.mrp_rows.specs.Left.{Cells}
use Rattle.mrp_rows.specs.Only.{only_of}

-- a record of another count of cells
pub only-other : (table : Table) (number : ℕ) (cells : List (List ℕ)) (others : List (List (List ℕ))) → length cells ≢ length (columns_of table) → only_of table number (cells ∷ others) ≡ None
only-other table number cells [] other = rw (ne_eqb _ _ other) refl
only-other table number cells (next ∷ others) other = refl

-- one of several
pub only-among : (table : Table) (number : ℕ) (cells : List (List ℕ)) (others : List (List (List ℕ))) → not (length others == 0) ≡ true → only_of table number (cells ∷ others) ≡ None
only-among table number cells [] some = absurd cc
only-among table number cells (next ∷ others) some = refl

-- the only one, all of it
pub only-alone : (table : Table) (number : ℕ) (cells : List (List ℕ)) (others : List (List (List ℕ))) (wide : ℕ) (kept : List (List ℕ)) (row : Cells) → kept ≡ take wide cells → length cells ≡ wide
    → wide ≡ length (columns_of table) → not (length others == 0) ≡ false → row ≡ record { table = table; number = number; cells = kept } → only_of table number (cells ∷ others) ≡ Some row
only-alone table number cells [] wide kept row kept_is long width none is =
    let all : take wide cells ≡ cells = take_all wide cells (omega (arith, long)) in
    rw (is, kept_is, all, eq-eqb (length cells) (length (columns_of table)) (long ∙ width)) refl
only-alone table number cells (next ∷ others) wide kept row kept_is long width none is =
    let some : (suc (length others) == 0) ≡ false = ne_eqb _ 0 (λ e. absurd (omega (arith, e))) in
    absurd (let so = rw some at none in cc)
