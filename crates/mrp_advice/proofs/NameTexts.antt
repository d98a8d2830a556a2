-- Names are texts.
use Rattle.std.proofs.Common.{◌≡◌, ◌⊎◌, inl, inr, ℕ, zero, suc, ◌-◌, ◌<◌, ◌≤◌, true, List, [], ◌∷◌, length, get_or, arith}
use Rattle.std.specs.Prelude.{◌&&◌, nat_le}
use Rattle.std.specs.List.{list_all}
use Rattle.std.specs.Str.{IsAscii, IsUtf8}
use Rattle.std.proofs.lemmas.Bool.{and_parts, cases_lt}
use Rattle.std.proofs.lemmas.Bool.Decides.{nat_tests}
use Rattle.std.proofs.lemmas.List.{get_or_past}
use Rattle.std.proofs.lemmas.Str.{IsUtf8-from_ascii}
use Rattle.mrp_rows.specs.declared.name.TheConstants.{LONGEST_NAME}
use Rattle.mrp_rows.specs.Name.{has_name_ends, is_name, is_printable}

-- each byte of a text of printable bytes is one
printable-at : (text : List ℕ) (i : ℕ) → list_all is_printable text ≡ true → i < length text → is_printable (get_or text i 0) ≡ true
printable-at [] i all within = absurd (omega (arith, within))
printable-at (b ∷ text) zero all within = (and_parts (is_printable b) (list_all is_printable text) all).0
printable-at (b ∷ text) (suc i) all within = printable-at text i (and_parts (is_printable b) (list_all is_printable text) all).1 (omega (arith, within))

printable-ascii : (b : ℕ) → is_printable b ≡ true → b < 128
printable-ascii b is = grind (arith, nat_tests)

ascii : (text : List ℕ) → list_all is_printable text ≡ true → IsAscii text
ascii text all i = by (cases_lt i (length text))
  where
    by : (i < length text) ⊎ (length text ≤ i) → get_or text i 0 < 128
    by (inl within) = printable-ascii (get_or text i 0) (printable-at text i all within)
    by (inr past) = rw (get_or_past text i 0 past) (omega arith)

-- a name is a text
pub name-text : (text : List ℕ) → is_name text ≡ true → IsUtf8 text
name-text text is =
    let a = nat_le 1 (length text) in
    let b = nat_le (length text) LONGEST_NAME in
    let c = list_all is_printable text in
    let d = has_name_ends (get_or text 0 0) (get_or text (length text - 1) 0) in
    let (abc, ends) = and_parts (a && b && c) d is in
    let (ab, all) = and_parts (a && b) c abc in
    IsUtf8-from_ascii text (ascii text all)
