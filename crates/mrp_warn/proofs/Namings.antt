-- Names as texts, and in small letters.
use Rattle.std.proofs.Common.{◌≡◌, ◌⊎◌, inl, inr, ℕ, zero, suc, ◌-◌, ◌<◌, ◌≤◌, true, List, [], ◌∷◌, length, get_or, arith, refl}
use Rattle.std.specs.Prelude.{◌&&◌, nat_le}
use Rattle.std.specs.List.{list_all}
use Rattle.std.specs.Str.{IsAscii, IsUtf8}
use Rattle.std.proofs.lemmas.Bool.{and_from, and_parts, cases_lt}
use Rattle.std.proofs.lemmas.Bool.Decides.{nat_tests}
use Rattle.std.proofs.lemmas.List.{get_or-map, get_or_past, length-map}
use Rattle.std.proofs.lemmas.Str.{IsUtf8-from_ascii}
use Rattle.mrp_rows.specs.declared.name.TheConstants.{LONGEST_NAME}
use Rattle.mrp_rows.specs.Name.{has_name_ends, is_name, is_printable}
use Rattle.mrp_warn.specs.Names.{folded, small}

-- the parts of a name
pub record IsNamed (text : List ℕ) : Type 0 where
  pub some : nat_le 1 (length text) ≡ true
  pub short : nat_le (length text) LONGEST_NAME ≡ true
  pub all : list_all is_printable text ≡ true
  pub ends : has_name_ends (get_or text 0 0) (get_or text (length text - 1) 0) ≡ true

named : (text : List ℕ) → is_name text ≡ true → IsNamed text
named text is =
    let a = nat_le 1 (length text) in
    let b = nat_le (length text) LONGEST_NAME in
    let c = list_all is_printable text in
    let d = has_name_ends (get_or text 0 0) (get_or text (length text - 1) 0) in
    let (abc, ends) = and_parts (a && b && c) d is in
    let (ab, all) = and_parts (a && b) c abc in
    let (some, short) = and_parts a b ab in
    record { some = some; short = short; all = all; ends = ends }

small-printable : (b : ℕ) → is_printable b ≡ true → is_printable (small b) ≡ true
small-printable b is = grind (arith, nat_tests)

small-all : (text : List ℕ) → list_all is_printable text ≡ true → list_all is_printable (folded text) ≡ true
small-all [] all = refl
small-all (b ∷ text) all =
    let (here, rest) = and_parts (is_printable b) (list_all is_printable text) all in
    and_from (is_printable (small b)) (list_all is_printable (folded text)) (small-printable b here) (small-all text rest)

small-ends : (first last : ℕ) → has_name_ends first last ≡ true → has_name_ends (small first) (small last) ≡ true
small-ends first last ends = grind (arith, nat_tests)

positive : (n : ℕ) → nat_le 1 n ≡ true → 1 ≤ n
positive n is = grind (arith, nat_tests)

-- a name in small letters is a name
pub folded-name : (text : List ℕ) → is_name text ≡ true → is_name (folded text) ≡ true
folded-name text is =
    let own = named text is in
    let size : length (folded text) ≡ length text = length-map text small in
    let some = positive (length text) own.some in
    let first : get_or (folded text) 0 0 ≡ small (get_or text 0 0) = get_or-map small text 0 0 0 (omega (arith, some)) in
    let last : get_or (folded text) (length text - 1) 0 ≡ small (get_or text (length text - 1) 0) = get_or-map small text (length text - 1) 0 0 (omega (arith, some)) in
    let ends : has_name_ends (get_or (folded text) 0 0) (get_or (folded text) (length text - 1) 0) ≡ true = rw (first, last) (small-ends (get_or text 0 0) (get_or text (length text - 1) 0) own.ends) in
    rw size (and_from _ _ (and_from _ _ (and_from _ _ own.some own.short) (small-all text own.all)) ends)
