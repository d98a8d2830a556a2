-- How many bytes a record has.
use Rattle.std.proofs.Common.{◌≡◌, ℕ, ◌+◌, ◌*◌, ◌≤◌, List, [], ◌∷◌, ◌++◌, length, arith, length-append, inl, inr}
use Rattle.std.specs.Prelude.{◌==◌}
use Rattle.std.specs.List.{list_any}
use Rattle.std.proofs.lemmas.Bool.{cases_Bool}
use Rattle.csv.specs.Writing.{default_writer, escaped, field_text, fields_text, is_blank, needs_byte, quoted}
use Rattle.mrp_report.specs.page.Rows.{row}

escaped-length : (x : List ℕ) → length (escaped default_writer x) ≤ 2 * length x
unfolding escaped
escaped-length [] = omega arith
escaped-length (b ∷ rest) =
    let more = escaped-length rest in
    elim (cases_Bool (b == 34)) [
      | inl is ↦ rw is (omega (arith, more))
      | inr is ↦ rw is (omega (arith, more))
    ]

quoted-length : (x : List ℕ) → length (quoted default_writer x) ≤ 2 * length x + 2
quoted-length x = omega (arith, length-append (escaped default_writer x) (34 ∷ []), escaped-length x)

field-length : (x : List ℕ) → length (field_text default_writer x) ≤ 2 * length x + 2
field-length x = elim (cases_Bool (list_any (needs_byte default_writer) x)) [
  | inl needs ↦ rw needs (quoted-length x)
  | inr plain ↦ rw plain (omega arith)
]

-- no more than twice its bytes, two quotes and a comma for each cell
abbrev pub weight : List (List ℕ) → ℕ
weight [] = 0
weight (x ∷ rest) = (2 * length x + 3) + weight rest

pub weight-append : (xs ys : List (List ℕ)) → weight (xs ++ ys) ≡ weight xs + weight ys
weight-append [] ys = omega arith
weight-append (x ∷ xs) ys = let more = weight-append xs ys in omega (arith, more)

fields-length : (xs : List (List ℕ)) → length (fields_text default_writer xs) ≤ weight xs
unfolding fields_text
fields-length [] = omega arith
fields-length (x ∷ rest) =
    let size = length-append (field_text default_writer x) (fields_text default_writer rest) in
    let own = field-length x in
    let more = fields-length rest in
    omega (arith, size, own, more)

pub row-length : (one two : List ℕ) (more : List (List ℕ)) → length (row (one ∷ two ∷ more)) ≤ weight (one ∷ two ∷ more) + 1
unfolding is_blank
row-length one two more =
    let body = length-append (field_text default_writer one) (fields_text default_writer (two ∷ more)) in
    let whole = length-append (field_text default_writer one ++ fields_text default_writer (two ∷ more)) (10 ∷ []) in
    let own = field-length one in
    let rest = fields-length (two ∷ more) in
    omega (arith, body, whole, own, rest)
