-- The text of a file in the bundle.
use Rattle.std.proofs.Common.{◌≡◌, ◌∙◌, ℕ, ◌+◌, ◌<◌, ◌≤◌, List, [], ◌∷◌, ◌++◌, Vec, append_assoc, ap, arith, codes, drop, get_or, length, length-append, map, sym, take}
use Rattle.std.proofs.Math.Seq.{drop-append_seam, take-append_seam}
use Rattle.std.proofs.lemmas.List.{drop_more}
use Rattle.std.specs.declared.alloc.Global.{Global}
use Rattle.mrp_rows.specs.declared.fault.Table.{Table}
use Rattle.mrp_rows.specs.FaultText.{table_name}
use Rattle.mrp_rows.specs.Joined.{Part, joined, section_bytes, section_line_of, section_of}
use Rattle.mrp_inspect.specs.Pieces.{content_of}

-- a table's section line has its name, two brackets and a line feed
pub line-length : (table : Table) → length (section_line_of table) ≡ length (table_name table) + 3
line-length table = omega (
  arith,
  length-append (codes "[") (table_name table ++ codes "]\n"),
  length-append (codes "[" ++ table_name table) (codes "]\n"),
  length-append (codes "[") (table_name table),
  length-append (table_name table) (codes "]\n"),
)

pub content-length : (bytes : List ℕ) → length (content_of bytes) ≡ length bytes + 1
content-length bytes = omega (arith, length-append bytes (10 ∷ []))

-- what stands behind the line
pub below-line : (bundle more : List ℕ) (table : Table) (bytes : List ℕ) (n : ℕ) → n ≡ length (table_name table) + 3 → bundle ≡ section_bytes (section_of (table, bytes)) ++ more → drop n bundle ≡ content_of bytes ++ more
below-line bundle more table bytes n long is =
    let line : List ℕ = section_line_of table in
    ap (λ (k : ℕ). drop k bundle) (long ∙ sym (line-length table)) ∙ ap (drop (length line)) (is ∙ append_assoc line (content_of bytes) more) ∙ drop-append_seam line (content_of bytes ++ more)

pub content-is : (below more bytes : List ℕ) (m : ℕ) → m ≡ length bytes + 1 → below ≡ content_of bytes ++ more → take m below ≡ content_of bytes
content-is below more bytes m long is =
    ap (λ (k : ℕ). take k below) (long ∙ sym (content-length bytes)) ∙ ap (take (length (content_of bytes))) is ∙ take-append_seam (content_of bytes) more

pub more-is : (below more bytes : List ℕ) (m : ℕ) → m ≡ length bytes + 1 → below ≡ content_of bytes ++ more → drop m below ≡ more
more-is below more bytes m long is =
    ap (λ (k : ℕ). drop k below) (long ∙ sym (content-length bytes)) ∙ ap (drop (length (content_of bytes))) is ∙ drop-append_seam (content_of bytes) more

pub section-fits : (bundle more : List ℕ) (table : Table) (bytes : List ℕ) → bundle ≡ section_bytes (section_of (table, bytes)) ++ more → length (table_name table) + 3 ≤ length bundle
section-fits bundle more table bytes is =
    omega (
      arith,
      line-length table,
      ap (length {A = ℕ}) is,
      length-append (section_bytes (section_of (table, bytes))) more,
      length-append (section_line_of table) (content_of bytes),
    )

pub content-fits : (below more bytes : List ℕ) → below ≡ content_of bytes ++ more → length bytes + 1 ≤ length below
content-fits below more bytes is = omega (arith, content-length bytes, ap (length {A = ℕ}) is, length-append (content_of bytes) more)

abbrev pub part_of : Table × Vec ℕ Global → Part
part_of part = (part.0, part.1.items)

-- the next section of a bundle
pub section-next : (tables : List (Table × Vec ℕ Global)) (k : ℕ) (part : Table × Vec ℕ Global) (rest : List ℕ) → k < length tables → part ≡ get_or tables k part → rest ≡ joined (map part_of (drop k tables))
    → rest ≡ section_bytes (section_of (part.0, part.1.items)) ++ joined (map part_of (drop (k + 1) tables))
section-next tables k part rest within is so_far =
    so_far ∙ ap (λ (ps : List (Table × Vec ℕ Global)). joined (map part_of ps)) (drop_more tables k part within ∙ ap (λ (p : Table × Vec ℕ Global). p ∷ drop (k + 1) tables) (sym is))
