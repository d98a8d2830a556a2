-- The files of a folder, table by table.
use Rattle.std.proofs.Common.{◌≡◌, ◌∙◌, ◌++◌, ◌+◌, ◌<◌, [], ◌∷◌, ℕ, List, Option, Some, None, IfSome, ap, arith, codes, drop, get_or, length, length-append, refl, subst, sym, take}
use Rattle.std.specs.List.{filter_map}
use Rattle.std.proofs.lemmas.List.{append-nil, drop_more, map-append, take-append-drop, take_more}
use Rattle.std.proofs.lemmas.List.Concat.{flat_map-append}
use Rattle.std.proofs.lemmas.List.Elements.{All-append, All-cons, All-nil, filter_map-append}
use Rattle.mrp_rows.specs.declared.fault.Table.{Table}
use Rattle.mrp_rows.specs.FaultText.{table_name}
use Rattle.mrp_rows.specs.Joined.{Part, joined, section_bytes, section_line_of, section_of}
use Rattle.mrp_rows.specs.declared.streams.TheConstants.{GREATEST_BUNDLE}
use Rattle.mrp_words.specs.Folder.{AreFilesOf, AreParts, HasTooMuch, IsAt, IsPastAt, IsTooLongAt, Kept, Known, all_tables, part_in, path_in}

-- these are the parts of the files that a folder has of some tables
abbrev pub ArePartsOf : Known → List ℕ → List Table → List Part → Type 0
ArePartsOf known folder tables parts = (found : List Kept) × AreFilesOf known folder tables found × (parts ≡ filter_map part_in found)

-- what is no file is none
pub none-there : {X : Type 0} (o : Option X) → ((x : X) → o ≡ Some x → ⊥) → o ≡ None
none-there None other = refl
none-there (Some x) other = absurd (other x refl)

-- one more table's file
one-more : (known : Known) (folder : List ℕ) (tables : List Table) (found : List Kept) (table : Table) (file : Option (List ℕ))
    → AreFilesOf known folder tables found → IsAt known (path_in folder table) file → AreFilesOf known folder (tables ++ table ∷ []) (found ++ (table, file) ∷ [])
one-more known folder tables found table file are at =
    let Is : Kept → Type 0 = λ f. IsAt known (path_in folder f.0) f.1 in
    record {
      tables_are = map-append (λ (f : Kept). f.0) found ((table, file) ∷ []) ∙ ap (λ (ts : List Table). ts ++ table ∷ []) are.tables_are;
      files_are = All-append Is found ((table, file) ∷ []) are.files_are (All-cons Is (table, file) [] at (All-nil Is));
    }

-- a table that has no file adds no part
pub no-file : (known : Known) (folder : List ℕ) (tables : List Table) (parts : List Part) (table : Table)
    → ArePartsOf known folder tables parts → IsAt known (path_in folder table) None → ArePartsOf known folder (tables ++ table ∷ []) parts
no-file known folder tables parts table (found, are, is) at = (
  found ++ (table, None) ∷ [],
  one-more known folder tables found table None are at,
  is ∙ sym (filter_map-append part_in found ((table, None) ∷ []) ∙ append-nil (filter_map part_in found)),
)

-- a table's file is the next part
pub a-file : (known : Known) (folder : List ℕ) (tables : List Table) (parts : List Part) (table : Table) (bytes : List ℕ)
    → ArePartsOf known folder tables parts → IsAt known (path_in folder table) (Some bytes) → ArePartsOf known folder (tables ++ table ∷ []) (parts ++ (table, bytes) ∷ [])
a-file known folder tables parts table bytes (found, are, is) at = (
  found ++ (table, Some bytes) ∷ [],
  one-more known folder tables found table (Some bytes) are at,
  ap (λ (ps : List Part). ps ++ (table, bytes) ∷ []) is ∙ sym (filter_map-append part_in found ((table, Some bytes) ∷ [])),
)

-- the next table has no file
pub next-none : (known : Known) (folder : List ℕ) (tables : List Table) (k : ℕ) (table : Table) (parts : List Part) → k < length tables
    → ArePartsOf known folder (take k tables) parts → IsAt known (path_in folder (get_or tables k table)) None → ArePartsOf known folder (take (k + 1) tables) parts
next-none known folder tables k table parts less are at =
    subst (λ (ts : List Table). ArePartsOf known folder ts parts) (sym (take_more tables k table less)) (no-file known folder (take k tables) parts (get_or tables k table) are at)

-- the next table has a file
pub next-file : (known : Known) (folder : List ℕ) (tables : List Table) (k : ℕ) (table : Table) (parts : List Part) (bytes : List ℕ) → k < length tables
    → ArePartsOf known folder (take k tables) parts → IsAt known (path_in folder (get_or tables k table)) (Some bytes)
    → ArePartsOf known folder (take (k + 1) tables) (parts ++ (get_or tables k table, bytes) ∷ [])
next-file known folder tables k table parts bytes less are at =
    subst (λ (ts : List Table). ArePartsOf known folder ts (parts ++ (get_or tables k table, bytes) ∷ [])) (sym (take_more tables k table less))
    (a-file known folder (take k tables) parts (get_or tables k table) bytes are at)

-- a table's section has its line, its bytes and a line feed
pub section_length : (part : Part) → length (section_bytes (section_of part)) ≡ length (table_name part.0) + 4 + length part.1
section_length part =
    omega (
      arith,
      length-append (section_line_of part.0) (part.1 ++ codes "\n"),
      length-append (codes "[") (table_name part.0 ++ codes "]\n"),
      length-append (table_name part.0) (codes "]\n"),
      length-append part.1 (codes "\n"),
    )

-- one more part adds its section
pub joined_length : (parts : List Part) (part : Part) → length (joined (parts ++ part ∷ [])) ≡ length (joined parts) + length (section_bytes (section_of part))
joined_length parts part =
    let section : List ℕ = section_bytes (section_of part) in
    omega (
      arith,
      ap (length {A = ℕ}) (flat_map-append (λ (p : Part). section_bytes (section_of p)) parts (part ∷ [])),
      length-append (joined parts) (section ++ []),
      length-append section [],
    )

-- a file that has more bytes than are left makes the bundle too long
past-read : (o : Option (Option (List ℕ))) (parts : List Part) (table : Table) (left : ℕ) → left + length (joined parts) ≡ GREATEST_BUNDLE
    → IfSome o (λ kept. (bytes : List ℕ) × (kept ≡ Some bytes) × (left < length bytes))
    → IfSome o (λ kept. (bytes : List ℕ) × (kept ≡ Some bytes) × (GREATEST_BUNDLE < length (joined (parts ++ (table, bytes) ∷ []))))
past-read None parts table left sum long = tt
past-read (Some kept) parts table left sum (bytes, is, long) = (bytes, is, omega (arith, sum, long, joined_length parts (table, bytes), section_length (table, bytes)))

-- so does one whose section has more
past-section : (o : Option (Option (List ℕ))) (parts : List Part) (table : Table) (bytes : List ℕ) (left : ℕ) → left + length (joined parts) ≡ GREATEST_BUNDLE
    → left < length (section_bytes (section_of (table, bytes))) → IfSome o (λ kept. Some bytes ≡ kept)
    → IfSome o (λ kept. (bytes : List ℕ) × (kept ≡ Some bytes) × (GREATEST_BUNDLE < length (joined (parts ++ (table, bytes) ∷ []))))
past-section None parts table bytes left sum long is = tt
past-section (Some kept) parts table bytes left sum long is = (bytes, sym is, omega (arith, sum, long, joined_length parts (table, bytes)))

-- a folder has too much if a table's file does not fit
too-much-at : (known : Known) (folder : List ℕ) (k : ℕ) (table : Table) (parts : List Part) → k < length all_tables
    → ArePartsOf known folder (take k all_tables) parts → IsPastAt known folder parts (get_or all_tables k table) → HasTooMuch known folder
too-much-at known folder k table parts less (found, are, is) past = record {
  before = take k all_tables;
  table = get_or all_tables k table;
  after = drop (k + 1) all_tables;
  tables = ap (λ (ts : List Table). take k all_tables ++ ts) (sym (drop_more all_tables k table less)) ∙ take-append-drop k all_tables;
  files = found;
  are = are;
  past = subst (λ (ps : List Part). IsPastAt known folder ps (get_or all_tables k table)) is past;
}

pub too-much : (known : Known) (folder : List ℕ) (k : ℕ) (table : Table) (parts : List Part) (left : ℕ) → k < length all_tables
    → ArePartsOf known folder (take k all_tables) parts → left + length (joined parts) ≡ GREATEST_BUNDLE → IsTooLongAt known (path_in folder (get_or all_tables k table)) left → HasTooMuch known folder
too-much known folder k table parts left less are sum long =
    too-much-at known folder k table parts less are (past-read (known (path_in folder (get_or all_tables k table))) parts (get_or all_tables k table) left sum long)

pub section-too-much : (known : Known) (folder : List ℕ) (k : ℕ) (table : Table) (parts : List Part) (bytes : List ℕ) (left : ℕ) → k < length all_tables
    → ArePartsOf known folder (take k all_tables) parts → left + length (joined parts) ≡ GREATEST_BUNDLE
    → left < length (section_bytes (section_of (get_or all_tables k table, bytes))) → IsAt known (path_in folder (get_or all_tables k table)) (Some bytes) → HasTooMuch known folder
section-too-much known folder k table parts bytes left less are sum long at =
    too-much-at known folder k table parts less are (past-section (known (path_in folder (get_or all_tables k table))) parts (get_or all_tables k table) bytes left sum long at)

-- the parts of all tables are the folder's
pub all-parts : (known : Known) (folder : List ℕ) (tables : List Table) (parts : List Part) (left : ℕ) → tables ≡ all_tables
    → ArePartsOf known folder tables parts → left + length (joined parts) ≡ GREATEST_BUNDLE → AreParts known folder parts
all-parts known folder tables parts left whole (found, are, is) sum = record {
  files = found;
  are = subst (λ (ts : List Table). AreFilesOf known folder ts found) whole are;
  is = is;
  fits = omega (arith, sum);
}
