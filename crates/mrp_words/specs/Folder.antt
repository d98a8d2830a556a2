-- A bundle as the files of a folder (profile).
use Rattle.std.specs.Prelude.{ℕ, Bool, true, false, ◌≡◌, ◌≤◌, ◌<◌, ◌++◌, List, [], ◌∷◌, Option, Some, None, IfSome, is_some, Result, Ok, Err, ⊤, codes, length, map, option_map}
use Rattle.std.specs.List.{All, filter_map}
use Rattle.std.specs.Path.{path_join}
use Rattle.std.specs.declared.io.ErrorKind.{ErrorKind}
use Rattle.std.specs.declared.io.ErrorKind.TheVariants.{NotADirectory, NotFound}
use Rattle.mrp_rows.specs.declared.fault.Table.{Table}
use Rattle.mrp_rows.specs.declared.fault.Table.TheVariants.{Calendar, Items, Centres, Stock, Receipts, Bills, Routings, Master, Script}
use Rattle.mrp_rows.specs.FaultText.{table_name}
use Rattle.mrp_rows.specs.Joined.{Part, joined}
use Rattle.mrp_rows.specs.declared.streams.ReadFault.{ReadFault}
use Rattle.mrp_rows.specs.declared.streams.ReadFault.TheVariants.{Read, NoMemory}
use Rattle.mrp_rows.specs.declared.streams.TheConstants.{GREATEST_BUNDLE}

-- the tables, in the order of a bundle
abbrev pub all_tables : List Table
all_tables = Calendar ∷ Items ∷ Centres ∷ Stock ∷ Receipts ∷ Bills ∷ Routings ∷ Master ∷ Script ∷ []

-- the path of a table's file in a folder: `items.csv` and so on
abbrev pub path_in : List ℕ → Table → List ℕ
path_in folder table = path_join folder (table_name table ++ codes ".csv")

-- a table's file: its bytes, or none if there is no such file
abbrev pub Kept : Type 0
Kept = Table × Option (List ℕ)

-- a file is a part of the bundle; none if there is no file
abbrev pub part_in : Kept → Option Part
part_in file = option_map (λ bytes. (file.0, bytes)) file.1

-- what is known of the file at a path: nothing, that there is none, or its bytes
abbrev pub Known : Type 0
Known = List ℕ → Option (Option (List ℕ))

-- a file that cannot be opened for this reason does not exist, or its folder does not
abbrev pub is_absent : ErrorKind → Bool
is_absent NotFound = true
is_absent NotADirectory = true
is_absent _ = false

-- a file is what is known to be at a path
abbrev pub IsAt : Known → List ℕ → Option (List ℕ) → Type 0
IsAt known path file = IfSome (known path) (λ kept. file ≡ kept)

-- a file can be opened at a path, or not, as far as that is known
abbrev pub IsThere : Known → List ℕ → Bool → Type 0
IsThere known path there = IfSome (known path) (λ kept. there ≡ is_some kept)

-- a file has more than so many bytes, or nothing is known of it
abbrev pub IsTooLongAt : Known → List ℕ → ℕ → Type 0
IsTooLongAt known path most = IfSome (known path) (λ kept. (bytes : List ℕ) × (kept ≡ Some bytes) × (most < length bytes))

-- with a table's file of a folder after these parts a bundle is longer than one may be, or nothing is known of that
-- file
abbrev pub IsPastAt : Known → List ℕ → List Part → Table → Type 0
IsPastAt known folder parts table =
    IfSome (known (path_in folder table)) (λ kept. (bytes : List ℕ) × (kept ≡ Some bytes) × (GREATEST_BUNDLE < length (joined (parts ++ (table, bytes) ∷ []))))

-- files are those of some tables in a folder, one for each
pub record AreFilesOf (known : Known) (folder : List ℕ) (tables : List Table) (files : List Kept) : Type 0 where
  pub tables_are : map (λ (file : Kept). file.0) files ≡ tables
  pub files_are : All (λ (file : Kept). IsAt known (path_in folder file.0) file.1) files

-- a folder has more bytes than a bundle may have: the bundle of the files of some tables and of this one is longer,
-- or nothing is known of this one
pub record HasTooMuch (known : Known) (folder : List ℕ) : Type 0 where
  pub before : List Table
  pub table : Table
  pub after : List Table
  pub tables : before ++ table ∷ after ≡ all_tables
  pub files : List Kept
  pub are : AreFilesOf known folder before files
  pub past : IsPastAt known folder (filter_map part_in files) table

-- the parts of a bundle are the files that a folder has, and it is no longer than one may be
pub record AreParts (known : Known) (folder : List ℕ) (parts : List Part) : Type 0 where
  pub files : List Kept
  pub are : AreFilesOf known folder all_tables files
  pub is : parts ≡ filter_map part_in files
  pub fits : length (joined parts) ≤ GREATEST_BUNDLE

-- the result of reading a folder: the bundle of its files; or it has too much, or out of memory
abbrev pub IsReadFrom : Known → List ℕ → Result (List ℕ) ReadFault → Type 0
IsReadFrom known folder (Ok bundle) = (parts : List Part) × AreParts known folder parts × (bundle ≡ joined parts)
IsReadFrom known folder (Err Read) = HasTooMuch known folder
IsReadFrom known folder (Err NoMemory) = ⊤

-- nothing is known of any path: no contract can say which bytes the files of the operating system
-- have
abbrev pub nothing_known : Known
nothing_known path = None
