-- The files of a folder, and what is there in place of those that are not (profile).
use Rattle.std.specs.Prelude.{ℕ, Bool, true, false, ◌≡◌, ◌==◌, ◌&&◌, ◌⊎◌, List, [], ◌∷◌, ◌++◌, codes, is_none, length, map, Option, Some, None, Result, Ok, Err, ⊤}
use Rattle.std.specs.List.{All, AllZip, list_all, list_any}
use Rattle.std.specs.Path.{path_join}
use Rattle.mrp_rows.specs.declared.fault.Table.{Table}
use Rattle.mrp_rows.specs.declared.streams.ReadFault.{ReadFault}
use Rattle.mrp_rows.specs.declared.streams.ReadFault.TheVariants.{Read, NoMemory}
use Rattle.mrp_rows.specs.Joined.{Part}
use Rattle.mrp_words.specs.Folder.{AreParts, HasTooMuch, IsThere, Known, all_tables}
use Rattle.mrp_inspect.specs.declared.found.Found.{Found}
use Rattle.mrp_inspect.specs.declared.found.PathKind.{PathKind}
use Rattle.mrp_inspect.specs.declared.found.PathKind.TheVariants.{Absent, File, Folder}
use Rattle.mrp_inspect.specs.declared.names.Naming.{Naming}
use Rattle.mrp_inspect.specs.Names.{all_namings, other_name}
use Rattle.mrp_inspect.specs.Pieces.{same_table}

-- the tables that have a file, each with its bytes
abbrev pub parts_of : Found → List Part
parts_of found = map (λ part. (part.0, part.1.items)) found.tables.items

-- the path of a table's file under another name
abbrev pub other_path : List ℕ → Table → Naming → List ℕ
other_path folder table naming = path_join folder (other_name table naming)

-- a table's file is there under no other name, or this is the first
abbrev pub IsOther : Known → List ℕ → Table → Option Naming → Type 0
IsOther known folder table None = All (λ naming. IsThere known (other_path folder table naming) false) all_namings
IsOther known folder table (Some naming) =
    (before : List Naming) × (after : List Naming) × (all_namings ≡ before ++ naming ∷ after)
    × All (λ other. IsThere known (other_path folder table other) false) before × IsThere known (other_path folder table naming) true

-- it is looked for only of a table without a file
abbrev pub IsOtherIf : Bool → Known → List ℕ → Table → Option Naming → Type 0
IsOtherIf true known folder table other = other ≡ None
IsOtherIf false known folder table other = IsOther known folder table other

-- a table has a file
abbrev pub has_part : {B : Type 0} → List (Table × B) → Table → Bool
has_part parts table = list_any (λ part. same_table part.0 table) parts

abbrev pub IsOtherBeside : {B : Type 0} → Known → List ℕ → List (Table × B) → Table → Option Naming → Type 0
IsOtherBeside known folder parts table other = IsOtherIf (has_part parts table) known folder table other

-- of each table, in the order of the tables
abbrev pub AreOthers : {B : Type 0} → Known → List ℕ → List (Table × B) → List (Option Naming) → Type 0
AreOthers known folder parts others = AllZip (IsOtherBeside known folder parts) all_tables others

-- the path `D/.` of a folder D, at which nothing can be opened where D is a file
abbrev pub own_path : List ℕ → List ℕ
own_path folder = path_join folder (codes ".")

-- what is at the path of a folder
abbrev pub IsPathKind : Known → List ℕ → PathKind → Type 0
IsPathKind known folder File = IsThere known (own_path folder) false × IsThere known folder true
IsPathKind known folder Absent = IsThere known (own_path folder) false × IsThere known folder false
IsPathKind known folder Folder = (folder ≡ []) ⊎ IsThere known (own_path folder) true

-- no table has a file, under any name
abbrev pub are_none : {T : Type 0} → List T → List (Option Naming) → Bool
are_none tables others = (length tables == 0) && list_all (λ other. is_none other) others

abbrev pub is_bare : Found → Bool
is_bare found = are_none found.tables.items found.others.items

-- it is looked at only where no table has a file
abbrev pub IsPathKindIf : Bool → Known → List ℕ → PathKind → Type 0
IsPathKindIf true known folder path_kind = IsPathKind known folder path_kind
IsPathKindIf false known folder path_kind = path_kind ≡ Folder

-- what is there in place of the files that a folder does not have
pub record FindsBeside (known : Known) (folder : List ℕ) (found : Found) : Type 0 where
  pub others : AreOthers known folder found.tables.items found.others.items
  pub path_kind : IsPathKindIf (is_bare found) known folder found.path_kind

-- what was found in a folder
pub record IsFound (known : Known) (folder : List ℕ) (found : Found) : Type 0 where
  pub parts : AreParts known folder (parts_of found)
  pub beside : FindsBeside known folder found

-- the result of looking into a folder; or it has too much, or out of memory
abbrev pub Finds : Known → List ℕ → Result Found ReadFault → Type 0
Finds known folder (Ok found) = IsFound known folder found
Finds known folder (Err Read) = HasTooMuch known folder
Finds known folder (Err NoMemory) = ⊤
