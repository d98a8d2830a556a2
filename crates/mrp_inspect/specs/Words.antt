-- Faults of files and of section lines, in words (profile).
use Rattle.std.specs.Prelude.{ℕ, List, [], ◌++◌, codes, decimal, Option, Some, None}
use Rattle.std.specs.List.{slice_index_or}
use Rattle.mrp_rows.specs.FaultText.{table_name}
use Rattle.mrp_rows.specs.Tables.{table_index}
use Rattle.mrp_rows.specs.declared.fault.Table.{Table}
use Rattle.mrp_advice.specs.Shown.{shown}
use Rattle.mrp_inspect.specs.declared.found.PathKind.{PathKind}
use Rattle.mrp_inspect.specs.declared.found.PathKind.TheVariants.{Absent, File, Folder}
use Rattle.mrp_inspect.specs.declared.names.Naming.{Naming}
use Rattle.mrp_inspect.specs.declared.stray.Reason.{Reason}
use Rattle.mrp_inspect.specs.declared.stray.Reason.TheVariants.{Again, NoTable, OfFile}
use Rattle.mrp_inspect.specs.Names.{other_name}
use Rattle.mrp_inspect.specs.Strays.{StrayLine, first_among}

-- why a line is told
abbrev pub reason_words : Reason → List ℕ
reason_words (NoTable place) = codes " begins with [, which begins a section"
reason_words (OfFile table) = codes " begins the table of " ++ (table_name table ++ codes ".csv")
reason_words (Again table file line) = codes " begins a table that begins in line " ++ (decimal line ++ (codes " of " ++ (table_name file ++ codes ".csv")))

-- a line that begins with a bracket
abbrev pub stray_text : StrayLine → List ℕ
stray_text s =
    table_name s.file ++ (codes ".csv:" ++ (decimal s.number ++ (codes ": row: " ++ (shown s.text ++ (reason_words s.reason ++ codes "; expected no line with [ in front")))))

-- another name under which a table's file is there
abbrev pub other_words : Table → Option Naming → List ℕ
other_words table (Some naming) = codes ", but '" ++ (other_name table naming ++ codes "' is there")
other_words table None = []

-- a table that is not there
abbrev pub missing_text : Table → Option Naming → List ℕ
missing_text table other =
    table_name table ++ (codes ".csv:0: file: there is no such file" ++ (other_words table other ++ (codes "; expected a file " ++ (table_name table ++ codes ".csv"))))

abbrev pub missing_at : Table → Option Naming → Option ℕ → Option (List ℕ)
missing_at table other (Some first) = None
missing_at table other None = Some (missing_text table other)

-- the same, where no piece begins a table
abbrev pub missing_of : List (Option ℕ) → List (Option Naming) → Table → Option (List ℕ)
missing_of firsts others table = missing_at table (slice_index_or others (table_index table) None) (first_among firsts table)

-- what a folder's path has in place of the tables
abbrev pub path_words : PathKind → List ℕ
path_words File = codes "this is a file and no folder (a bundle is planned by mrp plan < FILE)"
path_words Absent = codes "there is no such folder"
path_words Folder = codes "none of the nine tables is there"

abbrev pub path_text : PathKind → List ℕ
path_text path_kind =
    codes ".:0: folder: " ++ (path_words path_kind ++ codes "; expected a folder with calendar.csv, items.csv, centres.csv, stock.csv, receipts.csv, bills.csv, routings.csv, master.csv, script.csv")
