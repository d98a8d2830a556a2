-- The lines of all faults of a folder's files, each with the fault that it tells (profile).
use Rattle.std.specs.Prelude.{ℕ, Bool, true, false, List, [], ◌∷◌, ◌++◌, filter_map, map, Option, Some, None, option_map}
use Rattle.mrp_rows.specs.declared.fault.Fault.{Fault}
use Rattle.mrp_rows.specs.declared.fault.Table.{Table}
use Rattle.mrp_rows.specs.declared.fault.Table.TheVariants.{Calendar}
use Rattle.mrp_survey.specs.Surveyed.{LoopTold, Surveyed}
use Rattle.mrp_advice.specs.Lines.{Run, run_line, runs_of}
use Rattle.mrp_advice.specs.Loops.{loop_line}
use Rattle.mrp_words.specs.Folder.{all_tables}
use Rattle.mrp_inspect.specs.declared.found.Found.{Found}
use Rattle.mrp_inspect.specs.declared.found.PathKind.{PathKind}
use Rattle.mrp_inspect.specs.declared.names.Naming.{Naming}
use Rattle.mrp_inspect.specs.Found.{is_bare, parts_of}
use Rattle.mrp_inspect.specs.LineFaults.{finding_fault, missing_fault, same_fault, stray_fault, way_fault}
use Rattle.mrp_inspect.specs.Pieces.{pieces_of}
use Rattle.mrp_inspect.specs.Strays.{StrayLine, firsts_of, strays_of}
use Rattle.mrp_inspect.specs.Words.{missing_of, path_text, stray_text}

-- a line, and the fault that it tells
pub record FaultLine : Type 0 where
  pub text : List ℕ
  pub fault : Fault

abbrev pub texts_of : List FaultLine → List (List ℕ)
texts_of lines = map (λ (line : FaultLine). line.text) lines

-- a line that begins with a bracket
abbrev pub stray_line : StrayLine → FaultLine
stray_line s = record { text = stray_text s; fault = stray_fault s.reason }

-- a table that is not there
abbrev pub missing_as : Table → List ℕ → FaultLine
missing_as table text = record { text = text; fault = missing_fault table }

abbrev pub missing_line : List (Option ℕ) → List (Option Naming) → Table → Option FaultLine
missing_line firsts others table = option_map (missing_as table) (missing_of firsts others table)

-- a folder that has none of the tables, of which the first is the calendar
abbrev pub path_line : PathKind → FaultLine
path_line path_kind = record { text = path_text path_kind; fault = missing_fault Calendar }

-- a fault of a record, or of several of empty cells alone
abbrev pub finding_line : Surveyed → Run → FaultLine
finding_line survey run = record { text = run_line survey run; fault = finding_fault survey run.0 }

-- items that need one another
abbrev pub way_line : Surveyed → LoopTold → FaultLine
way_line survey l = record { text = loop_line l; fault = way_fault survey l }

-- what is wrong with files
abbrev pub file_lines : List StrayLine → List (Option ℕ) → List (Option Naming) → List FaultLine
file_lines strays firsts others = map stray_line strays ++ filter_map (missing_line firsts others) all_tables

-- what is wrong with their records
abbrev pub record_lines : Surveyed → List FaultLine
record_lines survey = map (finding_line survey) (runs_of survey.findings) ++ map (way_line survey) survey.loops

-- what is told of a folder that has none of the tables; or of its files, and then of their records
abbrev pub lines_if : {L : Type 0} → Bool → L → List L → List L → List L
lines_if true path files records = path ∷ []
lines_if false path files records = files ++ records

-- the lines of all faults that are found
abbrev pub lines_found : Found → Surveyed → List FaultLine
lines_found found survey =
    lines_if (is_bare found) (path_line found.path_kind) (file_lines (strays_of (pieces_of (parts_of found))) (firsts_of (pieces_of (parts_of found))) found.others.items) (record_lines survey)

-- the fault that the first line tells
abbrev pub first_fault : List FaultLine → Option Fault
first_fault [] = None
first_fault (first ∷ others) = Some first.fault

abbrev pub is_fault : Option Fault → Fault → Bool
is_fault (Some own) f = same_fault own f
is_fault None f = false

-- the first line tells this fault
abbrev pub tells_first : List FaultLine → Fault → Bool
tells_first lines f = is_fault (first_fault lines) f
