-- Lines that begin with a bracket and begin no table, and where each table's text stands (profile).
use Rattle.std.specs.Prelude.{ℕ, ◌≡◌, ◌+◌, ◌==◌, if◌then◌else◌, Bool, is_none, unwrap_or, List, [], ◌∷◌, ◌++◌, map, position, Option, Some, None, option_and_then, option_map}
use Rattle.std.specs.List.{list_any, slice_get, slice_index_or}
use Rattle.std.specs.Option.{option_or, option_to_list}
use Rattle.mrp_rows.specs.Tables.{table_index}
use Rattle.mrp_rows.specs.declared.fault.Table.{Table}
use Rattle.mrp_survey.specs.declared.source.Source.{Source}
use Rattle.mrp_words.specs.Folder.{all_tables}
use Rattle.mrp_inspect.specs.Pieces.{FilePiece, begins, is_own, same_table}
use Rattle.mrp_inspect.specs.declared.stray.Reason.{Reason}
use Rattle.mrp_inspect.specs.declared.stray.Reason.TheVariants as reason

-- the place of the first piece that begins a table
abbrev pub first_of : List FilePiece → Table → Option ℕ
first_of pieces table = position (begins table) pieces

-- of each table, in the order of the tables
abbrev pub firsts_of : List FilePiece → List (Option ℕ)
firsts_of pieces = map (first_of pieces) all_tables

abbrev pub first_among : List (Option ℕ) → Table → Option ℕ
first_among firsts table = slice_index_or firsts (table_index table) None

-- a table has a file of its own
abbrev pub has_file : List FilePiece → Table → Bool
has_file pieces table = list_any (is_own table) pieces

-- a line that is told: in whose file, its number, the line, and why
pub record StrayLine : Type 0 where
  pub file : Table
  pub number : ℕ
  pub text : List ℕ
  pub reason : Reason

-- the line that begins a piece, for a reason
abbrev pub stray : FilePiece → Reason → StrayLine
stray piece reason = record { file = piece.file; number = piece.line; text = unwrap_or piece.head []; reason = reason }

-- why a line is told whose table an earlier piece begins
abbrev pub repeated : Bool → Table → FilePiece → Reason
repeated filed table first = if filed then reason.OfFile table else reason.Again table first.file first.line

-- what is told of a piece whose table an earlier one begins: the earlier line, where the piece is a file's front
abbrev pub told_again : List FilePiece → Table → FilePiece → FilePiece → StrayLine
told_again pieces table first piece =
    if is_none piece.head then stray first (reason.OfFile table) else stray piece (repeated (has_file pieces table) table first)

abbrev pub again : List FilePiece → ℕ → Table → FilePiece → Option ℕ → Option StrayLine
again pieces place table piece (Some first) = if first == place then None else option_map (λ other. told_again pieces table other piece) (slice_get pieces first)
again pieces place table piece None = None

-- what is told of the piece at a place
abbrev pub told_of : List FilePiece → ℕ → FilePiece → Option Table → Option StrayLine
told_of pieces place piece (Some table) = again pieces place table piece (first_among (firsts_of pieces) table)
told_of pieces place piece None = Some (stray piece (reason.NoTable place))

-- what is told of the remaining pieces
unfoldable pub strays_from : List FilePiece → ℕ → List FilePiece → List StrayLine
strays_from pieces place [] = []
strays_from pieces place (piece ∷ rest) = option_to_list (told_of pieces place piece piece.begins) ++ strays_from pieces (place + 1) rest

-- all lines that are told
abbrev pub strays_of : List FilePiece → List StrayLine
strays_of pieces = strays_from pieces 0 pieces

-- a line of a table's file is told
abbrev pub has_stray : List StrayLine → Table → Bool
has_stray strays file = list_any (λ s. same_table s.file file) strays

-- a text, in whose file it is, and the line in which it begins
pub record TextAt : Type 0 where
  pub file : Table
  pub line : ℕ
  pub text : List ℕ

-- the place of the piece from which a table is read: its own file's front, or else the first that begins it
abbrev pub place_of : List FilePiece → Table → Option ℕ
place_of pieces table = option_or (position (is_own table) pieces) (first_among (firsts_of pieces) table)

-- a piece's text, unless a line of its file is told
abbrev pub text_of : List StrayLine → FilePiece → Option TextAt
text_of strays piece = if has_stray strays piece.file then None else Some (record { file = piece.file; line = piece.text_line; text = piece.text })

-- the text from which a table is read
abbrev pub text_from : List FilePiece → Table → Option TextAt
text_from pieces table = option_and_then (text_of (strays_of pieces)) (option_and_then (slice_get pieces) (place_of pieces table))

abbrev pub text_in : Source → TextAt
text_in source = record { file = source.file; line = source.line; text = source.text.now }

-- these are the texts of the tables, in the order of the tables
abbrev pub AreSources : List FilePiece → List (Option Source) → Type 0
AreSources pieces sources = map (option_map text_in) sources ≡ map (text_from pieces) all_tables
