-- The pieces of a folder's files: what stands at a file's front, and behind each line that begins with a bracket (profile).
use Rattle.std.specs.Prelude.{ℕ, ◌==◌, ◌&&◌, Bool, false, is_none, List, [], ◌∷◌, ◌++◌, flat_map, take_while, Option, Some, None}
use Rattle.mrp_rows.specs.Bundle.{Section, ends_line, line_text, section_text, sections_in, table_of}
use Rattle.mrp_rows.specs.Joined.{Part}
use Rattle.mrp_rows.specs.Tables.{table_index}
use Rattle.mrp_rows.specs.declared.fault.Table.{Table}
use Rattle.mrp_inspect.specs.declared.lines.Counter.{Counter}
use Rattle.mrp_inspect.specs.Lines.{at_front, counted_all}

-- a piece: in whose file it is; the line that begins it, without its end, and that line's number, or none at the file's front;
-- the table that it begins; and that table's text, and the line in which this begins
pub record FilePiece : Type 0 where
  pub file : Table
  pub head : Option (List ℕ)
  pub line : ℕ
  pub begins : Option Table
  pub text : List ℕ
  pub text_line : ℕ

-- the table that is begun by a line, or by a file itself
abbrev pub table_begun : Table → Option (List ℕ) → Option Table
table_begun file (Some line) = table_of line
table_begun file None = Some file

-- a piece that begins here, with what follows it below
abbrev pub piece_from : Table → Counter → Counter → Option (List ℕ) → List ℕ → FilePiece
piece_from file here below head following = record {
  file = file;
  head = head;
  line = here.line;
  begins = table_begun file head;
  text = section_text following;
  text_line = (counted_all below (take_while ends_line following)).line;
}

-- the pieces that lines begin, from here on in a file
unfoldable pub pieces_behind : Table → Counter → List Section → List FilePiece
pieces_behind file here [] = []
pieces_behind file here (s ∷ sections) =
    piece_from file here (counted_all here s.line) (Some (line_text s.line)) s.text ∷ pieces_behind file (counted_all (counted_all here s.line) s.text) sections

-- a file's text as the bundle has it, with a line feed after it
abbrev pub content_of : List ℕ → List ℕ
content_of bytes = bytes ++ 10 ∷ []

-- the pieces of a file's text
abbrev pub pieces_in : Table → List ℕ → List FilePiece
pieces_in file content = piece_from file at_front at_front None (sections_in content).0 ∷ pieces_behind file (counted_all at_front (sections_in content).0) (sections_in content).1

-- the pieces of a folder's files, in the order in which the bundle has them
abbrev pub pieces_of : List Part → List FilePiece
pieces_of parts = flat_map (λ (part : Part). pieces_in part.0 (content_of part.1)) parts

abbrev pub same_table : Table → Table → Bool
same_table a b = table_index a == table_index b

abbrev pub is_table : Option Table → Table → Bool
is_table (Some own) table = same_table own table
is_table None table = false

-- a piece begins a table
abbrev pub begins : Table → FilePiece → Bool
begins table piece = is_table piece.begins table

-- a piece is the front of a table's own file
abbrev pub is_own : Table → FilePiece → Bool
is_own table piece = is_none piece.head && begins table piece
