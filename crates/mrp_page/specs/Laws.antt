-- What a row shows.
use Rattle.std.specs.Prelude.{ℕ, List, [], ◌∷◌, codes, flat_map}
use Rattle.mrp_page.specs.Draw.{link_html}
use Rattle.mrp_page.specs.Escaped.{escaped}
use Rattle.mrp_page.specs.Html.{number_tag}
use Rattle.mrp_page.specs.Orders.{order_link}
use Rattle.mrp_page.specs.Refused.{entry_link_html}
use Rattle.mrp_page.specs.Row.{RowView, cell_at}
use Rattle.mrp_page.specs.Template.{Date, DateWhere, Drawn, Mark, Number, Text, Week, Where, has_word, markup_if}

-- a piece of a page: markup, which is no text of a day; a text; a name that links to its item; a number that links to its
-- entry of the history; or what a link to an order begins with, from its number and the name of its item
pub data Piece : Type 0 where
  Markup : List ℕ → Piece
  Escaped : List ℕ → Piece
  Link : List ℕ → Piece
  Entry : List ℕ → Piece
  Order : List ℕ → List ℕ → Piece

-- markup as it is, a text escaped
abbrev pub piece_html : Piece → List ℕ
piece_html (Markup markup) = markup
piece_html (Escaped text) = escaped text
piece_html (Link name) = link_html name
piece_html (Entry number) = entry_link_html number
piece_html (Order number name) = order_link number name

-- the text of a piece
abbrev pub text_of : Piece → List (List ℕ)
text_of (Markup markup) = []
text_of (Escaped text) = text ∷ []
text_of (Link name) = name ∷ []
text_of (Entry number) = number ∷ []
text_of (Order number name) = number ∷ name ∷ []

-- the texts that pieces show
unfoldable pub shown : List Piece → List (List ℕ)
shown pieces = flat_map text_of pieces

-- the pieces that a part of a row is drawn as
abbrev pub part_pieces : RowView → Drawn → List Piece
part_pieces row (Mark markup) = Markup markup ∷ []
part_pieces row (Where column word markup) = Markup (markup_if (has_word column word row) markup) ∷ []
part_pieces row (Text column) = Escaped (cell_at row column) ∷ []
part_pieces row (Number column) = Markup (number_tag (cell_at row column)) ∷ Escaped (cell_at row column) ∷ Markup (codes "</td>") ∷ []
part_pieces row (Week column) = Markup (codes "<td>") ∷ Escaped (cell_at row column) ∷ Markup (codes "</td>") ∷ []
part_pieces row (Date column) = []
part_pieces row (DateWhere column word at) = []

-- the pieces that a row is drawn as
unfoldable pub pieces : RowView → List Drawn → List Piece
pieces row parts = flat_map (part_pieces row) parts
