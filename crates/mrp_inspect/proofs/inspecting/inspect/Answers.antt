use Rattle.std.proofs.Common.{◌≡◌, ◌∙◌, ℕ, List, Bor, Vec, ap, flat_map, map, sym}
use Rattle.std.proofs.lemmas.List.Folds.{flat_map-map}
use Rattle.std.specs.declared.alloc.Global.{Global}
use Rattle.mrp_rows.specs.declared.fault.Table.{Table}
use Rattle.mrp_rows.specs.Joined.{Part}
use Rattle.mrp_inspect.specs.Pieces.{FilePiece, content_of, pieces_in, pieces_of}
use Rattle.mrp_inspect.proofs.FileTexts.{part_of}
use Rattle.mrp_inspect.proofs.inspecting.inspect.Goals as goal

abbrev pieces_of_part : Part → List FilePiece
pieces_of_part part = pieces_in part.0 part.1

abbrev pieces_of_file : Part → List FilePiece
pieces_of_file part = pieces_in part.0 (content_of part.1)

abbrev lent_of : Table × Bor (List ℕ) → Part
lent_of content = (content.0, content.1.now)

abbrev held_of : Table × Vec ℕ Global → Part
held_of part = (part.0, content_of part.1.items)

pieces-are : (contents : List (Table × Bor (List ℕ))) (tables : List (Table × Vec ℕ Global)) → map lent_of contents ≡ map held_of tables → flat_map (λ (content : Table × Bor (List ℕ)). pieces_in content.0 content.1.now) contents ≡ pieces_of (map part_of tables)
pieces-are contents tables are =
    sym (flat_map-map pieces_of_part lent_of contents) ∙ ap (flat_map pieces_of_part) are ∙ flat_map-map pieces_of_part held_of tables ∙ sym (flat_map-map pieces_of_file part_of tables)

pub inspect_pieces-requires-clause-pieces : goal.inspect_pieces-requires-clause-pieces
inspect_pieces-requires-clause-pieces g c = λ _ _.
    let contents : List (Table × Bor (List ℕ)) = c.in_ok-contents.contents.items in
    let tables : List (Table × Vec ℕ Global) = c.as_slice-tables.result.now in
    c.as_slice-4.ensures.value ∙ c.in_ok-pieces.ensures
    ∙ ap (flat_map (λ (content : Table × Bor (List ℕ)). pieces_in content.0 content.1.now)) c.as_slice-2.ensures.value
    ∙ pieces-are contents tables c.in_ok-contents.ensures
    ∙ ap (λ (ts : List (Table × Vec ℕ Global)). pieces_of (map part_of ts)) c.as_slice-tables.ensures.value
