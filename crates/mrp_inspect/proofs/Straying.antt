-- Lines that are told, piece by piece.
use Rattle.std.proofs.Common.{◌≡◌, ◌∙◌, ℕ, ◌+◌, ◌<◌, ◌≤◌, List, ◌∷◌, ◌++◌, Option, append-nil, append_assoc, ap, drop, get_or, length, sym}
use Rattle.std.specs.Option.{option_to_list}
use Rattle.std.proofs.lemmas.List.{drop_all, drop_more}
use Rattle.mrp_inspect.specs.Pieces.{FilePiece}
use Rattle.mrp_inspect.specs.Strays.{StrayLine, strays_from, told_of}

-- one piece more
pub stray-next : (pieces : List FilePiece) (place : ℕ) (piece : FilePiece) (told : Option StrayLine) (now more whole : List StrayLine) → place < length pieces → piece ≡ get_or pieces place piece
    → told ≡ told_of pieces place piece piece.begins → more ≡ now ++ option_to_list told → whole ≡ now ++ strays_from pieces place (drop place pieces) → whole ≡ more ++ strays_from pieces (place + 1) (drop (place + 1) pieces)
unfolding strays_from
stray-next pieces place piece told now more whole within is told_is grown so_far =
    let here : drop place pieces ≡ piece ∷ drop (place + 1) pieces = drop_more pieces place piece within ∙ ap (λ (p : FilePiece). p ∷ drop (place + 1) pieces) (sym is) in
    let behind : List StrayLine = strays_from pieces (place + 1) (drop (place + 1) pieces) in
    so_far ∙ ap (λ (ps : List FilePiece). now ++ strays_from pieces place ps) here
    ∙ ap (λ (o : Option StrayLine). now ++ (option_to_list o ++ behind)) (sym told_is)
    ∙ sym (append_assoc now (option_to_list told) behind)
    ∙ ap (λ (ss : List StrayLine). ss ++ behind) (sym grown)

-- no piece more
pub stray-end : (pieces : List FilePiece) (place : ℕ) (now whole : List StrayLine) → length pieces ≤ place → whole ≡ now ++ strays_from pieces place (drop place pieces) → now ≡ whole
unfolding strays_from
stray-end pieces place now whole past so_far =
    sym (so_far ∙ ap (λ (ps : List FilePiece). now ++ strays_from pieces place ps) (drop_all place pieces past) ∙ append-nil now)
