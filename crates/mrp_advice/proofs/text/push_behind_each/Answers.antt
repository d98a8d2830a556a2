use Rattle.std.proofs.Common.{Bor, List, ℕ, map, sym}
use Rattle.std.specs.Prelude.{string_bytes}
use Rattle.std.proofs.lemmas.List.{get_or-map, length-map}
use Rattle.mrp_advice.proofs.Pieces.{piece-added}
use Rattle.mrp_advice.proofs.text.push_behind_each.Goals as goal

pub loop-piece-preserved : goal.loop-piece-preserved
loop-piece-preserved c =
    let now = λ (p : Bor (List ℕ)). p.now in
    let pieces = c.args.pieces.now in
    let k = c.loop-piece.piece-index in
    piece-added c.args.separator.now (map now pieces) k _ (string_bytes c.args.text.now) (string_bytes c.loop-piece.text) (string_bytes c.push_str.new.self) _
    (rw (length-map pieces now) c.loop-piece-test.true) (sym (get_or-map now pieces k _ _ c.loop-piece-test.true)) c.loop-piece.invariant c.in_ok-push_str.ensures.bytes c.in_ok-push_str-2.ensures.bytes
