use Rattle.std.proofs.Common.{codes, decimal, map, sym}
use Rattle.std.specs.Prelude.{string_bytes}
use Rattle.std.proofs.lemmas.List.{get_or-map, length-map}
use Rattle.mrp_advice.proofs.Pieces.{piece-added}
use Rattle.mrp_advice.proofs.looped.push_other_lines.Goals as goal

pub loop-line-preserved : goal.loop-line-preserved
loop-line-preserved c =
    let lines = c.args.lines.now in
    let k = c.loop-line.line-index in
    piece-added (codes ", ") (map decimal lines) k _ (string_bytes c.args.text.now) (string_bytes c.loop-line.text) (string_bytes c.push_str.new.self) _
    (rw (length-map lines decimal) c.loop-line-test.true) (sym (get_or-map decimal lines k _ _ c.loop-line-test.true)) c.loop-line.invariant c.in_ok-push_str.ensures.bytes c.in_ok-push_number.ensures
