use Rattle.std.proofs.Common.{◌<◌, map}
use Rattle.std.proofs.lemmas.List.Elements.{All-map, All-same, All-weaker}
use Rattle.mrp_loops.specs.declared.line.Line.{Line}
use Rattle.mrp_loops.specs.Links.{turned}
use Rattle.mrp_loops.proofs.links.Links.down.Goals as goal

pub of-requires : goal.of-requires
of-requires c =
    let P : Line → Type 0 = λ line. (line.parent < c.args.count) × (line.component < c.args.count) in
    All-same P c.in_ok-turned_lines.field-0.items (map turned c.args.lines.now) c.in_ok-turned_lines.ensures
    (All-map P turned c.args.lines.now (All-weaker P (λ line. P (turned line)) (λ line (above, below). (below, above)) c.args.lines.now c.requires))
