use Rattle.std.proofs.Common.{◌≡◌, ◌∙◌, ◌++◌, ℕ, List, Bor, ap, arith, length}
use Rattle.mrp_page.specs.Row.{RowView}
use Rattle.mrp_page.proofs.Pieces.{flat_map-map, whole}
use Rattle.mrp_page.proofs.folded.put_lines.Goals as goal

pub returns : goal.returns
returns g c =
    let line = (g.L.Lines.drawn c.args.lines.now).line in
    let all : c.loop-row.row-index ≡ length c.args.rows.now = omega arith in
    c.loop-row.invariant ∙ whole c.args.page.now (λ (r : Bor RowView). line r.now) c.args.rows.now c.loop-row.row-index all
    ∙ ap (λ (t : List ℕ). c.args.page.now ++ t) (flat_map-map line (λ (r : Bor RowView). r.now) c.args.rows.now)
