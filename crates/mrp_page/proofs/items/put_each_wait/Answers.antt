use Rattle.std.proofs.Common.{◌≡◌, ◌∙◌, ◌++◌, Bor, ap, arith, length}
use Rattle.mrp_page.specs.Items.{wait_html}
use Rattle.mrp_page.specs.Row.{RowView}
use Rattle.mrp_page.proofs.Pieces.{flat_map-map, whole}
use Rattle.mrp_page.proofs.items.put_each_wait.Goals as goal

pub returns : goal.returns
returns c =
    let all : c.loop-peg.peg-index ≡ length c.args.pegs.now = omega arith in
    c.loop-peg.invariant ∙ whole c.args.page.now (λ (r : Bor RowView). wait_html c.args.scene.now r.now) c.args.pegs.now c.loop-peg.peg-index all
    ∙ ap (λ t. c.args.page.now ++ t) (flat_map-map (wait_html c.args.scene.now) (λ (r : Bor RowView). r.now) c.args.pegs.now)
