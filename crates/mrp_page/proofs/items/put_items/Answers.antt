use Rattle.std.proofs.Common.{◌≡◌, ◌∙◌, ◌++◌, Bor, ap, arith, length}
use Rattle.mrp_page.specs.Items.{item_html, items_html}
use Rattle.mrp_page.specs.Row.{RowView}
use Rattle.mrp_page.proofs.Pieces.{flat_map-map, whole}
use Rattle.mrp_page.proofs.items.put_items.Goals as goal

pub returns : goal.returns
unfolding items_html
returns c =
    let all : c.loop-leader.leader-index ≡ length c.args.leaders.now = omega arith in
    c.loop-leader.invariant ∙ whole c.args.page.now (λ (r : Bor RowView). item_html c.args.scene.now c.args.rows.now c.args.missed r.now) c.args.leaders.now c.loop-leader.leader-index all
    ∙ ap (λ t. c.args.page.now ++ t) (flat_map-map (item_html c.args.scene.now c.args.rows.now c.args.missed) (λ (r : Bor RowView). r.now) c.args.leaders.now)
