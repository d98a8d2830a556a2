use Rattle.std.proofs.Common.{◌≡◌, ◌∙◌, ◌++◌, Bor, ap, arith, length}
use Rattle.std.specs.Option.{option_copied}
use Rattle.mrp_page.specs.Centres.{centre_html, each_centre}
use Rattle.mrp_page.specs.Row.{RowView}
use Rattle.mrp_page.proofs.Pieces.{flat_map-map, whole}
use Rattle.mrp_page.proofs.centres.put_each_centre.Goals as goal

pub returns : goal.returns
unfolding each_centre
returns c =
    let all : c.loop-leader.leader-index ≡ length c.args.leaders.now = omega arith in
    c.loop-leader.invariant ∙ whole c.args.page.now (λ (r : Bor RowView). centre_html (option_copied c.args.tables) c.args.loads.now r.now) c.args.leaders.now c.loop-leader.leader-index all
    ∙ ap (λ t. c.args.page.now ++ t) (flat_map-map (centre_html (option_copied c.args.tables) c.args.loads.now) (λ (r : Bor RowView). r.now) c.args.leaders.now)
