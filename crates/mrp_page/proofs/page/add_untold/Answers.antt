use Rattle.std.proofs.Common.{◌≡◌, ◌∙◌, ◌++◌, List, Bor, ap, arith, length, map}
use Rattle.mrp_page.specs.Page.{untold_rows}
use Rattle.mrp_page.specs.Row.{RowView}
use Rattle.mrp_page.proofs.Pieces.{flat_map-map, whole}
use Rattle.mrp_page.proofs.page.add_untold.Goals as goal

pub returns : goal.returns
returns c =
    let all : c.loop-leader.leader-index ≡ length c.args.leaders.now = omega arith in
    let before : List RowView = map (λ (r : Bor RowView). r.now) c.args.rows.now.items in
    c.loop-leader.invariant ∙ whole before (λ (r : Bor RowView). untold_rows c.args.messages.now r.now) c.args.leaders.now c.loop-leader.leader-index all
    ∙ ap (λ t. before ++ t) (flat_map-map (untold_rows c.args.messages.now) (λ (r : Bor RowView). r.now) c.args.leaders.now)
