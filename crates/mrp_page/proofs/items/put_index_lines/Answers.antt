use Rattle.std.proofs.Common.{◌≡◌, ◌∙◌, ◌++◌, Bor, ap, arith, length}
use Rattle.mrp_page.specs.Items.{index_line}
use Rattle.mrp_page.specs.Row.{RowView}
use Rattle.mrp_page.proofs.Pieces.{flat_map-map, whole}
use Rattle.mrp_page.proofs.items.put_index_lines.Goals as goal

pub returns : goal.returns
returns c =
    let all : c.loop-leader.leader-index ≡ length c.args.leaders.now = omega arith in
    c.loop-leader.invariant ∙ whole c.args.page.now (λ (r : Bor RowView). index_line c.args.messages.now r.now) c.args.leaders.now c.loop-leader.leader-index all
    ∙ ap (λ t. c.args.page.now ++ t) (flat_map-map (index_line c.args.messages.now) (λ (r : Bor RowView). r.now) c.args.leaders.now)
