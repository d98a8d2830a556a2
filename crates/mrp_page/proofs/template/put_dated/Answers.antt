use Rattle.std.proofs.Common.{◌≡◌, ◌∙◌, ◌++◌, ℕ, List, ap, arith, length}
use Rattle.std.specs.Option.{option_copied}
use Rattle.mrp_page.specs.Template.{dated_html, drawn_of, part_html}
use Rattle.mrp_page.proofs.Pieces.{flat_map-map, whole}
use Rattle.mrp_page.proofs.template.put_dated.Goals as goal

pub returns : goal.returns
unfolding dated_html
returns c =
    let all : c.loop-part.part-index ≡ length c.args.parts.now = omega arith in
    c.loop-part.invariant ∙ whole c.args.page.now (λ part. part_html (option_copied c.args.tables) c.args.row.now (drawn_of part)) c.args.parts.now c.loop-part.part-index all
    ∙ ap (λ (t : List ℕ). c.args.page.now ++ t) (flat_map-map (part_html (option_copied c.args.tables) c.args.row.now) drawn_of c.args.parts.now)
