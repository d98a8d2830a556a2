use Rattle.std.proofs.Common.{◌≡◌, ◌∙◌, ℕ, Option, ap, codes, rules, true, unwrap_or}
use Rattle.mrp_page.specs.Template.{has_word}
use Rattle.mrp_page.proofs.PegMaps.{open-noted}
use Rattle.mrp_page.proofs.pegs.note_open.Goals as goal

pub returns-in-Ok : goal.returns-in-Ok
returns-in-Ok c =
    let is : has_word 6 (codes "open") c.args.peg.now ≡ true = search rules in
    open-noted c.args.pieces.now c.insert.new.self c.args.peg.now c.name.result.now c.cell.result.now c.unwrap_or-total.result c.with_pieces.result is c.name.ensures c.cell.ensures
    (c.unwrap_or-total.ensures ∙ ap (λ (o : Option ℕ). unwrap_or o 0) (c.copied.ensures ∙ c.get.ensures.value)) c.with_pieces.ensures c.in-Ok.ensures.updates
