use Rattle.std.proofs.Common.{◌≡◌, codes, rules, true}
use Rattle.mrp_page.specs.Template.{has_word}
use Rattle.mrp_page.proofs.PegMaps.{pushed, wait-noted}
use Rattle.mrp_page.proofs.pegs.note_wait.Goals as goal

pub returns-in-Ok : goal.returns-in-Ok
returns-in-Ok c =
    let is : has_word 2 (codes "parent") c.args.peg.now ≡ true = search rules in
    wait-noted c.args.waits.now c.remove.new.self c.insert.new.self c.cell-parent.result.now c.args.peg c.push.new.self is c.cell-parent.ensures c.remove.ensures.updates c.in-Ok.ensures.updates
    (pushed c.args.waits.now c.cell-parent.result.now c.remove.result c.new.result c.unwrap_or-pegs.result c.push.new.self c.args.peg c.remove.ensures.value c.new.ensures.items c.unwrap_or-pegs.ensures c.in_ok-push.ensures.items)
