use Rattle.std.proofs.Common.{◌∙◌, sym}
use Rattle.mrp_survey.proofs.LikeNames.{firsts-next, firsts-past}
use Rattle.mrp_survey.proofs.likes.firsts_of.Goals as goal
use Rattle.mrp_survey.proofs.likes.firsts_of.Goals.{in-Some+in_ok-add_first, in_default}

pub loop-place-preserved : goal.loop-place-preserved
loop-place-preserved c =
    let names = c.args.known.now in
    let place = c.loop-place.place in
    elim c.match-name_at.branch [
      | in-Some+in_ok-add_first w ↦ rw w.firsts-is (firsts-next names c.loop-place.firsts.entries w.add_first.new.firsts.entries place w.in-Some.name (sym c.name_at.ensures ∙ w.in-Some.is) w.in_ok-add_first.ensures c.loop-place.invariant)
      | in_default w ↦ rw w.firsts-is (firsts-past names c.loop-place.firsts.entries place (rw c.len-place-end.ensures at c.loop-place-test.true) (sym c.name_at.ensures ∙ w.in_default.is))
    ]
