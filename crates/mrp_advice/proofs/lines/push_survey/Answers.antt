use Rattle.std.proofs.Common.{◌∙◌, List, ap, map, sym}
use Rattle.std.proofs.lemmas.Result.{on_ok_weaker}
use Rattle.mrp_survey.specs.Surveyed.{LoopTold}
use Rattle.mrp_advice.specs.Lines.{fault_lines}
use Rattle.mrp_advice.specs.Listing.{Listed, listed_in, with_lines}
use Rattle.mrp_advice.specs.Loops.{loop_line}
use Rattle.mrp_advice.proofs.Listings.{lines-both}
use Rattle.mrp_advice.proofs.lines.push_survey.Goals as goal

pub returns : goal.returns
returns g c =
    let survey = c.args.survey.now in
    let old = listed_in c.args.lines.now in
    on_ok_weaker c.push_loops.result
    (λ e. e ∙ ap (λ (l : Listed). with_lines l (map loop_line c.loops.result.now)) c.in_ok-push_faults.ensures
    ∙ ap (λ (found : List LoopTold). with_lines (with_lines old (fault_lines survey)) (map loop_line found)) c.loops.ensures
    ∙ sym (lines-both old (fault_lines survey) (map loop_line survey.loops)))
    c.push_loops.ensures
