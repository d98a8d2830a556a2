use Rattle.std.proofs.Common.{◌∙◌, ◌++◌, ap, map}
use Rattle.std.specs.Prelude.{filter_map}
use Rattle.std.proofs.lemmas.Result.{on_ok_weaker}
use Rattle.mrp_advice.specs.Lines.{survey_lines}
use Rattle.mrp_advice.specs.Listing.{listed_in, with_lines}
use Rattle.mrp_words.specs.Folder.{all_tables}
use Rattle.mrp_inspect.specs.Faults.{lines_if}
use Rattle.mrp_inspect.specs.Words.{missing_of, path_text, stray_text}
use Rattle.mrp_inspect.proofs.FirstLines.{texts-found}
use Rattle.mrp_inspect.proofs.inspecting.push_told.Goals as goal

pub returns : goal.returns
returns g c =
    let found = c.args.found.now in
    let survey = c.args.survey.now in
    on_ok_weaker c.push_if.result
    (λ is. is
    ∙ (λ i. with_lines (listed_in c.args.lines.now) (lines_if (c.is_bare-bare.ensures i) (path_text found.path_kind) (map stray_text c.args.strays.now ++ filter_map (missing_of c.args.firsts.now (c.as_slice-others.ensures.value i)) all_tables) (survey_lines survey)))
    ∙ ap (with_lines (listed_in c.args.lines.now)) (texts-found found survey c.args.strays.now c.args.firsts.now c.requires.strays c.requires.firsts))
    c.push_if.ensures
