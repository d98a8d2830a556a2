use Rattle.std.proofs.Common.{◌∙◌, ◌++◌, ℕ, List, ap, map, sym}
use Rattle.std.specs.Prelude.{filter_map}
use Rattle.std.proofs.lemmas.Result.{on_ok_weaker}
use Rattle.mrp_advice.specs.Lines.{survey_lines}
use Rattle.mrp_advice.specs.Listing.{Listed, listed_in, with_lines}
use Rattle.mrp_advice.proofs.Listings.{lines-both}
use Rattle.mrp_words.specs.Folder.{all_tables}
use Rattle.mrp_inspect.specs.Words.{missing_of, stray_text}
use Rattle.mrp_inspect.proofs.inspecting.push_all.Goals as goal

pub returns : goal.returns
returns g c =
    let old : Listed = listed_in c.args.lines.now in
    let files : List (List ℕ) = map stray_text c.args.strays.now ++ filter_map (missing_of c.args.firsts.now c.args.others.now) all_tables in
    let records : List (List ℕ) = survey_lines c.args.survey.now in
    on_ok_weaker c.push_survey.result (λ e. e ∙ ap (λ (l : Listed). with_lines l records) c.in_ok-push_files.ensures ∙ sym (lines-both old files records)) c.push_survey.ensures
