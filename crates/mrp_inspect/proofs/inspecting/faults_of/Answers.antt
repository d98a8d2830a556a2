use Rattle.std.proofs.Common.{◌≡◌, ◌∙◌, List, ap}
use Rattle.std.proofs.lemmas.Result.{IfOk-weaker}
use Rattle.mrp_advice.specs.Listing.{Listed, listed_in, none_listed, with_lines}
use Rattle.mrp_inspect.specs.Faults.{FaultLine, lines_found, texts_of}
use Rattle.mrp_inspect.specs.Listed.{remark_text, told_text, unless_told}
use Rattle.mrp_inspect.proofs.Listing.{leads, led-text}
use Rattle.mrp_inspect.proofs.inspecting.faults_of.Goals as goal

pub returns : goal.returns
returns g c = λ sources surveys.
    let lines : List FaultLine = lines_found c.args.found.now c.args.survey.now in
    let fault = c.args.fault.now in
    let own = leads fault lines in
    let none : listed_in c.new-lines.result ≡ none_listed (remark_text fault) = c.new-lines.ensures ∙ ap none_listed c.in_ok-remark.ensures in
    IfOk-weaker c.told_texts.result _ _
    (λ texts is. record {
      survey = c.args.survey.now;
      surveys = surveys;
      first = own.first;
      others = own.others;
      lines = own.are;
      first_tells = own.tells;
      text_is = is
          ∙ ap told_text
          (c.in_ok-push_told.ensures
          ∙ ap (λ (l : Listed). with_lines l (texts_of lines)) (c.in_ok-push_unless_told.ensures ∙ (λ i. with_lines (none i) (texts_of (unless_told (c.tells_first-told.ensures i) fault)))))
          ∙ led-text fault lines own;
    })
    c.told_texts.ensures
