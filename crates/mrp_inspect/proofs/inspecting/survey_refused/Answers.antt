use Rattle.mrp_inspect.proofs.inspecting.survey_refused.Goals as goal

pub returns : goal.returns
returns g c = λ bundle opens. c.inspect_refused-told.ensures bundle c.args.sources.now opens c.in_ok-survey.ensures
