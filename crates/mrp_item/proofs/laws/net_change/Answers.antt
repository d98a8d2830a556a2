use Rattle.std.proofs.Common.{◌∙◌, sym}
use Rattle.mrp_item.specs.Plan.{outcome_of}
use Rattle.mrp_item.proofs.Outcomes.{outcome_of-unfolds}
use Rattle.mrp_item.proofs.Steps.{still-ranked, untouched}
use Rattle.mrp_item.proofs.laws.net_change.Goals as goal

pub returns-clause-step : goal.returns-clause-step
returns-clause-step c = untouched

pub returns-clause-outcome : goal.returns-clause-outcome
returns-clause-outcome c = λ old new code ranked i same.
    outcome_of-unfolds old code ranked i ∙ untouched old new i (outcome_of old) (outcome_of new) same ∙ sym (outcome_of-unfolds new code (still-ranked old new code same.tables ranked) i)
