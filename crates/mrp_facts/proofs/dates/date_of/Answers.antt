use Rattle.std.proofs.Common.{◌∙◌, Bool, ap}
use Rattle.std.proofs.lemmas.Result.{IfOk-weaker}
use Rattle.mrp_facts.specs.Dates.{date_text}
use Rattle.mrp_facts.proofs.dates.date_of.Goals as goal

pub returns : goal.returns
returns c =
    IfOk-weaker c.date_text.result _ _
    (λ text is. record { date = c.first_day.result; day = c.first_day.ensures.day; shown = is ∙ ap (λ (years : Bool). date_text years c.first_day.result) c.has_years.ensures }) c.date_text.ensures
