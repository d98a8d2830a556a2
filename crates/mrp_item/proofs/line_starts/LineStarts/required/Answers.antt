use Rattle.std.proofs.Common.{◌≡◌, ◌∙◌, ◌*◌, ◌+◌, ◌<◌, length, get_or, sym, ap, arith}
use Rattle.std.proofs.lemmas.Grind.{get_or_default_zero}
use Rattle.mrp_qty.specs.Quantity.{quantity_of}
use Rattle.mrp_phase.proofs.WeekRows.{in_week_next}
use Rattle.mrp_item.specs.DependentDemand.{LineStarts, required_in}
use Rattle.mrp_item.proofs.line_starts.LineStarts.required.Goals as goal

pub returns : goal.returns
returns c =
    let line = c.self.inside in
    let started = line.started.now in
    let k = c.args.before in
    let start = c.index-started-before.result in
    let there : k < length started = omega (arith, c.requires, ap (λ (x : LineStarts). length x.started) c.self.view_is) in
    let is : start ≡ get_or started k 0 = c.index-started-before.is ∙ get_or_default_zero started k start there in
    c.times.ensures
    ∙ ap (λ n. quantity_of (n * line.per)) (is ∙ sym (in_week_next started k))
    ∙ ap (λ (x : LineStarts). quantity_of (required_in (k + 1) x)) c.self.view_is
