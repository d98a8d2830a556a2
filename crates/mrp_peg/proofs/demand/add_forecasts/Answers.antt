use Rattle.std.proofs.Common.{◌∙◌, ◌++◌, ◌∷◌, [], ◌+◌, ◌<◌, ℕ, length, ap, cond, arith}
use Rattle.std.specs.Prelude.{nat_lt}
use Rattle.mrp_peg.specs.declared.peg.NeedKind.TheVariants.{Forecast}
use Rattle.mrp_peg.specs.Rows.{forecast_requirements}
use Rattle.mrp_peg.proofs.Loops.{pushed_week, week_next}
use Rattle.mrp_peg.proofs.demand.add_forecasts.Goals as goal

pub loop-place-preserved : goal.loop-place-preserved
loop-place-preserved c =
    let k = c.loop-place.place in
    let there : k < length c.args.left.now = omega (arith, c.loop-place-test.true, c.requires) in
    let at = week_next c.args.left.now c.from.result k c.index-left-from.result c.from.ensures there c.index-left-from.is in
    let told = c.in_ok-add_forecast.ensures
    ∙ ap (λ (q : ℕ). c.loop-place.needs.items ++ cond (nat_lt 0 q) (record { need = record { item = c.args.item; week = k + 1; kind = Forecast }; quantity = q } ∷ []) []) at in
    pushed_week (forecast_requirements c.args.item c.args.left.now) c.args.needs.now.items c.loop-place.needs.items c.add_forecast.new.needs.items k c.loop-place.invariant told
