use Rattle.std.proofs.Common.{rules}
use Rattle.mrp_script.specs.Script.{AnswersScript}
use Rattle.mrp_engine.proofs.lemmas.day.DayMade.{planned, unopened, unplanned}
use Rattle.mrp_engine.proofs.day.run.run_bundle.Goals as goal

pub returns-in_err-shop : goal.returns-in_err-shop
returns-in_err-shop g c =
    unopened AnswersScript g.W.Write.contents c.args.bundle c.deref.result.now c.args.writer.now c.in_err-shop.field-0.0 c.from_residual.result c.requires.bundle
    c.deref.ensures.value c.in_err-shop.ensures (search rules)

pub returns-in_err-day : goal.returns-in_err-day
returns-in_err-day g c =
    unplanned AnswersScript g.W.Write.contents c.args.bundle c.deref.result.now c.in_ok-shop.shop.tables c.args.writer.now c.in_err-day.field-0.0 c.from_residual-in_err-day.result c.requires.bundle
    c.deref.ensures.value c.in_ok-shop.ensures c.in_err-day.ensures (search rules)

pub returns : goal.returns
returns g c =
    planned AnswersScript g.W.Write.contents c.args.bundle c.deref.result.now c.in_ok-shop.shop.tables c.in_ok-day.day c.args.writer.now c.write_day.new.writer c.write_day.result c.requires.bundle
    c.deref.ensures.value c.in_ok-shop.ensures c.in_ok-day.ensures c.write_day.ensures
