use Rattle.mrp_words.specs.declared.day.DayCommand.TheVariants.{Plan}
use Rattle.mrp_main.proofs.DayEnds.{day-ends}
use Rattle.mrp_main.proofs.day.plan_input.Goals as goal

pub returns : goal.returns
returns g c =
    day-ends Plan g.R.Read.remaining g.W.Write.contents c.args.input.now c.run_day-day.new.reader c.args.output.now c.run_day-day.new.writer c.run_day-day.result c.end_of_day.result c.run_day-day.ensures c.end_of_day.ensures
