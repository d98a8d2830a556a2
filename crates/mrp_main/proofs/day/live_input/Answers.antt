use Rattle.mrp_words.specs.declared.day.DayCommand.TheVariants.{Live}
use Rattle.mrp_main.proofs.DayEnds.{day-ends}
use Rattle.mrp_main.proofs.day.live_input.Goals as goal

pub returns : goal.returns
returns g c =
    day-ends Live g.R.Read.remaining g.W.Write.contents c.args.input.now c.live_day-day.new.reader c.args.output.now c.live_day-day.new.writer c.live_day-day.result c.end_of_day.result c.live_day-day.ensures c.end_of_day.ensures
