use Rattle.std.proofs.Common.{subst, sym}
use Rattle.mrp_main.specs.Ends.{DayEnds}
use Rattle.mrp_words.specs.declared.day.DayCommand.{DayCommand}
use Rattle.mrp_main.proofs.day.make_day.Goals as goal

pub returns-in-Plan : goal.returns-in-Plan
returns-in-Plan g c =
    subst (λ (command : DayCommand). DayEnds command g.R.Read.remaining g.W.Write.contents c.args.input.now c.plan_input.new.input c.args.output.now c.plan_input.new.output c.plan_input.result) (sym c.in-Plan.is)
    c.plan_input.ensures

pub returns-in-Live : goal.returns-in-Live
returns-in-Live g c =
    subst (λ (command : DayCommand). DayEnds command g.R.Read.remaining g.W.Write.contents c.args.input.now c.live_input.new.input c.args.output.now c.live_input.new.output c.live_input.result) (sym c.in-Live.is)
    c.live_input.ensures
