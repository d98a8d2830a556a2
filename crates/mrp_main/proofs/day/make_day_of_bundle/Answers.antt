use Rattle.std.proofs.Common.{Ok, subst, sym}
use Rattle.mrp_main.specs.Ends.{BundleEnds}
use Rattle.mrp_words.specs.declared.day.DayCommand.{DayCommand}
use Rattle.mrp_words.specs.declared.day.DayCommand.TheVariants.{Plan, Live}
use Rattle.mrp_main.proofs.DayEnds.{bundle-ends}
use Rattle.mrp_main.proofs.day.make_day_of_bundle.Goals as goal

pub returns-in-Plan : goal.returns-in-Plan
returns-in-Plan g c =
    subst (λ (command : DayCommand). BundleEnds command g.W.Write.contents c.args.output.now c.run_bundle.new.writer (Ok c.args.bundle.items) c.end_of_day.result) (sym c.in-Plan.is)
    (bundle-ends Plan g.W.Write.contents c.args.bundle.items c.args.output.now c.run_bundle.new.writer c.run_bundle.result c.end_of_day.result c.run_bundle.ensures c.end_of_day.ensures)

pub returns-in-Live : goal.returns-in-Live
returns-in-Live g c =
    subst (λ (command : DayCommand). BundleEnds command g.W.Write.contents c.args.output.now c.live_bundle.new.writer (Ok c.args.bundle.items) c.end_of_day-in-Live.result) (sym c.in-Live.is)
    (bundle-ends Live g.W.Write.contents c.args.bundle.items c.args.output.now c.live_bundle.new.writer c.live_bundle.result c.end_of_day-in-Live.result c.live_bundle.ensures c.end_of_day-in-Live.ensures)
