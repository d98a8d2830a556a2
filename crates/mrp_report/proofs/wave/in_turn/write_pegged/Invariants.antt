use Rattle.std.proofs.Common.{◌++◌}
use Rattle.mrp_item.specs.Plan.{outcome_of, plan_in}
use Rattle.mrp_report.specs.section.PegRows.{count_left, rows_left}
use Rattle.mrp_report.specs.ReportText.{pegged_text}
use Rattle.mrp_report.proofs.lemmas.section.PegsWritten.{IsWrittenTo}
use Rattle.mrp_report.proofs.wave.in_turn.write_pegged.Given as goal

abbrev pub invariant-loop-rows : goal.invariant-loop-rows
invariant-loop-rows g l = IsWrittenTo g.W.Write.contents l.fn.writer l.writer l.fn.tries l.tries l.page (rows_left l.rows) (l.fn.page ++ pegged_text l.fn.readings.plan.now.inputs l.item (plan_in (outcome_of l.fn.readings.plan.now.inputs l.item)))

abbrev pub decreases-loop-rows : goal.decreases-loop-rows
decreases-loop-rows g l = count_left l.rows
