use Rattle.mrp_warn.specs.Calendar.{AreOfWeeks, closed_weeks}
use Rattle.mrp_warn.proofs.calendar.week_warnings.Given as goal

abbrev pub invariant-loop-before : goal.invariant-loop-before
invariant-loop-before l = AreOfWeeks l.calendar l.place (closed_weeks l.calendar l.before) l.own.items
