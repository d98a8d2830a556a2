use Rattle.mrp_report.proofs.lemmas.section.HistoryTexts.{so_far}
use Rattle.mrp_report.proofs.Progress.{IsWritten}
use Rattle.mrp_report.proofs.section.history.write_history.Given as goal

abbrev pub invariant-loop-place : goal.invariant-loop-place
invariant-loop-place g l = IsWritten g.W.Write.contents l.fn.writer l.writer 1000000 l.tries l.page (so_far l.shop.tables l.history.entries l.place)
