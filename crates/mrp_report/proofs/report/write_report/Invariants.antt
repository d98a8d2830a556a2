use Rattle.std.proofs.Common.{length}
use Rattle.mrp_report.specs.section.RunText.{run_text}
use Rattle.mrp_report.specs.section.Sections.{section_text}
use Rattle.mrp_report.proofs.lemmas.section.ListTexts.{so_far}
use Rattle.mrp_report.proofs.Progress.{IsWritten}
use Rattle.mrp_report.proofs.lemmas.section.SectionTexts.{in_order}
use Rattle.mrp_report.proofs.report.write_report.Given as goal

abbrev pub invariant-loop-section : goal.invariant-loop-section
invariant-loop-section g l =
    IsWritten g.W.Write.contents l.fn.writer l.writer 1000000 l.tries l.page
    (so_far (run_text l.plan.inputs.front (length l.plan.inputs.standing)) (section_text l.plan.inputs) in_order l.section-index)
