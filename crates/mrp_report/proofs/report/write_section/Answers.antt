use Rattle.std.proofs.Common.{◌++◌, List, ℕ, subst, rules}
use Rattle.mrp_day.specs.Sections.{head_of}
use Rattle.mrp_report.specs.wave.Chunks.{rows_in, text_of}
use Rattle.mrp_report.specs.section.Sections.{of_day}
use Rattle.mrp_report.specs.Written.{Passes}
use Rattle.mrp_report.proofs.lemmas.wave.PlacesWritten.{head-behind}
use Rattle.mrp_report.proofs.Progress.{ends-at_once}
use Rattle.mrp_report.proofs.report.write_section.Goals as goal

pub returns : goal.returns
returns g c =
    subst (λ (t : List ℕ). Passes g.W.Write.contents c.args.writer.now c.write_rows.new.writer t c.write_rows.new.page c.args.tries.now c.write_rows.new.tries c.write_rows.result)
    (head-behind c.args.page.now c.begin.new.page (head_of (of_day c.args.chunks.now.section)) (rows_in c.args.chunks.now) c.in_ok-begin.ensures)
    c.write_rows.ensures

pub returns-in_err-begin : goal.returns-in_err-begin
returns-in_err-begin g c = ends-at_once g.W.Write.contents c.args.writer.now c.args.tries.now (c.args.page.now ++ text_of c.args.chunks.now) c.from_residual.result (search rules)
