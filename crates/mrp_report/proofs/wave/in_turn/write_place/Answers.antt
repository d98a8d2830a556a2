use Rattle.std.proofs.Common.{◌≡◌, ◌++◌, subst, rules}
use Rattle.mrp_report.specs.section.Sections.{rows_of}
use Rattle.mrp_report.specs.Written.{Passes}
use Rattle.mrp_report.specs.declared.section.Section.{Section}
use Rattle.mrp_report.specs.declared.section.Section.TheVariants as section
use Rattle.mrp_report.specs.wave.Chunks.{row_of}
use Rattle.mrp_report.proofs.Progress.{ends-at_once}
use Rattle.mrp_report.proofs.wave.in_turn.write_place.Goals as goal

pub returns-in-Pegs : goal.returns-in-Pegs
returns-in-Pegs g c =
    let chunks = c.args.chunks.now in
    let pegs : section.Pegs ≡ chunks.section = search rules in
    let Ended : Section → Type 0 = λ own. Passes g.W.Write.contents c.args.writer.now c.write_pegged.new.writer (c.args.page.now ++ rows_of chunks.readings.now.plan.now.inputs own c.args.place) c.write_pegged.new.page c.args.tries.now c.write_pegged.new.tries c.write_pegged.result in
    subst Ended pegs c.write_pegged.ensures

pub returns-in_err-add : goal.returns-in_err-add
returns-in_err-add g c = ends-at_once g.W.Write.contents c.args.writer.now c.args.tries.now (c.args.page.now ++ row_of c.args.chunks.now c.args.place) c.from_residual.result (search rules)
