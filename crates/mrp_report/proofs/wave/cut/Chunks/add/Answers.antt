use Rattle.std.proofs.Common.{arith}
use Rattle.mrp_report.specs.wave.Chunks.{row_of}
use Rattle.mrp_report.proofs.lemmas.wave.ChunkTexts.{place-added}
use Rattle.mrp_report.proofs.wave.cut.Chunks.add.Goals as goal

pub loop-place-preserved : goal.loop-place-preserved
loop-place-preserved c = (
  c.loop-place.invariant.0,
  place-added (row_of c.args.self.now) c.args.from c.loop-place.place c.loop-place.page c.add.new.page c.args.page.now (omega arith) c.loop-place.invariant.1 c.in_ok-add.ensures,
)
