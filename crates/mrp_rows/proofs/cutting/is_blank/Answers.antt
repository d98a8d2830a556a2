use Rattle.std.proofs.Common.{refl, sym, ◌∙◌}
use Rattle.mrp_rows.proofs.CellCuts.{blank-ends, blank-last, blank-next}
use Rattle.mrp_rows.proofs.cutting.is_blank.Goals as goal

pub returns-then-counts : goal.returns-then-counts
returns-then-counts c =
    sym (c.loop-byte.invariant ∙ blank-ends c.args.spelled.now c.loop-byte.spot c.loop-byte.byte-index _ c.loop-byte-test.true refl (sym c.counts.ensures ∙ c.if-counts.true))

pub loop-byte-preserved : goal.loop-byte-preserved
loop-byte-preserved c =
    rw c.spot_after-spot.ensures (c.loop-byte.invariant ∙ blank-next c.args.spelled.now c.loop-byte.spot c.loop-byte.byte-index _ c.loop-byte-test.true refl (sym c.counts.ensures ∙ c.if-counts.false))

pub returns : goal.returns
returns c = sym (c.loop-byte.invariant ∙ blank-last c.args.spelled.now c.loop-byte.spot c.loop-byte.byte-index c.loop-byte-test.false)
