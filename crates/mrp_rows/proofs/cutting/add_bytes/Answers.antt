use Rattle.std.proofs.Common.{true, false, refl, sym, ap, ◌∙◌}
use Rattle.mrp_rows.specs.CellTexts.{Held}
use Rattle.mrp_rows.proofs.CellCuts.{cell-last, cell-next}
use Rattle.mrp_rows.proofs.cutting.add_bytes.Goals as goal
use Rattle.mrp_rows.proofs.cutting.add_bytes.Goals.{then-counts+in_ok-add_byte, else-counts}

pub loop-byte-preserved : goal.loop-byte-preserved
loop-byte-preserved c =
    let xs = c.args.spelled.now in
    let i = c.loop-byte.byte-index in
    elim c.if-counts.branch [
      | then-counts+in_ok-add_byte w ↦
          let added = w.in_ok-add_byte.ensures in
          rw (c.spot_after-spot.ensures, w.cells-is) (record {
            cells = ap (λ (h : Held). h.cells) added ∙ c.loop-byte.invariant.cells;
            begun = cell-next xs _ c.loop-byte.cells.begun w.add_byte.new.self.begun c.loop-byte.spot i _ true c.loop-byte-test.true refl (sym c.counts.ensures ∙ w.if-counts.true) (ap (λ (h : Held). h.begun) added) c.loop-byte.invariant.begun;
          })
      | else-counts w ↦
          rw (c.spot_after-spot.ensures, w.cells-is) (record {
            cells = c.loop-byte.invariant.cells;
            begun = cell-next xs _ c.loop-byte.cells.begun c.loop-byte.cells.begun c.loop-byte.spot i _ false c.loop-byte-test.true refl (sym c.counts.ensures ∙ w.if-counts.false) refl c.loop-byte.invariant.begun;
          })
    ]

pub returns : goal.returns
returns c =
    let all = cell-last c.args.spelled.now _ c.loop-byte.cells.begun c.loop-byte.spot c.loop-byte.byte-index c.loop-byte-test.false c.loop-byte.invariant.begun in
    rw (← all, ← c.loop-byte.invariant.cells) refl
