use Rattle.std.proofs.Common.{arith}
use Rattle.std.proofs.lemmas.Result.{on_ok_weaker}
use Rattle.mrp_report.proofs.lemmas.page.RowCells.{added_end, added_first, added_next}
use Rattle.mrp_report.proofs.page.Page.row.Goals as goal

pub loop-place-init : goal.loop-place-init
loop-place-init c = added_first c.args.self.now c.add_cell.new.self c.args.cells.now _ (omega arith) c.in_ok-add_cell.ensures

pub loop-place-preserved : goal.loop-place-preserved
loop-place-preserved c =
    added_next c.args.self.now c.loop-place.self c.add_next.new.self c.args.cells.now c.loop-place.place _ (omega arith) (omega arith) c.loop-place.invariant c.in_ok-add_next.ensures

pub returns : goal.returns
returns c =
    on_ok_weaker c.add.result
    (λ adds. added_end c.args.self.now c.loop-place.self c.add.new.self c.args.cells.now c.loop-place.place (omega arith) c.requires c.loop-place.invariant adds)
    c.add.ensures
