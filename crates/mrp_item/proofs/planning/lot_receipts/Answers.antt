use Rattle.std.proofs.Common.{◌≡◌, List, ℕ, length, subst, arith}
use Rattle.std.specs.Prelude.{IfOk}
use Rattle.mrp_phase.specs.Weeks.{in_week}
use Rattle.mrp_tables.specs.declared.item.LotRule.{LotRule}
use Rattle.mrp_item.specs.Limits.{HasSize}
use Rattle.mrp_item.proofs.SinglePieces.{lot_for_lot-is, lot_for_lot-row, period-is, period-row, past-same}
use Rattle.mrp_item.proofs.planning.lot_receipts.Goals as goal

pub returns-in-LotForLot-clause-value : goal.returns-in-LotForLot-clause-value
returns-in-LotForLot-clause-value c =
    let needs = c.args.needs.now in
    let (least, step) = c.orders_pieces-by_piece.ensures.0 c.if-by_piece.true in
    let rises = rw c.as_slice-rises.ensures.value at c.as_slice-rises.ensures.rises in
    subst (λ (xs : List ℕ). IfOk c.receipts.result (λ w. w ≡ xs)) (lot_for_lot-row c.args.item.now (length needs) (in_week needs) c.in-LotForLot.is least step rises) c.receipts.ensures.value

pub returns-in-LotForLot-clause-too_large : goal.returns-in-LotForLot-clause-too_large
returns-in-LotForLot-clause-too_large c =
    let needs = c.args.needs.now in
    let (least, step) = c.orders_pieces-by_piece.ensures.0 c.if-by_piece.true in
    let rises = rw c.as_slice-rises.ensures.value at c.as_slice-rises.ensures.rises in
    past-same c.receipts.result _ _ (lot_for_lot-is c.args.item.now (length needs) (in_week needs) c.in-LotForLot.is least step rises (length needs) (omega arith)) c.receipts.ensures.too_large

pub returns-in-Period-clause-value : goal.returns-in-Period-clause-value
returns-in-Period-clause-value c =
    let needs = c.args.needs.now in
    let item = c.args.item.now in
    let n = c.in-Period.weeks in
    let (least, step) = c.orders_pieces-by_piece.ensures.0 c.if-by_piece-2.true in
    let rises = rw c.as_slice-rises.ensures.value at c.as_slice-rises.ensures.rises in
    let some = (subst (λ (lot : LotRule). HasSize lot item.step) c.in-Period.is c.requires.sized).0 in
    let same = c.new-in-Period.ensures in
    subst (λ (xs : List ℕ). IfOk c.receipts-in-Period.result (λ w. w ≡ xs)) (period-row item n (length needs) (in_week needs) c.in-Period.is some least step rises) (rw same at c.receipts-in-Period.ensures.value)

pub returns-in-Period-clause-too_large : goal.returns-in-Period-clause-too_large
returns-in-Period-clause-too_large c =
    let needs = c.args.needs.now in
    let item = c.args.item.now in
    let n = c.in-Period.weeks in
    let (least, step) = c.orders_pieces-by_piece.ensures.0 c.if-by_piece-2.true in
    let rises = rw c.as_slice-rises.ensures.value at c.as_slice-rises.ensures.rises in
    let some = (subst (λ (lot : LotRule). HasSize lot item.step) c.in-Period.is c.requires.sized).0 in
    let same = c.new-in-Period.ensures in
    past-same c.receipts-in-Period.result _ _ (period-is item n (length needs) (in_week needs) c.in-Period.is some least step rises (length needs) (omega arith)) (rw same at c.receipts-in-Period.ensures.too_large)
