use Rattle.std.proofs.Common.{inr, arith}
use Rattle.std.proofs.lemmas.Result.{err_from_is_err_and}
use Rattle.mrp_item.proofs.planning.own_receipts.Goals as goal

pub returns-in_err-stock-clause-over : goal.returns-in_err-stock-clause-over
returns-in_err-stock-clause-over c =
    let p = err_from_is_err_and c.from_residual.result c.from_residual.ensures.1 in
    rw (p.1, p.2) (λ over. inr (omega (arith, c.in_err-stock.ensures.over over)))
