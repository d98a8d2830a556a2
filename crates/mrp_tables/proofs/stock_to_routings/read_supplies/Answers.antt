use Rattle.std.proofs.Common.{refl}
use Rattle.std.proofs.lemmas.Result.{err_from_is_err_and}
use Rattle.mrp_rows.specs.declared.fault.Table.TheVariants as t
use Rattle.mrp_tables.proofs.PartsRead.{behind_first}
use Rattle.mrp_tables.proofs.Refused.{refused}
use Rattle.mrp_tables.proofs.TableLaws.{whole_and}
use Rattle.mrp_tables.proofs.stock_to_routings.read_supplies.Goals as goal

pub returns-in_err-stock : goal.returns-in_err-stock
returns-in_err-stock c =
    let p = err_from_is_err_and c.from_residual.result c.from_residual.ensures.1 in
    rw (p.1, p.2) (refused c.args.sections.now t.Stock c.in_err-stock.field-0.0 (behind_first c.requires refl) c.in_err-stock.ensures.table)

pub returns-in_err-receipts : goal.returns-in_err-receipts
returns-in_err-receipts c =
    let p = err_from_is_err_and c.from_residual-in_err-receipts.result c.from_residual-in_err-receipts.ensures.1 in
    rw (p.1, p.2) (refused c.args.sections.now t.Receipts c.in_err-receipts.field-0.0 (behind_first c.requires (whole_and c.in_ok-stock.ensures.table refl)) c.in_err-receipts.ensures.table)
