use Rattle.std.proofs.Common.{refl}
use Rattle.std.proofs.lemmas.Result.{err_from_is_err_and}
use Rattle.mrp_rows.specs.declared.fault.Table.TheVariants as t
use Rattle.mrp_tables.proofs.Refused.{refused}
use Rattle.mrp_tables.proofs.TableLaws.{whole_and}
use Rattle.mrp_tables.proofs.first_tables.FirstTables.read.Goals as goal

pub returns-in_err-version : goal.returns-in_err-version
returns-in_err-version c =
    let p = err_from_is_err_and c.from_residual.result c.from_residual.ensures.1 in
    rw (p.1, p.2) (refused c.args.sections.now t.Calendar c.in_err-version.field-0.0 refl c.in_err-version.ensures)

pub returns-in_err-items : goal.returns-in_err-items
returns-in_err-items c =
    let p = err_from_is_err_and c.from_residual-in_err-items.result c.from_residual-in_err-items.ensures.1 in
    rw (p.1, p.2) (refused c.args.sections.now t.Items c.in_err-items.field-0.0 (whole_and c.in_ok-version.ensures refl) c.in_err-items.ensures.table)

pub returns-in_err-centres : goal.returns-in_err-centres
returns-in_err-centres c =
    let p = err_from_is_err_and c.from_residual-in_err-centres.result c.from_residual-in_err-centres.ensures.1 in
    rw (p.1, p.2) (refused c.args.sections.now t.Centres c.in_err-centres.field-0.0 (whole_and c.in_ok-version.ensures (whole_and c.in_ok-items.ensures.table refl)) c.in_err-centres.ensures.table)
