use Rattle.std.proofs.lemmas.Result.{err_from_is_err_and}
use Rattle.mrp_rows.specs.declared.fault.Table.TheVariants as t
use Rattle.mrp_tables.proofs.Refused.{refused}
use Rattle.mrp_tables.proofs.TableLaws.{before_script}
use Rattle.mrp_tables.proofs.master_and_script.MasterAndScript.read.Goals as goal

pub returns-in_err-master : goal.returns-in_err-master
returns-in_err-master c =
    let p = err_from_is_err_and c.from_residual.result c.from_residual.ensures.1 in
    rw (p.1, p.2) (λ earlier. refused c.args.sections.now t.Master c.in_err-master.field-0.0 earlier c.in_err-master.ensures.table)

pub returns-in_err-script : goal.returns-in_err-script
returns-in_err-script c =
    let p = err_from_is_err_and c.from_residual-in_err-script.result c.from_residual-in_err-script.ensures.1 in
    rw (p.1, p.2) (λ earlier. refused c.args.sections.now t.Script c.in_err-script.field-0.0 (before_script c.args.sections.now _ earlier c.in_ok-master.ensures.table) c.in_err-script.ensures.table)
